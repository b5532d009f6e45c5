use Rattle.pulsar_searches.proofs.replies.place_in_body.Goals as goal

pub returns-in-LookupTopicResponse : goal.returns-in-LookupTopicResponse
returns-in-LookupTopicResponse c = rw c.in-LookupTopicResponse.is c.place_told.ensures
