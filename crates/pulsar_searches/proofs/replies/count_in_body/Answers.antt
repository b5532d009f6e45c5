use Rattle.pulsar_searches.proofs.replies.count_in_body.Goals as goal

pub returns-in-PartitionedTopicMetadataResponse : goal.returns-in-PartitionedTopicMetadataResponse
returns-in-PartitionedTopicMetadataResponse c = rw c.in-PartitionedTopicMetadataResponse.is c.count_told.ensures
