use Rattle.pulsar_client.proofs.future.SendFuture.poll.Goals as goal

pub returns-clause-polled : goal.returns-clause-polled
returns-clause-polled g c = λ o h taken s. c.told.ensures c.args.self.now.ticket h taken (c.take_answer-taken.ensures.taken o h taken s)
