use Rattle.pulsar_work.proofs.progress.Progress.end.Goals as goal

pub returns-clause-knows : goal.returns-clause-knows
returns-clause-knows c = λ es acked said well k. c.count.ensures.knows _ acked (c.in_ok-mark.ensures.knows es acked said well k)
