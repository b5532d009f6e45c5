use Rattle.pulsar_shared.proofs.Traces.{told_more}
use Rattle.pulsar_job.proofs.kept.KeptSubmitter.submit.Goals as goal

pub returns-clause-told : goal.returns-clause-told
returns-clause-told g c = told_more c.apply.result c.args.event c.args.self.now.traced.trace.items c.apply.new.self.trace.items c.apply.ensures.entry c.apply.ensures.index
