use Rattle.pulsar_job.proofs.Tells.{entry-steps}
use Rattle.pulsar_job.proofs.kept.Kept.apply.Goals as goal

pub returns : goal.returns
returns g c = entry-steps c.apply.result c.args.event c.args.self.now.traced.trace.items c.apply.new.self.trace.items c.apply.ensures.entry
