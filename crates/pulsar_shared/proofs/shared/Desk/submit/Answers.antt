use Rattle.pulsar_shared.proofs.Traces.{submitted_had}
use Rattle.pulsar_shared.proofs.shared.Desk.submit.Goals as goal

pub returns-in-Ok-clause-stands : goal.returns-in-Ok-clause-stands
returns-in-Ok-clause-stands g c =
    submitted_had g.C.Machine.good _ _ _ _ _ c.args.self.now.traced.trace.items c.args.self.now.same c.args.self.now.traced.legal c.args.self.now.counted c.audit.ensures.bound
    c.apply.new.self.trace.items _ c.args.event c.in-Ok.receipt c.apply.ensures.given c.apply.new.self.legal c.in-Ok.ensures.entry c.in-Ok.ensures.index
