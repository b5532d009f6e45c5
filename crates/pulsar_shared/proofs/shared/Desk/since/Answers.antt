use Rattle.pulsar_shared.proofs.Traces.{since_had}
use Rattle.pulsar_shared.proofs.shared.Desk.since.Goals as goal

pub returns-clause-had : goal.returns-clause-had
returns-clause-had g c = since_had g.C.Machine.good _ _ _ _ _ c.args.self.now.traced.trace.items c.args.self.now.same c.args.self.now.traced.legal c.args.self.now.counted c.audit.ensures.bound c.copies.result c.args.from c.copies.ensures
