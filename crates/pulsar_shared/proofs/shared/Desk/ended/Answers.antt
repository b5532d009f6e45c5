use Rattle.pulsar_shared.proofs.Traces.{ended_had}
use Rattle.pulsar_shared.proofs.shared.Desk.ended.Goals as goal

pub returns-clause-had : goal.returns-clause-had
returns-clause-had g c = ended_had g.C.Machine.good _ _ _ _ _ c.args.self.now.traced.trace.items c.args.self.now.same c.args.self.now.traced.legal c.args.self.now.counted c.audit.ensures.bound (λ o h l b. ∥ g.C.Machine.says_ended o h l b ∥₁) c.link_ended.result c.args.link c.link_ended.ensures.ended
