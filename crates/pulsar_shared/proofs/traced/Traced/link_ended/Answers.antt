use Rattle.std.proofs.Math.Logic.{∥∥₁_map}
use Rattle.pulsar_shared.specs.Trace.{history}
use Rattle.pulsar_shared.proofs.traced.Traced.link_ended.Goals as goal

pub returns-clause-ended : goal.returns-clause-ended
returns-clause-ended g c =
    let traced = c.args.self.now in
    ∥∥₁_map (traced.stands c.if-self.false) (λ s. c.link_ended.ensures (g.C.Machine.given traced.client) (history traced.trace.items) s)
