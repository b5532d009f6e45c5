use Rattle.std.proofs.Common.{◌∙◌}
use Rattle.pulsar_shared.specs.Trace.{history}
use Rattle.pulsar_job.proofs.Begun.{fits-none, if-some, made-at, performs-driven}
use Rattle.pulsar_job.proofs.run.perform.Goals as goal

pub returns : goal.returns
returns g c =
    performs-driven (λ t. (g.C.Machine.given t.client, history t.trace.items)) c.drive.result.trace _ _ _ _ c.now-now.result (g.C.Machine.given c.in-Ok-new.traced.client) _ _ _
    (if-some c.drive.result.trace _ _ c.drive.ensures.first (λ keeps none. made-at (g.E.Edge.first c.args.edge.now) (g.E.Edge.first c.now-now.new.self) (g.E.Edge.first c.drive.new.edge) c.now-now.result c.now-now.ensures.first keeps none))
    (c.in-Ok-new.ensures.1 ∙ c.in-Ok.ensures)
    (c.drive.ensures.drives c.in-Ok-new.ensures.0 (g.E.Edge.failures c.args.edge.now) (fits-none _ _ _ c.now-now.ensures.grows))
