use Rattle.pulsar_job.specs.Driven.{edge_now}
use Rattle.pulsar_job.proofs.Turning.{rests}
use Rattle.pulsar_job.proofs.turns.end_turn.Goals as goal

pub returns : goal.returns
returns g c =
    λ w. rests w _ _ _ _ _ _ _ _ _ _ _ _ (edge_now g.E.Edge.failures g.E.Edge.first g.E.Edge.greatest c.now.new.self)
    (edge_now g.E.Edge.failures g.E.Edge.first g.E.Edge.greatest c.pause.new.self) c.now.result (c.in_ok-write_all.ensures w) (c.in_ok-hear_all.ensures w)
    c.in_ok-submit.ensures c.now.ensures.first c.now.ensures.greatest c.now.ensures.grows c.pause.ensures.first c.pause.ensures.greatest c.pause.ensures.grows
