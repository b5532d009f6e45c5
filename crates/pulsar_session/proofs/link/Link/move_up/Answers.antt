use Rattle.std.proofs.Common.{◌≡◌, ◌∙◌, ap, sym, map, true}
use Rattle.pulsar_session.specs.Link.{has_room, moved_up}
use Rattle.pulsar_session.specs.Kept.{standing, table}
use Rattle.pulsar_session.proofs.Moving.{steps}
use Rattle.pulsar_session.proofs.link.Link.move_up.Goals as goal

pub up-preserved : goal.up-preserved
up-preserved c =
    let v = table c.up.self in
    let room : has_room v ≡ true = sym c.has_room.ensures ∙ c.up-test.true in
    ap (λ t. moved_up t.line t) c.in_ok-queue.ensures
    ∙ sym (steps (standing c.in-Some.first) (map standing c.pop_front.new.self.items) v room)
    ∙ ap (λ xs. moved_up (map standing xs) v) (sym c.in-Some.ensures.items)
    ∙ c.up.invariant
