use Rattle.std.proofs.Common.{◌≡◌, ◌≤◌}
use Rattle.pulsar_serial.specs.Seats.{drawn_by, seen_by}
use Rattle.pulsar_serial.proofs.rule.SerialId.get.Given as goal

abbrev pub invariant-loop : goal.invariant-loop
invariant-loop g l =
    (goal.iterator-loop g).can_next l.iterator' × (goal.iterator-loop g).is_finite l.iterator'
    × (l.seat.seat.table_id ≡ l.fn.seat.seat.table_id) × (drawn_by l.seat ≡ drawn_by l.fn.seat) × (seen_by l.fn.seat ≤ seen_by l.seat)
