use Rattle.pulsar_serial.specs.Seats.{Belongs}
use Rattle.pulsar_shared_tests.proofs.numbers.draw.Given as goal

abbrev pub invariant-loop : goal.invariant-loop
invariant-loop g l = Belongs l.seat l.fn.ids
