use Rattle.std.specs.Prelude.{length}
use Rattle.pulsar_shared_tests.proofs.passes.call_ready.Given as goal

abbrev pub ghosts-call_by_two-L-Ledger : goal.ghosts-call_by_two-L-Ledger
ghosts-call_by_two-L-Ledger g a = record { name = a.blank.name; parts = a.blank.parts }

abbrev pub ghosts-call_by_two-L-Opening : goal.ghosts-call_by_two-L-Opening
ghosts-call_by_two-L-Opening g a = record { opening = length a.traced.trace.items; given = g.C.Machine.given a.traced.client }
