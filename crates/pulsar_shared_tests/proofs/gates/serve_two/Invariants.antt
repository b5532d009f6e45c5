use Rattle.std.specs.Prelude.{length}
use Rattle.pulsar_shared_tests.proofs.gates.serve_two.Given as goal

abbrev pub ghosts-serve-L-Ledger : goal.ghosts-serve-L-Ledger
ghosts-serve-L-Ledger g a = record { name = a.blank.name; parts = a.blank.parts }

abbrev pub ghosts-serve-L-Opening : goal.ghosts-serve-L-Opening
ghosts-serve-L-Opening g a = record { opening = length a.traced.trace.items; given = g.C.Machine.given a.traced.client }
