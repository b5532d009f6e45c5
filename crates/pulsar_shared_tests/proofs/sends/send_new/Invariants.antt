use Rattle.std.specs.Prelude.{length}
use Rattle.pulsar_shared_tests.proofs.sends.send_new.Given as goal

abbrev pub ghosts-send-L-Ledger : goal.ghosts-send-L-Ledger
ghosts-send-L-Ledger g a = record { name = a.blank.name; parts = a.blank.parts }

abbrev pub ghosts-send-L-Opening : goal.ghosts-send-L-Opening
ghosts-send-L-Opening g a = record { opening = length a.traced.trace.items; given = g.C.Machine.given a.traced.client }
