-- Sends that are parts of one call: which of them failed before they were queued, and what the call ends with.
use Rattle.std.specs.Prelude.{ℕ, List, [], ◌∷◌, Option, Some, None}
use Rattle.std.specs.BTreeMap.{insert_entry, is_at}
use Rattle.std.specs.Map.{lookup}
use Rattle.std.specs.Ordering.{nat_cmp}
use Rattle.pulsar_wire.specs.Failures.{Failure, OfPartialSend, Sent, NoMore, Went, Failed as Fails}
use Rattle.pulsar_calls.specs.Content.{Said, Sends, Failed}
use Rattle.pulsar_calls.specs.Content.{numbers_from}

-- the send of a ticket failed so, or did not fail
abbrev pub failed_with : (ticket : ℕ) → Option Failure → List (ℕ × Failure) → List (ℕ × Failure)
failed_with t None failures = failures
failed_with t (Some f) failures = insert_entry nat_cmp failures t f

-- what became of each
abbrev pub outcome_at : (ticket : ℕ) → Option Failure → Sent → Sent
outcome_at t None more = Went t more
outcome_at t (Some f) more = Fails f more

abbrev pub outcomes_of : List (ℕ × Failure) → (tickets : List ℕ) → Sent
outcomes_of failures [] = NoMore
outcomes_of failures (t ∷ ts) = outcome_at t (lookup (is_at (nat_cmp t)) failures) (outcomes_of failures ts)

-- they were sent, or some failed
abbrev pub sent_with : (tickets : List ℕ) → List (ℕ × Failure) → Said
sent_with ts [] = Sends ts
sent_with ts (f ∷ fs) = Failed (OfPartialSend (outcomes_of (f ∷ fs) ts))

abbrev pub sent_from : (first count : ℕ) → List (ℕ × Failure) → Said
sent_from first count failures = sent_with (numbers_from first count) failures
