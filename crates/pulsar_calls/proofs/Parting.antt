-- The parts of a call: their tickets, and what became of each.
use Rattle.std.proofs.Common.{◌≡◌, ◌≢◌, ◌∙◌, ℕ, ap, refl, List, [], ◌∷◌, ◌++◌}
use Rattle.std.specs.BTreeMap.{is_at}
use Rattle.std.specs.Map.{lookup}
use Rattle.std.specs.Ordering.{nat_cmp}
use Rattle.pulsar_wire.specs.Failures.{Failure, OfPartialSend, NoMore, Sent}
use Rattle.pulsar_calls.specs.Content as content
use Rattle.pulsar_calls.specs.Parts.{outcome_at, outcomes_of, sent_with}

-- what became of some, and then of others
abbrev pub outcomes_onto : List (ℕ × Failure) → (tickets : List ℕ) → Sent → Sent
outcomes_onto failures [] more = more
outcomes_onto failures (t ∷ ts) more = outcome_at t (lookup (is_at (nat_cmp t)) failures) (outcomes_onto failures ts more)

pub onto_end : (failures : List (ℕ × Failure)) (ts : List ℕ) (t : ℕ) (more : Sent) →
    outcomes_onto failures (ts ++ t ∷ []) more ≡ outcomes_onto failures ts (outcome_at t (lookup (is_at (nat_cmp t)) failures) more)
onto_end failures [] t more = refl
onto_end failures (u ∷ ts) t more = ap (outcome_at u (lookup (is_at (nat_cmp u)) failures)) (onto_end failures ts t more)

pub onto_none : (failures : List (ℕ × Failure)) (ts : List ℕ) → outcomes_onto failures ts NoMore ≡ outcomes_of failures ts
onto_none failures [] = refl
onto_none failures (t ∷ ts) = ap (outcome_at t (lookup (is_at (nat_cmp t)) failures)) (onto_none failures ts)

-- they all went, or some of them failed
pub none_failed : (ts : List ℕ) (failures : List (ℕ × Failure)) → failures ≡ [] → sent_with ts failures ≡ content.Sends ts
none_failed ts failures none = ap (sent_with ts) none

pub some_failed : (ts : List ℕ) (failures : List (ℕ × Failure)) → failures ≢ [] →
    sent_with ts failures ≡ content.Failed (OfPartialSend (outcomes_of failures ts))
some_failed ts [] some = absurd (some refl)
some_failed ts (f ∷ failures) some = refl
