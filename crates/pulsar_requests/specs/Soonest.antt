-- The first moment at which a request is due.
use Rattle.std.specs.Prelude.{ℕ, nat_lt, nat_le, Bool, false, if◌then◌else◌, List, [], ◌∷◌, Option, Some, None}
use Rattle.pulsar_requests.specs.Waits.{Pending, Waits, is_excused}

-- this moment, or the other where that is before it
abbrev pub sooner_of : ℕ → Option ℕ → ℕ
sooner_of d None = d
sooner_of d (Some e) = if nat_lt e d then e else d

-- the soonest of the deadlines, but those of the excused
abbrev pub soonest : List ℕ → List Pending → Option ℕ
soonest excused [] = None
soonest excused (p ∷ ps) =
    if is_excused excused p.creates p.awaits then soonest excused ps else Some (sooner_of p.deadline (soonest excused ps))

abbrev pub due_at : Waits → Option ℕ
due_at w = soonest w.excused w.waiting

-- a moment has come, where there is one
abbrev pub has_come : (now : ℕ) → Option ℕ → Bool
has_come now None = false
has_come now (Some d) = nat_le d now
