-- What is outside: the bytes that come and go, the faults, and the time.
use Rattle.std.specs.Prelude.{◌≡◌, ℕ, ◌-◌, ◌^◌, ◌<◌, ◌⊎◌, ◌++◌, max, List, Option, Some, None}
use Rattle.pulsar_wire.specs.declared.error.IoKind.{IoKind}
use Rattle.pulsar_wire.specs.declared.error.IoKind.TheVariants as kind
use Rattle.pulsar_pumps.specs.declared.outside.edge.FailingEdge.{FailingEdge}

-- a count of faults has risen; one that stands at its end counts as risen
abbrev pub Rose : ℕ → ℕ → Type 0
Rose old new = (old < new) ⊎ (new ≡ 2 ^ 64 - 1)

-- what is told grows by these, where it is told; and who does not tell it goes on so
abbrev pub Grows : {A : Type 0} → Option (List A) → Option (List A) → List A → Type 0
Grows {A} old new more = ((xs : List A) → old ≡ Some xs → new ≡ Some (xs ++ more)) × (old ≡ None → new ≡ None)

-- the first of the moments so far, and one more
abbrev pub first_of : Option ℕ → ℕ → ℕ
first_of (Some first) now = first
first_of None now = now

-- the greatest of them
abbrev pub later_of : Option ℕ → ℕ → ℕ
later_of (Some greatest) now = max greatest now
later_of None now = now

-- FOR THE CODE'S CONTRACTS ALONE

-- how many dials of an edge in memory failed with this kind
abbrev pub failures_of : FailingEdge → IoKind → ℕ
failures_of e kind.ConnectionRefused = e.refused
failures_of e kind.TimedOut = e.timed_out
failures_of e kind.Other = e.other
