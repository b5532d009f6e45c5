-- The links of a run: what came on each, what was written to it, and how it was dialed.
use Rattle.std.specs.Prelude.{◌≡◌, ◌≤◌, ◌+◌, ◌-◌, ◌^◌, ◌⊎◌, ◌==◌, ◌||◌, Bool, true, false, if◌then◌else◌, ℕ, List, [], ◌∷◌, ◌++◌, Option, Some, None}
use Rattle.std.specs.List.{AllByRecursion, flat_map, list_any}
use Rattle.pulsar_wire.specs.declared.error.IoKind.{IoKind}
use Rattle.pulsar_wire.specs.declared.error.IoKind.TheVariants as kind
use Rattle.pulsar_calls.specs.Content.{Stop, Heard, Called, Opened, FailedToOpen, Bytes, Lost, Drain, Ticked, Shown, Connect, Write}
use Rattle.pulsar_calls.specs.Steps.{Step}
use Rattle.pulsar_pumps.specs.Outside.{Rose}

-- What is seen of a link that was opened: its number; what its input has given, and its output has taken, where they tell that; and how many
-- faults each has counted.
pub record LinkSeen : Type 0 where
  pub number : ℕ
  pub given : Option (List ℕ)
  pub input_faults : ℕ
  pub taken : Option (List ℕ)
  pub output_faults : ℕ

abbrev pub link_seen : {I O : Type 0} → (I → Option (List ℕ)) → (I → ℕ) → (O → Option (List ℕ)) → (O → ℕ) → ℕ × I × O → LinkSeen
link_seen given input_faults taken output_faults half =
    record {
      number = half.0;
      given = given half.1;
      input_faults = input_faults half.1;
      taken = taken half.2;
      output_faults = output_faults half.2;
    }

-- WHAT CAME AND WHAT WAS WRITTEN

abbrev pub piece_of : (link : ℕ) → Heard → List ℕ
piece_of l (Bytes k piece) = if k == l then piece else []
piece_of l _ = []

-- the bytes that came on a link, joined
abbrev pub heard_on : (link : ℕ) → List Step → List ℕ
heard_on l [] = []
heard_on l (s ∷ h) = heard_on l h ++ piece_of l s.event

-- the bytes that were written in a step
abbrev pub bytes_of : Shown → List ℕ
bytes_of (Write l bytes) = bytes
bytes_of _ = []

-- a drain of a link writes to that link alone
abbrev pub drains : (link : ℕ) → Heard → Bool
drains l (Drain k most) = k == l
drains l _ = false

abbrev pub written_in : (link : ℕ) → Step → List ℕ
written_in l s = if drains l s.event then flat_map bytes_of s.effects else []

-- the bytes that were written to a link, joined
abbrev pub written_on : (link : ℕ) → List Step → List ℕ
written_on l [] = []
written_on l (s ∷ h) = written_on l h ++ written_in l s

-- the link was lost
abbrev pub loses : (link : ℕ) → Heard → Bool
loses l (Lost k) = k == l
loses l _ = false

abbrev pub has_lost : (link : ℕ) → List Step → Bool
has_lost l h = list_any (λ s. loses l s.event) h

-- the event names a link that is open, or was
abbrev pub uses : (link : ℕ) → Heard → Bool
uses l (Opened k) = k == l
uses l (Bytes k piece) = k == l
uses l (Drain k most) = k == l
uses l (Lost k) = k == l
uses l _ = false

abbrev pub is_used : (link : ℕ) → List Step → Bool
is_used l h = list_any (λ s. uses l s.event) h

-- the link was opened
abbrev pub opens : (link : ℕ) → Heard → Bool
opens l (Opened k) = k == l
opens l _ = false

abbrev pub was_opened : (link : ℕ) → List Step → Bool
was_opened l h = list_any (λ s. opens l s.event) h

-- The link was opened. The bytes that came on it are what its input has given, where that is told. What its output has taken is the bytes that
-- were written to it, where that is told, or a front of them where it has had a fault. It was lost only where one of its halves has had a fault.
pub record Carries (h : List Step) (l : LinkSeen) : Type 0 where
  pub opened : was_opened l.number h ≡ true
  pub heard : (bytes : List ℕ) → l.given ≡ Some bytes → heard_on l.number h ≡ bytes
  pub written : (bytes : List ℕ) → l.taken ≡ Some bytes
      → (rest : List ℕ) × (written_on l.number h ≡ bytes ++ rest) × ((rest ≡ []) ⊎ Rose 0 l.output_faults)
  pub lost : has_lost l.number h ≡ true → Rose 0 l.input_faults ⊎ Rose 0 l.output_faults

-- it is one of these links
abbrev pub is_one_of : List LinkSeen → (link : ℕ) → Bool
is_one_of ls l = list_any (λ k. k.number == l) ls

-- no two have one number
abbrev pub Apart : List LinkSeen → Type 0
Apart [] = Unit {0}
Apart (l ∷ ls) = (is_one_of ls l.number ≡ false) × Apart ls

-- these are the links that were opened, each once
pub record AreLinks (h : List Step) (ls : List LinkSeen) : Type 0 where
  pub all : AllByRecursion (Carries h) ls
  pub once : Apart ls
  pub others : (l : ℕ) → is_used l h ≡ true → is_one_of ls l ≡ true

-- HOW LINKS ARE DIALED

-- the links that a step wants to be dialed
abbrev pub dialed_for : Shown → List ℕ
dialed_for (Connect l host port) = l ∷ []
dialed_for _ = []

abbrev pub wants : Step → List ℕ
wants s = flat_map dialed_for s.effects

-- the link was dialed
abbrev pub answers : (link : ℕ) → Heard → Bool
answers l (Opened k) = k == l
answers l (FailedToOpen k why) = k == l
answers l _ = false

abbrev pub was_dialed : (link : ℕ) → List Step → Bool
was_dialed l h = list_any (λ s. answers l s.event) h

abbrev pub is_stop : Heard → Bool
is_stop (Called Stop) = true
is_stop _ = false

abbrev pub is_tick : Heard → Bool
is_tick (Ticked now) = true
is_tick _ = false

abbrev pub has_tick : List Step → Bool
has_tick h = list_any (λ s. is_tick s.event) h

abbrev pub was_stopped : List Step → Bool
was_stopped h = list_any (λ s. is_stop s.event) h

-- where two ticks follow the Connect of a link, it was dialed before the second of them, or the client was stopped
abbrev pub DialsInTime : List Step → Type 0
DialsInTime h =
    (before between after : List Step) (wanted tick : Step) (l : ℕ) → h ≡ after ++ tick ∷ (between ++ wanted ∷ before)
    → is_tick tick.event ≡ true → has_tick between ≡ true → list_any (λ k. k == l) (wants wanted) ≡ true
    → (was_dialed l between || was_stopped between) ≡ true

-- how many dials of a kind have failed
abbrev pub is_kind : IoKind → IoKind → Bool
is_kind kind.ConnectionRefused kind.ConnectionRefused = true
is_kind kind.TimedOut kind.TimedOut = true
is_kind kind.Other kind.Other = true
is_kind _ _ = false

abbrev pub failed_as : IoKind → Heard → ℕ
failed_as k (FailedToOpen l j) = if is_kind j k then 1 else 0
failed_as k _ = 0

abbrev pub failures_in : IoKind → List Step → ℕ
failures_in k [] = 0
failures_in k (s ∷ h) = failures_in k h + failed_as k s.event

-- THE TIME

-- no moment that it has told is behind this one
abbrev pub IsTold : Option ℕ → ℕ → Type 0
IsTold None now = ⊥
IsTold (Some greatest) now = now ≤ greatest

abbrev pub TicksWithin : Option ℕ → List Step → Type 0
TicksWithin greatest h = (before after : List Step) (s : Step) (now : ℕ) → h ≡ after ++ s ∷ before → s.event ≡ Ticked now → IsTold greatest now

-- No more dials of a kind have failed than an edge has counted, unless its count stands at its end. No tick is behind its greatest moment.
pub record Fits (before after : IoKind → ℕ) (greatest : Option ℕ) (h : List Step) : Type 0 where
  pub failures : (k : IoKind) → (before k + failures_in k h ≤ after k) ⊎ (2 ^ 64 - 1 ≤ after k)
  pub ticks : TicksWithin greatest h
