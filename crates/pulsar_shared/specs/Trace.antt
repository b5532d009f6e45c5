-- The trace of a client as plain data: its steps, oldest first.
use Rattle.std.specs.Prelude.{◌≡◌, ◌≤◌, ◌||◌, ℕ, ◌+◌, Bool, true, false, List, [], ◌∷◌, length, map, reverse}
use Rattle.std.specs.Global.{Vec}
use Rattle.pulsar_calls.specs.declared.event.Event.{Event}
use Rattle.pulsar_calls.specs.declared.effect.Effect.{Effect}
use Rattle.pulsar_calls.specs.Steps.{Step}
use Rattle.pulsar_machine.specs.Options.{Options}
use Rattle.pulsar_machine.specs.Machine.{step}
use Rattle.pulsar_pumps.specs.Made.{Made, OfLink, NoLink, Dialed, Came, WasLost, MayWrite, of_link}

-- an entry is its step
abbrev pub step_of : Event × Vec Effect → Step
step_of p = step p.0 p.1.items

abbrev pub steps : List (Event × Vec Effect) → List Step
steps entries = map step_of entries

-- the history of a trace, newest first
abbrev pub history : List (Event × Vec Effect) → List Step
history entries = reverse (steps entries)

-- the steps are, oldest first, a good history of these options
abbrev pub Legal : (good : Options → List Step → Type 0) → Options → List Step → Type 0
Legal good o ss = ∥ good o (reverse ss) ∥₁

-- steps with their places, from the place n on
abbrev pub numbered : ℕ → List Step → List Made
numbered n [] = []
numbered n (s ∷ ss) = record { index = n; event = s.event; effects = s.effects } ∷ numbered (n + 1) ss

-- what the client behind a lock had done at one moment: a good history of these options, at least as long as this
pub record Had (good : Options → List Step → Type 0) (o : Options) (least : ℕ) (ss : List Step) : Type 0 where
  pub legal : Legal good o ss
  pub long : least ≤ length ss

-- an event is none that asks for bytes to write
abbrev pub is_new : OfLink → Bool
is_new NoLink = true
is_new (Dialed l) = true
is_new (Came l piece) = true
is_new (WasLost l) = true
is_new (MayWrite l) = false

abbrev pub has_news : List Step → Bool
has_news [] = false
has_news (s ∷ ss) = is_new (of_link s.event) || has_news ss
