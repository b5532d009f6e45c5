-- What happens to a reader of frames.
use Rattle.std.specs.Prelude.{◌≡◌, ℕ, List, [], ◌∷◌, ◌++◌}
use Rattle.pulsar_frame.specs.Message.{MessageValues}
use Rattle.pulsar_frame.specs.Frame.{Whole, front}

-- a piece was fed, or a message was given
pub data Act : Type 0 where
  Fed : List ℕ → Act
  Given : MessageValues → Act

-- the pieces, joined
abbrev pub fed : List Act → List ℕ
fed [] = []
fed (Fed piece ∷ acts) = piece ++ fed acts
fed (Given m ∷ acts) = fed acts

-- the messages, in order
abbrev pub given : List Act → List MessageValues
given [] = []
given (Fed piece ∷ acts) = given acts
given (Given m ∷ acts) = m ∷ given acts

-- From the bytes that a reader held to those that it holds, as its contracts say of each act.
abbrev pub Leads : List Act → List ℕ → List ℕ → Type 0
Leads [] old new = new ≡ old
Leads (Fed piece ∷ acts) old new = Leads acts (old ++ piece) new
Leads (Given m ∷ acts) old new = (rest : List ℕ) × (front old ≡ Whole m rest) × Leads acts rest new
