-- What follows from the definitions.
use Rattle.std.specs.Prelude.{◌≡◌, ◌↔◌, ◌⊎◌, true, ℕ, List, [], ◌∷◌, ◌++◌, Option, Some, None}
use Rattle.pulsar_wire.specs.Fits.{CommandInRange}
use Rattle.pulsar_wire.specs.declared.error.Reason.{Reason}
use Rattle.pulsar_frame.specs.Message.{MessageValues}
use Rattle.pulsar_frame.specs.Payload.{PayloadInRange}
use Rattle.pulsar_frame.specs.Frame.{Short, Refused, Whole, front, StandInFront, cut, left, bad, FitsFrame, IsReadAgain}
use Rattle.pulsar_wire.specs.declared.key.RequestKey.{RequestKey}
use Rattle.pulsar_wire.specs.declared.key.RequestKey.TheVariants.{RequestId, CloseConsumer}
use Rattle.pulsar_frame.specs.Key.{key, bears}
use Rattle.pulsar_frame.specs.History.{Act, fed, given, Leads}

-- A stream is cut frame by frame from its front, until there is less than a frame, or one that is refused.
abbrev pub CutsFrameByFrame : Type 0
CutsFrameByFrame = (s : List ℕ) →
    ((m : MessageValues) (rest : List ℕ) → front s ≡ Whole m rest
    → (cut s ≡ m ∷ cut rest) × (left s ≡ left rest) × (bad s ≡ bad rest))
    × (front s ≡ Short → (cut s ≡ []) × (left s ≡ s) × (bad s ≡ None))
    × ((r : Reason) → front s ≡ Refused r → (cut s ≡ []) × (left s ≡ s) × (bad s ≡ Some r))

-- The messages of a stream stand in its front, and with them any others that do.
abbrev pub CutsTheMost : Type 0
CutsTheMost = (s : List ℕ) →
    StandInFront (cut s) s (left s)
    × ((ms : List MessageValues) (rest : List ℕ) → StandInFront ms s rest → cut s ≡ ms ++ cut rest)

-- What comes in two pieces is cut as one.
abbrev pub CutsPiecesAsOne : Type 0
CutsPiecesAsOne = (s t : List ℕ) →
    (cut (s ++ t) ≡ cut s ++ cut (left s ++ t))
    × (left (s ++ t) ≡ left (left s ++ t))
    × (bad (s ++ t) ≡ bad (left s ++ t))

-- Behind a frame that is refused nothing is read, and the reason stays.
abbrev pub StaysBad : Type 0
StaysBad = (s t : List ℕ) (r : Reason) → bad s ≡ Some r →
    (cut (s ++ t) ≡ cut s) × (left (s ++ t) ≡ left s ++ t) × (bad (s ++ t) ≡ Some r)

-- Whatever the pieces, a reader gives the messages of all that was fed, in order: those that it still has to give are
-- the messages of what it holds, and what it will refuse is what all that was fed is refused for.
abbrev pub GivesTheMessagesFed : Type 0
GivesTheMessagesFed = (acts : List Act) (held : List ℕ) → Leads acts [] held →
    (cut (fed acts) ≡ given acts ++ cut held) × (left (fed acts) ≡ left held) × (bad (fed acts) ≡ bad held)

-- A frame that was written is read again, whatever follows.
abbrev pub ReadsFramesWritten : Type 0
ReadsFramesWritten = (m : MessageValues) →
    FitsFrame m → CommandInRange m.command → PayloadInRange m.payload → IsReadAgain m

-- a key says that a consumer is closed under a number, which is that of the other key, of a request
abbrev pub Closes : Option RequestKey → RequestKey → Type 0
Closes own k = (c : ℕ) × (r : ℕ) × (own ≡ Some (CloseConsumer c r)) × (k ≡ RequestId r)

-- A message bears the key that it has. One that closes a consumer also bears that of the request of its number, and no
-- message bears another.
abbrev pub BearsItsKey : Type 0
BearsItsKey = (m : MessageValues) (k : RequestKey) → (bears m k ≡ true) ↔ ((key m ≡ Some k) ⊎ Closes (key m) k)
