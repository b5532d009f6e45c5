-- What has happened to a broker, and what it has given.  (Pulsar binary protocol, Framing)
use Rattle.std.specs.Prelude.{◌≡◌, ℕ, ◌==◌, List, [], ◌∷◌, ◌++◌, length, drop, if◌then◌else◌}
use Rattle.std.specs.List.{flat_map}
use Rattle.pulsar_frame.specs.Frame.{cut, frame_bytes}
use Rattle.pulsar_frame.specs.Message.{MessageValues}
use Rattle.pulsar_broker.specs.State.{State, Turn, Owed, fresh, turn, without}

-- a piece of bytes was fed to a link, what a link is owed was taken, or a link has ended
pub data Act : Type 0 where
  Fed : (link : ℕ) (piece : List ℕ) → Act
  Taken : (link : ℕ) → Act
  Ended : (link : ℕ) → Act

-- The newest act of a history is its first.

-- the pieces of a link since it last ended, joined
abbrev pub stream : (link : ℕ) → List Act → List ℕ
stream link [] = []
stream link (Fed l piece ∷ h) = if l == link then stream link h ++ piece else stream link h
stream link (Taken l ∷ h) = stream link h
stream link (Ended l ∷ h) = if l == link then [] else stream link h

-- the messages whose frames a piece ends: those of the stream with the piece, without those of the stream before it
abbrev pub ended_by : (piece before : List ℕ) → List MessageValues
ended_by piece before = drop (length (cut before)) (cut (before ++ piece))

-- messages of one link are answered, one after the other
abbrev pub turns : (url : List ℕ) (link : ℕ) → List MessageValues → State → Turn
turns url link [] s = record { state = s; given = [] }
turns url link (m ∷ ms) s =
    let first = turn url link m s in
    let others = turns url link ms first.state in
    record { state = others.state; given = first.given ++ others.given }

-- what a broker of this URL keeps after a history
unfoldable pub state : (url : List ℕ) → List Act → State
state url [] = fresh
state url (Fed link piece ∷ h) = (turns url link (ended_by piece (stream link h)) (state url h)).state
state url (Taken link ∷ h) = state url h
state url (Ended link ∷ h) = without link (state url h)

-- all frames that it has given, in the order of the frames that they answer
unfoldable pub frames : (url : List ℕ) → List Act → List Owed
frames url [] = []
frames url (Fed link piece ∷ h) = frames url h ++ (turns url link (ended_by piece (stream link h)) (state url h)).given
frames url (Taken link ∷ h) = frames url h
frames url (Ended link ∷ h) = frames url h

-- those of a link, as they are written
abbrev pub bytes_for : (link : ℕ) → Owed → List ℕ
bytes_for link o = if o.link == link then frame_bytes o.message else []

unfoldable pub given : (url : List ℕ) → List Act → (link : ℕ) → List ℕ
given url h link = flat_map (bytes_for link) (frames url h)

-- what was given to a link when it was last taken, or last ended: nothing of it is owed any more
abbrev pub settled : (url : List ℕ) → List Act → (link : ℕ) → List ℕ
settled url [] link = []
settled url (Fed l piece ∷ h) link = settled url h link
settled url (Taken l ∷ h) link = if l == link then given url h link else settled url h link
settled url (Ended l ∷ h) link = if l == link then given url h link else settled url h link

-- a take answers what was given to its link, without what is settled
abbrev pub Takes : (url : List ℕ) → List Act → (link : ℕ) → (answer : List ℕ) → Type 0
Takes url h link answer = given url h link ≡ settled url h link ++ answer
