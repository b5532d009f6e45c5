-- What a broker stands for.
use Rattle.std.specs.Prelude.{◌≡◌, ◌++◌, ℕ, Bool, true, false, List, [], Option, Some, None, string_bytes}
use Rattle.std.specs.BTreeMap.{get}
use Rattle.std.specs.List.{flat_map}
use Rattle.std.specs.Option.{is_some}
use Rattle.std.specs.Ordering.{nat_cmp}
use Rattle.pulsar_frame.specs.Frame.{bad, cut, left}
use Rattle.pulsar_wire.specs.declared.error.Reason.{Reason}
use Rattle.pulsar_broker.specs.State.{Turn}
use Rattle.pulsar_broker.specs.History.{Act, bytes_for, ended_by, given, settled, state, stream, turns}
use Rattle.pulsar_broker.specs.Kept.{IsKept, owed_on, state_in}
use Rattle.pulsar_broker.specs.declared.broker.Broker.{Broker}
use Rattle.pulsar_broker.specs.declared.broker.Reading.{Reading}
use Rattle.pulsar_broker.specs.declared.broker.Reading.TheVariants.{Reads, Refused}

-- a call ran out of memory
abbrev pub HasFailed : Broker → Type 0
HasFailed b = b.failed ≡ true

-- what is read where these bytes are left, which are refused for this reason, or for none
abbrev pub IsReading : Reading → (rest : List ℕ) → Option Reason → Type 0
IsReading (Reads reader) rest reason = reader ≡ rest
IsReading Refused rest reason = is_some reason ≡ true

-- what is read of a stream: its reader holds what is left of it behind its frames, or what is left is refused
abbrev pub ReadsOn : Option Reading → (stream : List ℕ) → Type 0
ReadsOn None stream = left stream ≡ []
ReadsOn (Some reading) stream = IsReading reading (left stream) (bad stream)

-- A broker stands for a history where it has this URL, reads what is left of each stream, keeps the state of that history, owes to each link what
-- was given and is not settled, and has not run out of memory.
pub record StandsFor (url : List ℕ) (h : List Act) (b : Broker) : Type 0 where
  pub named : string_bytes b.url ≡ url
  pub reads : (link : ℕ) → ReadsOn (get nat_cmp b.readings link) (stream link h)
  pub keeps : state_in b.tables ≡ state url h
  pub kept : IsKept b.tables
  pub owes : (link : ℕ) → given url h link ≡ settled url h link ++ owed_on b.outbox link
  pub whole : b.failed ≡ false

-- FOR THE CODE'S CONTRACTS ALONE: what a call inside has answered

-- the same URL, and the same readings of links
pub record IsSameBut (old new : Broker) : Type 0 where
  pub url : new.url ≡ old.url
  pub readings : new.readings ≡ old.readings

-- frames were answered so
pub record HasAnswered (turn : Turn) (old new : Broker) : Type 0 where
  pub same : IsSameBut old new
  pub state : state_in new.tables ≡ turn.state
  pub given : (l : ℕ) → owed_on new.outbox l ≡ owed_on old.outbox l ++ flat_map (bytes_for l) turn.given
  pub kept : IsKept new.tables

-- All frames in front of a reader were answered, and it holds what is left, which is whole or refused.
pub record HasHeard (url : List ℕ) (link : ℕ) (before after : List ℕ) (whole : Bool) (old new : Broker) : Type 0 where
  pub answered : HasAnswered (turns url link (cut before) (state_in old.tables)) old new
  pub rest : after ≡ left before
  pub refused : whole ≡ false → is_some (bad before) ≡ true

-- what is read of a link then
pub record HasRead (url : List ℕ) (link : ℕ) (before : List ℕ) (reading : Reading) (old new : Broker) : Type 0 where
  pub answered : HasAnswered (turns url link (cut before) (state_in old.tables)) old new
  pub reads : IsReading reading (left before) (bad before)

-- what is read of a link behind one more piece
pub record HasGoneOn (url : List ℕ) (link : ℕ) (piece stream : List ℕ) (after : Reading) (old new : Broker) : Type 0 where
  pub answered : HasAnswered (turns url link (ended_by piece stream) (state_in old.tables)) old new
  pub reads : IsReading after (left (stream ++ piece)) (bad (stream ++ piece))
