-- For the code's contracts alone: what a demo that goes on stands for.
use Rattle.std.specs.Prelude.{◌≡◌, ℕ, Bool, true, false, List, [], ◌∷◌, ◌++◌, Option, Some, None, map, reverse, string_bytes}
use Rattle.std.specs.Global.{Box, Vec}
use Rattle.pulsar_wire.specs.Row.{spelling}
use Rattle.pulsar_wire.specs.Rows.{message_id}
use Rattle.pulsar_wire.specs.Views.{message_id_values}
use Rattle.pulsar_calls.specs.declared.event.Event.{Event}
use Rattle.pulsar_calls.specs.declared.effect.Effect.{Effect}
use Rattle.pulsar_calls.specs.declared.effect.Handed.{Handed}
use Rattle.pulsar_calls.specs.Content.{Heard, heard}
use Rattle.pulsar_client.specs.History.{step}
use Rattle.pulsar_calls.specs.Steps.{Step}
use Rattle.pulsar_broker.specs.History.{Act, Ended, Fed, Taken, settled}
use Rattle.pulsar_broker.specs.Stands as broker
use Rattle.pulsar_broker.specs.declared.broker.Broker.{Broker}
use Rattle.pulsar_cli.specs.Demo.{Answered, IsAnswered, IsDemo, Item, Numbers, acked_count, byte_count, call_count, consumer_ticket, fed, item_count, piece_of, received, received_count, sent_count, url}
use Rattle.pulsar_cli.specs.declared.play.Play.{Play}
use Rattle.pulsar_cli.specs.declared.played.Demo.{Demo}
use Rattle.pulsar_cli.specs.declared.tally.Tally.{Tally}

-- an entry is its step
abbrev pub step_of : Event × Vec Effect → Step
step_of p = step p.0 p.1.items

-- the history of steps, newest first
abbrev pub history : Vec (Event × Vec Effect) → List Step
history steps = reverse (map step_of steps.items)

-- what was counted of a demo
abbrev pub numbers : Demo → Numbers
numbers d = record { sent = d.sent; received = d.received; bytes = d.bytes; acked = d.acked }

abbrev pub counted : Tally → Numbers
counted t = record { sent = t.sent; received = t.received; bytes = t.bytes; acked = t.acked }

abbrev pub item_in : Handed → Item
item_in h =
    record {
      topic = string_bytes h.topic;
      id = spelling message_id (message_id_values h.id.id);
      bytes = h.payload.bytes.items;
    }

-- an event that is there, or not
abbrev pub heard_in : Option (Box Event) → Option Heard
heard_in None = None
heard_in (Some event) = Some (heard event.value)

-- what was fed, and which links have ended
abbrev pub without_takes : List Act → List Act
without_takes [] = []
without_takes (Fed link piece ∷ acts) = Fed link piece ∷ without_takes acts
without_takes (Taken link ∷ acts) = without_takes acts
without_takes (Ended link ∷ acts) = Ended link ∷ without_takes acts

-- the broker was fed what was written, and what was taken from it has come to the client, or is about to
pub record Sides (pending : List ℕ) (h : List Step) (b : Broker) : Type 0 where
  pub acts : List Act
  pub stands : broker.StandsFor url acts b
  pub fed : without_takes acts ≡ fed h
  pub taken : settled url acts 0 ≡ received h ++ pending

-- what is counted
pub record Counts (seed count : ℕ) (t : Tally) (h : List Step) : Type 0 where
  pub drawn : t.seed ≡ seed
  pub consumer : t.consumer ≡ consumer_ticket count
  pub calls : t.calls ≡ call_count h
  pub items : t.items ≡ item_count h
  pub sent : t.sent ≡ sent_count count h
  pub received : t.received ≡ received_count seed h
  pub bytes : t.bytes ≡ byte_count seed h
  pub acked : t.acked ≡ acked_count h

-- nothing else has changed than what is counted of items
pub record SameElse (old new : Tally) : Type 0 where
  pub seed : new.seed ≡ old.seed
  pub consumer : new.consumer ≡ old.consumer
  pub calls : new.calls ≡ old.calls
  pub sent : new.sent ≡ old.sent
  pub acked : new.acked ≡ old.acked

-- the steps that are kept, where they are to be, are those of this history
abbrev pub Keeps : (keeps : Bool) → Option (Vec (Event × Vec Effect)) → List Step → Type 0
Keeps true (Some steps) h = history steps ≡ h
Keeps true None h = ⊥
Keeps false steps h = Unit {0}

-- a play stands for this history; what is pending was taken from the broker and is about to come
pub record Holds (keeps : Bool) (pending : List ℕ) (seed count : ℕ) (p : Play) (h : List Step) : Type 0 where
  pub kept : Keeps keeps p.steps h
  pub sides : Sides pending h p.broker.value
  pub answered : Answered h
  pub counts : Counts seed count p.tally h

-- and so does a client
pub record Plays (stands : List Step → Type 0) (keeps : Bool) (pending : List ℕ) (seed count : ℕ) (p : Play) (h : List Step) : Type 0 where
  pub client : stands h
  pub holds : Holds keeps pending seed count p h

-- one play leads to another, and its history to a later one
abbrev pub Leads : (List Step → List Step → Type 0) → (old new : List Step → Type 0) → (seed count : ℕ) → Play → Play → Type 0
Leads R old new seed count p q =
    (keeps : Bool) (h : List Step) → Plays old keeps [] seed count p h → (later : List Step) × Plays new keeps [] seed count q later × R h later

-- so it is with an event
abbrev pub LeadsBy : (Heard → List Step → List Step → Type 0) → Heard → (old new : List Step → Type 0) → (seed count : ℕ) → Play → Play → Type 0
LeadsBy R e old new seed count p q =
    (keeps : Bool) (h : List Step) → Plays old keeps (piece_of e) seed count p h → IsAnswered e h
    → (later : List Step) × Plays new keeps [] seed count q later × R e h later

-- a demo has been played to its end
pub record IsPlayed (keeps : Bool) (seed count : ℕ) (p : Play) : Type 0 where
  pub history : List Step
  pub kept : Keeps keeps p.steps history
  pub demo : IsDemo seed count history (counted p.tally)
