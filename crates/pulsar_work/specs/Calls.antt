-- The calls of `produce` and `consume`.
use Rattle.std.specs.Prelude.{◌≡◌, ◌<◌, ◌⊎◌, ◌==◌, ◌&&◌, not, Bool, true, false, ℕ, List, [], ◌∷◌, ◌++◌, length, map, take, Some}
use Rattle.std.specs.List.{flat_map, list_any}
use Rattle.std.specs.Option.{option_map, option_to_list}
use Rattle.pulsar_wire.specs.Row.{reading}
use Rattle.pulsar_wire.specs.Rows.{message_id}
use Rattle.pulsar_wire.specs.declared.commands.enumerations.SubType.TheVariants.{Shared}
use Rattle.pulsar_wire.specs.declared.commands.enumerations.InitialPosition.TheVariants.{Earliest}
use Rattle.pulsar_messages.specs.Content.{empty_consumer_options, empty_producer_options}
use Rattle.pulsar_incoming.specs.Content.{ConsumerWanted, no_consumer}
use Rattle.pulsar_messages.specs.Message.{bare}
use Rattle.pulsar_outgoing.specs.Wanted.{ProducerWanted, no_producer}
use Rattle.pulsar_calls.specs.Content.{Asked, Build, Stop, Producer, Send, Consumer, Ack, Heard, Called, Said, Failed, Shown, Ends, Hands, FindsEnd}
use Rattle.pulsar_calls.specs.Steps.{Step}
use Rattle.pulsar_work.specs.Report.{effects_of, errors_of}

-- what is to be done: a message is sent for each line, or so many messages are taken by a subscription
pub data Work : Type 0 where
  Sends : (topic : List ℕ) (lines : List (List ℕ)) → Work
  Takes : (topic subscription : List ℕ) (count : ℕ) → Work

-- the calls of a history, oldest first
abbrev pub call_of : Heard → List Asked
call_of (Called asked) = asked ∷ []
call_of _ = []

abbrev pub calls : List Step → List Asked
calls [] = []
calls (s ∷ h) = calls h ++ call_of s.event

-- a producer of a topic, whose messages wait for room on their connection
abbrev pub producer_of : List ℕ → ProducerWanted
producer_of topic = record no_producer { topic = Some topic; options = record empty_producer_options { block_queue_if_full = true } }

-- a consumer of a topic, by a shared subscription that begins with the earliest message
abbrev pub consumer_of : (topic subscription : List ℕ) → ConsumerWanted
consumer_of topic subscription =
    record no_consumer {
      topics = topic ∷ [];
      subscription = Some subscription;
      subscription_type = Some Shared;
      options = record empty_consumer_options { initial_position = Earliest };
    }

-- the acknowledgement of an item, by the consumer, whose ticket is 1
abbrev pub ack_of : Shown → List Asked
ack_of (Hands ticket topic id batch_size metadata payload) = option_to_list (option_map (λ v. Ack 1 topic v false) (reading message_id id))
ack_of _ = []

-- the items of a history, oldest first
abbrev pub item_of : Shown → List Shown
item_of (Hands ticket topic id batch_size metadata payload) = Hands ticket topic id batch_size metadata payload ∷ []
item_of _ = []

abbrev pub items_of : List Shown → List Shown
items_of es = flat_map item_of es

-- The calls but the last: Build, the producer with a send of each line, or the consumer with an acknowledgement of each item that was given.
-- The producer has ticket 1.
abbrev pub work : Work → List Shown → List Asked
work (Sends topic lines) es = Build ∷ Producer (producer_of topic) ∷ map (λ line. Send 1 (bare line)) lines
work (Takes topic subscription count) es = Build ∷ Consumer (consumer_of topic subscription) ∷ flat_map ack_of es

-- a call of this ticket has ended well
abbrev pub is_failure : Said → Bool
is_failure (Failed f) = true
is_failure _ = false

abbrev pub ends_well : (ticket : ℕ) → Shown → Bool
ends_well t (Ends u said) = (u == t) && not (is_failure said)
ends_well t _ = false

abbrev pub has_ended_well : (ticket : ℕ) → List Shown → Bool
has_ended_well t es = list_any (ends_well t) es

-- no item will come any more
abbrev pub is_end : Shown → Bool
is_end (FindsEnd ticket) = true
is_end _ = false

abbrev pub is_over : List Shown → Bool
is_over es = list_any is_end es

-- The work is done: all its calls have ended well, and no item was an error; and as many items were given as were wanted, or their end.
abbrev pub IsWhole : Work → List Shown → Type 0
IsWhole (Sends topic lines) es = Unit {0}
IsWhole (Takes topic subscription count) es = (length (items_of es) ≡ count) ⊎ (is_over es ≡ true)

-- Status 0: these are the calls, all have ended well, and no item was an error. The work was done before the last call.
pub record IsDone (w : Work) (h : List Step) : Type 0 where
  pub asked : calls h ≡ work w (effects_of h) ++ Stop ∷ []
  pub ended : (t : ℕ) → t < length (calls h) → has_ended_well t (effects_of h) ≡ true
  pub no_error : errors_of (effects_of h) ≡ []
  pub before : List Step
  pub after : List Step
  pub last : Step
  pub apart : h ≡ after ++ last ∷ before
  pub stops : last.event ≡ Called Stop
  pub whole : IsWhole w (effects_of before)

-- An error stands in a history.
abbrev pub HasError : List Step → Type 0
HasError h = (errors_of (effects_of h) ≡ []) → ⊥

-- Status 7: the calls before Stop are a front of these, and an error stands before Stop. There is no Stop where Build has not ended well.
pub data HasFailed (w : Work) (h : List Step) : Type 0 where
  Stopped : (before after : List Step) (last : Step) (count : ℕ) → h ≡ after ++ last ∷ before → last.event ≡ Called Stop → calls after ≡ []
      → calls before ≡ take count (work w (effects_of h)) → HasError before → has_ended_well 0 (effects_of before) ≡ true → HasFailed w h
  NotBuilt : (count : ℕ) → calls h ≡ take count (work w (effects_of h)) → HasError h → has_ended_well 0 (effects_of h) ≡ false → HasFailed w h
