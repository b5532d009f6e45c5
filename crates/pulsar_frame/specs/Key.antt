-- What tells requests apart, and which frame answers which.  (Pulsar binary protocol)
use Rattle.std.specs.Prelude.{ℕ, Bool, true, false, List, [], ◌∷◌, Option, Some, None, ◌==◌, ◌&&◌, ◌||◌, if◌then◌else◌}
use Rattle.pulsar_wire.specs.Field.{◌>>=◌}
use Rattle.pulsar_wire.specs.Row.{Row, Values}
use Rattle.pulsar_wire.specs.At.{uint64_at, flag_at}
use Rattle.pulsar_wire.specs.Command.{BodyValues}
use Rattle.pulsar_wire.specs.Rows.{producer_success}
use Rattle.pulsar_wire.specs.Views.{producer_success_values}
use Rattle.pulsar_wire.specs.declared.commands.producer.CommandProducerSuccess.{CommandProducerSuccess}
use Rattle.pulsar_wire.specs.declared.key.RequestKey.{RequestKey}
use Rattle.pulsar_wire.specs.declared.key.RequestKey.TheVariants.{RequestId, ProducerSend, Consumer, CloseConsumer, AuthChallenge}
use Rattle.pulsar_frame.specs.Message.{MessageValues}

-- what a key is made of: the numbers in these fields
pub data KeyFields : Type 0 where
  RequestNumber : (request : ℕ) → KeyFields
  SendNumbers : (producer sequence : ℕ) → KeyFields
  ConsumerNumber : (consumer : ℕ) → KeyFields
  CloseNumbers : (consumer request : ℕ) → KeyFields
  NoNumber : KeyFields

-- a body by its number, and what its key is made of
pub record Keyed : Type 0 where
  pub body : ℕ
  pub fields : KeyFields

abbrev pub keyed : ℕ → KeyFields → Keyed
keyed body fields = record { body = body; fields = fields }

-- the bodies that have a key
abbrev pub keyed_bodies : List Keyed
keyed_bodies =
    keyed 4 (RequestNumber 5)  -- subscribe
    ∷ keyed 5 (RequestNumber 3)  -- producer
    ∷ keyed 6 (SendNumbers 1 2)  -- send
    ∷ keyed 7 (SendNumbers 1 2)  -- send_receipt
    ∷ keyed 8 (SendNumbers 1 2)  -- send_error
    ∷ keyed 9 (ConsumerNumber 1)  -- message
    ∷ keyed 10 (ConsumerNumber 1)  -- ack
    ∷ keyed 11 (ConsumerNumber 1)  -- flow
    ∷ keyed 12 (RequestNumber 2)  -- unsubscribe
    ∷ keyed 13 (RequestNumber 1)  -- success
    ∷ keyed 14 (RequestNumber 1)  -- error
    ∷ keyed 15 (RequestNumber 2)  -- close_producer
    ∷ keyed 16 (CloseNumbers 1 2)  -- close_consumer
    ∷ keyed 17 (RequestNumber 1)  -- producer_success
    ∷ keyed 20 (ConsumerNumber 1)  -- redeliver_unacknowledged_messages
    ∷ keyed 21 (RequestNumber 2)  -- partition_metadata
    ∷ keyed 22 (RequestNumber 2)  -- partition_metadata_response
    ∷ keyed 23 (RequestNumber 2)  -- lookup_topic
    ∷ keyed 24 (RequestNumber 4)  -- lookup_topic_response
    ∷ keyed 25 (RequestNumber 1)  -- consumer_stats
    ∷ keyed 26 (RequestNumber 1)  -- consumer_stats_response
    ∷ keyed 27 (ConsumerNumber 1)  -- reached_end_of_topic
    ∷ keyed 28 (RequestNumber 2)  -- seek
    ∷ keyed 29 (RequestNumber 2)  -- get_last_message_id
    ∷ keyed 30 (RequestNumber 2)  -- get_last_message_id_response
    ∷ keyed 31 (ConsumerNumber 1)  -- active_consumer_change
    ∷ keyed 32 (RequestNumber 1)  -- get_topics_of_namespace
    ∷ keyed 33 (RequestNumber 1)  -- get_topics_of_namespace_response
    ∷ keyed 34 (RequestNumber 1)  -- get_schema
    ∷ keyed 35 (RequestNumber 1)  -- get_schema_response
    ∷ keyed 36 NoNumber  -- auth_challenge
    ∷ []

abbrev pub fields_in : ℕ → List Keyed → Option KeyFields
fields_in n [] = None
fields_in n (k ∷ ks) = if n == k.body then Some k.fields else fields_in n ks

-- what the key of the body with this number is made of, if it has one
abbrev pub key_fields : ℕ → Option KeyFields
key_fields n = fields_in n keyed_bodies

-- the key with the numbers of these fields
abbrev pub key_from : KeyFields → (row : Row) → Values row → Option RequestKey
key_from (RequestNumber n) row vs = uint64_at n row vs >>= λ r. Some (RequestId r)
key_from (SendNumbers n m) row vs = uint64_at n row vs >>= λ p. uint64_at m row vs >>= λ s. Some (ProducerSend p s)
key_from (ConsumerNumber n) row vs = uint64_at n row vs >>= λ c. Some (Consumer c)
key_from (CloseNumbers n m) row vs = uint64_at n row vs >>= λ c. uint64_at m row vs >>= λ r. Some (CloseConsumer c r)
key_from NoNumber row vs = Some AuthChallenge

abbrev pub is_false : Option Bool → Bool
is_false (Some false) = true
is_false _ = false

-- a producer_success says that the producer isn't ready yet: another one follows, which is the answer
abbrev pub is_unready : BodyValues → Bool
is_unready b = (b.number == 17) && is_false (flag_at 6 b.row b.values)

-- the body of a producer_success
abbrev pub success_of : CommandProducerSuccess → BodyValues
success_of s = record { number = 17; row = producer_success; values = producer_success_values s }

abbrev pub body_key : BodyValues → Option RequestKey
body_key b = if is_unready b then None else key_fields b.number >>= λ k. key_from k b.row b.values

-- what a request and the frame that answers it have in common
unfoldable pub key : MessageValues → Option RequestKey
key m = m.command.body >>= body_key

abbrev pub same_key : RequestKey → RequestKey → Bool
same_key (RequestId a) (RequestId b) = a == b
same_key (ProducerSend a b) (ProducerSend c d) = (a == c) && (b == d)
same_key (Consumer a) (Consumer b) = a == b
same_key (CloseConsumer a b) (CloseConsumer c d) = (a == c) && (b == d)
same_key AuthChallenge AuthChallenge = true
same_key _ _ = false

-- a frame that closes a consumer under a number may answer the request of that number
abbrev pub close_bears : (consumer request : ℕ) → RequestKey → Bool
close_bears c r (RequestId id) = r == id
close_bears c r k = same_key (CloseConsumer c r) k

-- a frame of this key bears the key of a request: it may answer it
abbrev pub bears_key : Option RequestKey → RequestKey → Bool
bears_key None k = false
bears_key (Some (CloseConsumer c r)) k = close_bears c r k
bears_key (Some own) k = same_key own k

abbrev pub bears : MessageValues → RequestKey → Bool
bears m k = bears_key (key m) k

-- WHICH BODY ANSWERS WHICH

-- The answer that a request's body expects, if any: send_receipt for send, producer_success for producer, success for
-- subscribe, unsubscribe, close_producer, close_consumer and seek, and a response of their own for the others.
abbrev pub answers : ℕ → Option ℕ
answers body =
    if body == 6 then Some 7
    else if body == 5 then Some 17
    else if (body == 4) || (body == 12) || (body == 15) || (body == 16) || (body == 28) then Some 13
    else if body == 21 then Some 22
    else if body == 23 then Some 24
    else if body == 25 then Some 26
    else if body == 29 then Some 30
    else if body == 32 then Some 33
    else if body == 34 then Some 35
    else None
