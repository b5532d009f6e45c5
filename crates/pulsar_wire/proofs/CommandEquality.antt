-- Two commands are equal where their kinds, and the values of their bodies, are.
use Rattle.std.proofs.Common.{◌≡◌, ℕ, Bool, true, false, ◌&&◌, nat_eq, List, [], ◌∷◌, Option, Some, None, refl, ap, sym, ◌∙◌}
use Rattle.std.specs.Bool.{Decides}
use Rattle.std.proofs.lemmas.Bool.Decides.{Decides-eqb}
use Rattle.pulsar_wire.specs.Field.{◌>>=◌}
use Rattle.pulsar_wire.specs.Row.{Kind, Text, Bytes, Uint32, Uint64, Int32, Int64, Flag, Rule, Required, Optional, Repeated, Row, End, Plain, Embedded, Numbers, Held, Values, Content, each}
use Rattle.pulsar_wire.specs.Rows.{ack, active_consumer_change, auth_challenge, auth_response, close_consumer, close_producer, connect, connected, consumer_stats, consumer_stats_response, error, flow, get_last_message_id, get_last_message_id_response, get_schema, get_schema_response, get_topics_of_namespace, get_topics_of_namespace_response, lookup_topic, lookup_topic_response, message, partition_metadata, partition_metadata_response, ping, pong, producer, producer_success, reached_end_of_topic, redeliver_unacknowledged_messages, seek, send, send_error, send_receipt, subscribe, success, unsubscribe}
use Rattle.pulsar_wire.specs.Command.{BodyValues, CommandValues}
use Rattle.pulsar_wire.specs.Views.{body_values, command_values}
use Rattle.pulsar_wire.specs.Equality.{connect_equality, connected_equality, subscribe_equality, producer_equality, send_equality, send_receipt_equality, send_error_equality, message_equality, ack_equality, flow_equality, unsubscribe_equality, success_equality, error_equality, close_producer_equality, close_consumer_equality, producer_success_equality, ping_equality, pong_equality, redeliver_unacknowledged_messages_equality, partition_metadata_equality, partition_metadata_response_equality, lookup_topic_equality, lookup_topic_response_equality, consumer_stats_equality, consumer_stats_response_equality, reached_end_of_topic_equality, seek_equality, get_last_message_id_equality, get_last_message_id_response_equality, active_consumer_change_equality, get_topics_of_namespace_equality, get_topics_of_namespace_response_equality, get_schema_equality, get_schema_response_equality, auth_challenge_equality, auth_response_equality, optional, signed}
use Rattle.pulsar_wire.specs.declared.commands.base.Body.{Body}
use Rattle.pulsar_wire.specs.declared.commands.base.Body.TheVariants as body
use Rattle.pulsar_wire.specs.declared.commands.base.BaseCommand.{BaseCommand}
use Rattle.pulsar_wire.specs.contracts.commands.base.BodyPartialEq.TheImpl as bodies
use Rattle.pulsar_wire.specs.contracts.commands.base.BaseCommandPartialEq.TheImpl as commands
use Rattle.pulsar_wire.proofs.Fields.{some_is}

-- a content as that of another kind, where it is the same kind
abbrev content_as : (k l : Kind) → Content k → Option (Content l)
content_as Text Text x = Some x
content_as Bytes Bytes x = Some x
content_as Uint32 Uint32 x = Some x
content_as Uint64 Uint64 x = Some x
content_as Int32 Int32 x = Some x
content_as Int64 Int64 x = Some x
content_as Flag Flag x = Some x
content_as k l x = None

content_same : (k : Kind) (x : Content k) → content_as k k x ≡ Some x
content_same Text x = refl
content_same Bytes x = refl
content_same Uint32 x = refl
content_same Uint64 x = refl
content_same Int32 x = refl
content_same Int64 x = refl
content_same Flag x = refl

-- what a field holds as that of another rule, where it is the same rule
abbrev held_as : {X Y : Type 0} (q p : Rule) → (X → Option Y) → Held q X → Option (Held p Y)
held_as Required Required f x = f x
held_as Optional Optional f None = Some None
held_as Optional Optional f (Some x) = f x >>= λ y. Some (Some y)
held_as Repeated Repeated f xs = each f xs
held_as q p f x = None

each_same : {X : Type 0} (f : X → Option X) → ((x : X) → f x ≡ Some x) → (xs : List X) → each f xs ≡ Some xs
each_same f h [] = refl
each_same f h (x ∷ xs) = rw (h x, each_same f h xs) refl

held_same : {X : Type 0} (q : Rule) (f : X → Option X) → ((x : X) → f x ≡ Some x) → (x : Held q X) → held_as q q f x ≡ Some x
held_same Required f h x = h x
held_same Optional f h None = refl
held_same Optional f h (Some x) = rw (h x) refl
held_same Repeated f h xs = each_same f h xs

-- the values of a row as those of another row, where it is the same row
abbrev values_as : (r s : Row) → Values r → Option (Values s)
values_as End End vs = Some tt
values_as (Plain n q k row) (Plain m p l other) vs = held_as q p (content_as k l) vs.0 >>= λ x. values_as row other vs.1 >>= λ xs. Some (x, xs)
values_as (Embedded n q inner row) (Embedded m p inside other) vs =
    held_as q p (λ x. values_as inner inside x) vs.0 >>= λ x. values_as row other vs.1 >>= λ xs. Some (x, xs)
values_as (Numbers n row) (Numbers m other) vs = values_as row other vs.1 >>= λ xs. Some (vs.0, xs)
values_as r s vs = None

values_same : (r : Row) (vs : Values r) → values_as r r vs ≡ Some vs
values_same End vs = refl
values_same (Plain n q k row) vs = rw (held_same q (content_as k k) (content_same k) vs.0, values_same row vs.1) refl
values_same (Embedded n q inner row) vs = rw (held_same q (λ x. values_as inner inner x) (λ x. values_same inner x) vs.0, values_same row vs.1) refl
values_same (Numbers n row) vs = rw (values_same row vs.1) refl

abbrev body_of : ℕ → (row : Row) → Values row → BodyValues
body_of n row vs = record { number = n; row = row; values = vs }

-- two bodies of one number and one row
alike : (n : ℕ) (row : Row) (e : Bool) (vs ws : Values row) → Decides e (vs ≡ ws) → Decides e (body_of n row vs ≡ body_of n row ws)
alike n row e vs ws d = (
  λ t. ap (body_of n row) (d.0 t),
  λ h. d.1 (some_is vs ws (sym (values_same row vs) ∙ (ap (λ b. values_as b.row row b.values) h ∙ values_same row ws))),
)

-- two bodies of different numbers
apart : (e : Bool) (v w : BodyValues) → e ≡ false → nat_eq v.number w.number ≡ false → Decides e (v ≡ w)
apart e v w differs other = (
  λ t. absurd (let both = sym t ∙ differs in cc),
  λ h. absurd (let both = sym ((Decides-eqb v.number w.number).1 (ap (λ b. b.number) h)) ∙ other in cc),
)

pub body_equality : (a b : Body) → Decides (bodies.ghosts.eq a b) (body_values a ≡ body_values b)
body_equality (body.Connect a) (body.Connect b) = alike 2 connect _ _ _ (connect_equality a b)
body_equality (body.Connected a) (body.Connected b) = alike 3 connected _ _ _ (connected_equality a b)
body_equality (body.Subscribe a) (body.Subscribe b) = alike 4 subscribe _ _ _ (subscribe_equality a b)
body_equality (body.Producer a) (body.Producer b) = alike 5 producer _ _ _ (producer_equality a b)
body_equality (body.Send a) (body.Send b) = alike 6 send _ _ _ (send_equality a b)
body_equality (body.SendReceipt a) (body.SendReceipt b) = alike 7 send_receipt _ _ _ (send_receipt_equality a b)
body_equality (body.SendError a) (body.SendError b) = alike 8 send_error _ _ _ (send_error_equality a b)
body_equality (body.Message a) (body.Message b) = alike 9 message _ _ _ (message_equality a b)
body_equality (body.Ack a) (body.Ack b) = alike 10 ack _ _ _ (ack_equality a b)
body_equality (body.Flow a) (body.Flow b) = alike 11 flow _ _ _ (flow_equality a b)
body_equality (body.Unsubscribe a) (body.Unsubscribe b) = alike 12 unsubscribe _ _ _ (unsubscribe_equality a b)
body_equality (body.Success a) (body.Success b) = alike 13 success _ _ _ (success_equality a b)
body_equality (body.Error a) (body.Error b) = alike 14 error _ _ _ (error_equality a b)
body_equality (body.CloseProducer a) (body.CloseProducer b) = alike 15 close_producer _ _ _ (close_producer_equality a b)
body_equality (body.CloseConsumer a) (body.CloseConsumer b) = alike 16 close_consumer _ _ _ (close_consumer_equality a b)
body_equality (body.ProducerSuccess a) (body.ProducerSuccess b) = alike 17 producer_success _ _ _ (producer_success_equality a b)
body_equality (body.Ping a) (body.Ping b) = alike 18 ping _ _ _ (ping_equality a b)
body_equality (body.Pong a) (body.Pong b) = alike 19 pong _ _ _ (pong_equality a b)
body_equality (body.RedeliverUnacknowledgedMessages a) (body.RedeliverUnacknowledgedMessages b) = alike 20 redeliver_unacknowledged_messages _ _ _ (redeliver_unacknowledged_messages_equality a b)
body_equality (body.PartitionedTopicMetadata a) (body.PartitionedTopicMetadata b) = alike 21 partition_metadata _ _ _ (partition_metadata_equality a b)
body_equality (body.PartitionedTopicMetadataResponse a) (body.PartitionedTopicMetadataResponse b) = alike 22 partition_metadata_response _ _ _ (partition_metadata_response_equality a b)
body_equality (body.LookupTopic a) (body.LookupTopic b) = alike 23 lookup_topic _ _ _ (lookup_topic_equality a b)
body_equality (body.LookupTopicResponse a) (body.LookupTopicResponse b) = alike 24 lookup_topic_response _ _ _ (lookup_topic_response_equality a b)
body_equality (body.ConsumerStats a) (body.ConsumerStats b) = alike 25 consumer_stats _ _ _ (consumer_stats_equality a b)
body_equality (body.ConsumerStatsResponse a) (body.ConsumerStatsResponse b) = alike 26 consumer_stats_response _ _ _ (consumer_stats_response_equality a b)
body_equality (body.ReachedEndOfTopic a) (body.ReachedEndOfTopic b) = alike 27 reached_end_of_topic _ _ _ (reached_end_of_topic_equality a b)
body_equality (body.Seek a) (body.Seek b) = alike 28 seek _ _ _ (seek_equality a b)
body_equality (body.GetLastMessageId a) (body.GetLastMessageId b) = alike 29 get_last_message_id _ _ _ (get_last_message_id_equality a b)
body_equality (body.GetLastMessageIdResponse a) (body.GetLastMessageIdResponse b) = alike 30 get_last_message_id_response _ _ _ (get_last_message_id_response_equality a b)
body_equality (body.ActiveConsumerChange a) (body.ActiveConsumerChange b) = alike 31 active_consumer_change _ _ _ (active_consumer_change_equality a b)
body_equality (body.GetTopicsOfNamespace a) (body.GetTopicsOfNamespace b) = alike 32 get_topics_of_namespace _ _ _ (get_topics_of_namespace_equality a b)
body_equality (body.GetTopicsOfNamespaceResponse a) (body.GetTopicsOfNamespaceResponse b) = alike 33 get_topics_of_namespace_response _ _ _ (get_topics_of_namespace_response_equality a b)
body_equality (body.GetSchema a) (body.GetSchema b) = alike 34 get_schema _ _ _ (get_schema_equality a b)
body_equality (body.GetSchemaResponse a) (body.GetSchemaResponse b) = alike 35 get_schema_response _ _ _ (get_schema_response_equality a b)
body_equality (body.AuthChallenge a) (body.AuthChallenge b) = alike 36 auth_challenge _ _ _ (auth_challenge_equality a b)
body_equality (body.AuthResponse a) (body.AuthResponse b) = alike 37 auth_response _ _ _ (auth_response_equality a b)
body_equality a b = apart (bodies.ghosts.eq a b) (body_values a) (body_values b) refl refl

-- two commands
joined : (e f : Bool) (a b : CommandValues) → Decides e (a.kind ≡ b.kind) → Decides f (a.body ≡ b.body) → Decides (e && f) (a ≡ b)
joined true f a b d k = (λ t i. record { kind = d.0 refl i; body = k.0 t i }, λ h. k.1 (ap (λ c. c.body) h))
joined false f a b d k = (λ t. absurd cc, λ h. absurd (let no = d.1 (ap (λ c. c.kind) h) in cc))

pub command_equality : (a b : BaseCommand) → Decides (commands.ghosts.eq a b) (command_values a ≡ command_values b)
command_equality a b =
    joined _ _ (command_values a) (command_values b) (signed a.kind b.kind) (optional bodies.ghosts.eq body_values body_equality a.body b.body)
