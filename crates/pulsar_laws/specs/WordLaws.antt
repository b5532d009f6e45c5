-- What words mean that the laws of runs name: each in the terms of the protocol, of the options, and of what a user has said.
use Rattle.std.specs.Prelude.{◌≡◌, ◌⊎◌, ℕ, ◌+◌, nat_le, ◌==◌, Bool, true, false, if◌then◌else◌, List, [], ◌∷◌, map, Option, Some, None, Ok, unwrap_or}
use Rattle.std.specs.List.{list_any}
use Rattle.url.specs.Host.{host_text}
use Rattle.url.specs.Parts.{nonempty_host}
use Rattle.url.specs.declared.host.Host.{Host}
use Rattle.pulsar_run.specs.Laws.{In}
use Rattle.pulsar_wire.specs.Field.{◌>>=◌}
use Rattle.pulsar_wire.specs.Enumerations.{error_of}
use Rattle.pulsar_wire.specs.Failures.{Canceled, ConsumerClosed, Disconnected, Fault, Io, NotFound, OfConnection, OfConsumer, OfProducer, ProducerClosed, PulsarError, Shutdown}
use Rattle.pulsar_wire.specs.Row.{Values, ◌&◌}
use Rattle.pulsar_wire.specs.Rows.{key_value}
use Rattle.pulsar_wire.specs.declared.awaited.Claim.{Claim}
use Rattle.pulsar_wire.specs.declared.commands.enumerations.ServerError.{ServerError}
use Rattle.pulsar_wire.specs.declared.commands.enumerations.ServerError.TheVariants.{ConsumerBusy, ProducerBlockedQuotaExceededError, ProducerBlockedQuotaExceededException, ProducerBusy, ServiceNotReady}
use Rattle.pulsar_wire.specs.declared.error.IoKind.{IoKind}
use Rattle.pulsar_wire.specs.declared.error.IoKind.TheVariants as io
use Rattle.pulsar_frame.specs.Reply.{Reply as Content, Written}
use Rattle.pulsar_addresses.specs.Address.{Place}
use Rattle.pulsar_addresses.specs.Backoff.{connection_id}
use Rattle.pulsar_messages.specs.Claims.{claim}
use Rattle.pulsar_messages.specs.Content.{ProducerMessageValues, Property}
use Rattle.pulsar_messages.specs.Message.{with_version}
use Rattle.pulsar_messages.specs.Messages.{metadata_of}
use Rattle.pulsar_messages.specs.Words.{CreateProducer, Subscribe, Words}
use Rattle.pulsar_requests.specs.Waits.{Pending, request_at}
use Rattle.pulsar_session.specs.declared.states.Asked.TheVariants as placed
use Rattle.pulsar_session.specs.declared.states.Stage.{Stage}
use Rattle.pulsar_session.specs.declared.states.Stage.TheVariants.{Dialing, Handshaking, Over, Ready}
use Rattle.pulsar_session.specs.Link as session
use Rattle.pulsar_session.specs.Link.{Asks, Seen, Setup, due, is_over, is_ready}
use Rattle.pulsar_session.specs.Series.{is_passing}
use Rattle.pulsar_exchange.specs.Request.{Subscribed}
use Rattle.pulsar_searches.specs.Plans.{is_retryable}
use Rattle.pulsar_searches.specs.Replies.{unexpected}
use Rattle.pulsar_outgoing.specs.Replies.{given}
use Rattle.pulsar_incoming.specs.Content.{ConfigValues}
use Rattle.pulsar_consumer.specs.Topic as reader
use Rattle.pulsar_consumer.specs.Topic.{fresh, of_raw}
use Rattle.pulsar_producer.specs.Producer as producer
use Rattle.pulsar_producer_table.specs.Producers as producing
use Rattle.pulsar_producer_table.specs.Producers.{Producers}
use Rattle.pulsar_producer_table.specs.declared.table.Topic.{Topic}
use Rattle.pulsar_consumer_table.specs.Consumers as consuming
use Rattle.pulsar_consumer_table.specs.Consumers.{Member}
use Rattle.pulsar_calls.specs.Content.{Close, Connect, Ends as Finishes, Retry}
use Rattle.pulsar_calls.specs.declared.act.Act.TheVariants.{Answers, Comes, Dials}
use Rattle.pulsar_calls.specs.declared.act.CallRefusal.TheVariants as refusal
use Rattle.pulsar_calls.specs.declared.act.End.TheVariants.{Broken, Idles, Lost, Overdue, Stops, Unopened}
use Rattle.pulsar_calls.specs.declared.act.LinkAct.{LinkAct}
use Rattle.pulsar_calls.specs.declared.act.LinkAct.TheVariants.{Ends}
use Rattle.pulsar_calls.specs.declared.act.Outcome.TheVariants as outcome
use Rattle.pulsar_calls.specs.declared.act.Part.TheVariants.{ToLink}
use Rattle.pulsar_calls.specs.declared.act.Verdict.{Verdict}
use Rattle.pulsar_calls.specs.declared.act.Who.{Who}
use Rattle.pulsar_calls.specs.declared.act.Who.TheVariants.{Call}
use Rattle.pulsar_calls.specs.declared.content.Joining.{Joining}
use Rattle.pulsar_links.specs.LinkRules.{dropped, fails_so}
use Rattle.pulsar_links.specs.Links as links
use Rattle.pulsar_links.specs.Links.{closed_by}
use Rattle.pulsar_links.specs.Seats.{Seat, answer_at}
use Rattle.pulsar_links.specs.declared.addresses.Pause.{Pause}
use Rattle.pulsar_plans.specs.Plan.{failure_of, fault_of}
use Rattle.pulsar_acts.specs.Effects.{effects}
use Rattle.pulsar_acts.specs.Run.{Entry, Then, view}
use Rattle.pulsar_acts.specs.View.{Turned, View, setup_of, turned}
use Rattle.pulsar_machine.specs.Options.{Options}
use Rattle.pulsar_laws.specs.Laws.{dialed_with, has_come}
use Rattle.pulsar_laws.specs.RetryLaws.{to_64, wait_behind}

-- WHAT A FRAME SAYS

-- a property has its key and its value
abbrev pub said_property : Property → Values key_value
said_property p = p.0 & p.1 & tt

-- What a frame says of its message (FramesAreReadAgain): the name of its producer, its number, when it was sent, and all that its producer says of it; it
-- comes from no other cluster.  (PulsarApi.proto, MessageMetadata)
abbrev pub MetadataSays : Type 0
MetadataSays = (now sequence : ℕ) (name : List ℕ) (m : ProducerMessageValues) →
    metadata_of now name sequence m
    ≡ (name & sequence & now & map said_property m.properties & None & m.partition_key & m.replicate_to & m.compression & m.uncompressed_size
    & m.num_messages_in_batch & m.event_time & m.encryption_keys & m.encryption_algo & m.encryption_param & m.schema_version & m.ordering_key
    & m.deliver_at_time & tt)

-- A message that has a version of the schema keeps it; one that has none takes that which is told with the turn. All else of it stays.
abbrev pub VersionIsTaken : Type 0
VersionIsTaken = (version : Option (List ℕ)) (m : ProducerMessageValues) →
    ((own : List ℕ) → m.schema_version ≡ Some own → with_version version m ≡ m)
    × (m.schema_version ≡ None → with_version version m ≡ record m { schema_version = version })

-- The name of a producer that was made, and the version of its schema, are those that the reply of its broker says.
abbrev pub GivenIsSaid : Type 0
GivenIsSaid = (r : Content) → ((name : List ℕ) → r.name ≡ Some name → (given r).name ≡ name) × ((given r).version ≡ r.version)

-- HOW A CONSUMER IS MADE

-- as many items may be unread as its options say, 1000 where they say nothing, and at least one
abbrev pub queue_said : Option ℕ → ℕ
queue_said None = 1000
queue_said (Some n) = if n == 0 then 1 else n

-- So many messages it may be sent at once: 1000 where its call says nothing. A raw one grants no permits.
abbrev pub batch_said : (is_raw : Bool) → ConfigValues → Option ℕ
batch_said true c = None
batch_said false c = Some (unwrap_or c.batch_size 1000)

-- A consumer has the topic, the number and the configuration with which its call has joined, but for dead letters and redelivery, which no consumer has yet;
-- and a raw one the words of its request. Its queue and its batch size are those that are said there.
pub record ConsumersAreMadeSo : Type 0 where
  pub built : (key : ℕ) (j : Joining) →
      setup_of key j
      ≡ record {
        key = key;
        topic = j.topic;
        number = j.number;
        config = record j.config { unacked_message_redelivery_delay = None; dead_letter_policy = None };
        is_raw = false;
      }
  pub raw : (s : Subscribed) →
      ((of_raw s).topic ≡ s.topic) × ((of_raw s).number ≡ s.consumer) × ((of_raw s).is_raw ≡ true) × ((of_raw s).config.subscription ≡ s.subscription)
      × ((of_raw s).config.sub_type ≡ s.sub_type) × ((of_raw s).config.consumer_name ≡ s.name) × ((of_raw s).config.options ≡ s.options)
  pub sizes : (s : reader.Setup) →
      ((fresh s).engine.queue ≡ queue_said s.config.options.receiver_queue_size) × ((fresh s).engine.batch ≡ batch_said s.is_raw s.config)

-- A producer is made again, and a consumer is subscribed again, under its own number, by the options of its call; a producer by the name that it has.
pub record CommandsAreSaid : Type 0 where
  pub producers : (ps : Producers) (n : ℕ) (row : Topic) (p : producer.Seen) → ps.topics n ≡ Some row → ps.built row.owner ≡ Some p →
      producing.recalled ps n
      ≡ Some (record { topic = row.seen.topic; request = CreateProducer row.seen.topic row.seen.number (Some row.seen.given.name) p.options; answer = 17 })
  pub consumers : (m : Member) →
      consuming.recalled (Some m)
      ≡ Some (record {
        topic = m.seen.topic;
        request = Subscribe m.seen.topic m.seen.config.subscription m.seen.config.sub_type m.seen.number m.seen.config.consumer_name m.seen.config.options;
        answer = 13;
      })

-- HOW A LINK IS DIALED

-- The timeouts of a connection, its credential, how many frames may be queued, and the number of its first request are those of the options.
abbrev pub ByOptions : Options → (link : ℕ) → Setup → Type 0
ByOptions o l s =
    (s.connection_timeout ≡ o.chosen.connection.connection_timeout) × (s.operation_timeout ≡ o.chosen.operation.operation_timeout)
    × (s.auth ≡ o.chosen.auth) × (s.outbound ≡ o.chosen.outbound) × (s.first_number ≡ o.chosen.first_number) × (s.id ≡ connection_id o.chosen.seed l)

-- and where it goes is the address of the attempt: to its host and its port, or 6650. A proxy is told the broker behind it.
abbrev pub DialedTo : Options → Place → Who → (retries : ℕ) → List Entry → Setup → Type 0
DialedTo o p starter n log s =
    (dialed_with o (view o log).links.started (Then (Dials p starter n) ∷ log) ≡ Some s) × (s.url ≡ p.url) × (s.made ≡ (view o log).now)
    × (s.proxy ≡ (if p.proxy then Some p.broker_url else None))
    × ((host : Host (List ℕ)) → nonempty_host p.url ≡ Some host →
    effects (view o log) (Dials p starter n) ≡ Connect (view o log).links.started (host_text host) (unwrap_or p.url.port 6650) ∷ [])

pub record LinksAreDialed : Type 0 where
  pub by_options : (o : Options) (log : List Entry) (l : ℕ) (s : Setup) → dialed_with o l log ≡ Some s → ByOptions o l s
  pub there : (o : Options) (log : List Entry) (p : Place) (starter : Who) (n : ℕ) → (s : Setup) × DialedTo o p starter n log s

-- WHEN A LINK IS DUE, AND A REQUEST

-- One that is not ready is due once it has been dialed for so long as the options say; a ready one once the moment of a request on it has come.
abbrev pub due_so : Options → Setup → Stage → (now : ℕ) → Seen → Bool
due_so o s Dialing now v = nat_le (to_64 (s.made + o.chosen.connection.connection_timeout)) now
due_so o s Handshaking now v = nat_le (to_64 (s.made + o.chosen.connection.connection_timeout)) now
due_so o s Ready now v = list_any (λ r. has_come now v.waits (Some r)) v.waits.waiting
due_so o s Over now v = false

abbrev pub LinksAreDue : Type 0
LinksAreDue = (o : Options) (log : List Entry) (l now : ℕ) (seat : Seat) → (view o log).links.live l ≡ Some seat →
    (s : Setup) × (dialed_with o l log ≡ Some s) × (due now seat.seen ≡ due_so o s seat.seen.stage now seat.seen)

-- A request that is queued waits at its place, and its moment comes as long after that as the options say.
abbrev pub RequestsAreDue : Type 0
RequestsAreDue = (o : Options) (log : List Entry) (l place : ℕ) (seat : Seat) (request : Words) (c : Claim) → (view o log).links.live l ≡ Some seat →
    answer_at (view o log).now request (Some seat) ≡ Ok (placed.Queued place) → claim seat.seen.next_number request ≡ Some c →
    (r : Pending) × (request_at place (session.after (Asks (view o log).now request) seat.seen).waits.waiting ≡ Some r) × (r.awaits ≡ c.awaits)
    × (r.deadline ≡ to_64 ((view o log).now + o.chosen.operation.operation_timeout))

-- WHY A CALL FAILS

-- The fault of an outcome (FailsSo) is what the outcome says; an error that the broker tells has its code and its text; and a call that is refused since the
-- client is stopped, or since its producer or its consumer is closed, fails with this.
pub record FaultsAreSaid : Type 0 where
  pub unknown : fault_of outcome.NotFound ≡ NotFound
  pub attempt : (kind : IoKind) → fault_of (outcome.Failed kind) ≡ Io kind
  pub canceled : fault_of outcome.Canceled ≡ Canceled
  pub refused : (cause : Fault) → fault_of (outcome.Refused cause) ≡ cause
  pub late : fault_of outcome.TimedOut ≡ Io io.TimedOut
  pub lost : fault_of outcome.Disconnected ≡ Disconnected
  pub cut : fault_of outcome.Cut ≡ Disconnected
  pub stopped : fault_of outcome.Stopped ≡ Shutdown
  pub told : (r : Content) (b : Written) → b.number ≡ 14 → unexpected r (Some b) ≡ PulsarError (r.error >>= error_of) r.text
  pub shut : failure_of refusal.Shutdown ≡ OfConnection Shutdown
  pub no_producer : failure_of refusal.Closed ≡ OfProducer ProducerClosed
  pub no_consumer : failure_of refusal.ConsumerClosed ≡ OfConsumer ConsumerClosed

-- What ends a link is told so to those whose frames stand in its line, and to those who wait for its attempt (AttemptEnds, LineEnds): the one who started the
-- series is told why, and the others that it is canceled.
pub record EndsAreSaid : Type 0 where
  pub line : (dropped Stops ≡ outcome.Stopped) × (dropped Lost ≡ outcome.Disconnected) × (dropped Idles ≡ outcome.Disconnected)
      × ((queued : ℕ) → dropped (Overdue queued) ≡ outcome.Disconnected) × ((cause : Fault) → dropped (Broken cause) ≡ outcome.Disconnected)
  pub opening : (kind : IoKind) → fails_so (Unopened kind) true ≡ outcome.Failed kind
  pub late : (queued : ℕ) → fails_so (Overdue queued) true ≡ outcome.Failed io.TimedOut
  pub others : (fails_so Lost true ≡ outcome.Failed io.Other) × ((cause : Fault) → fails_so (Broken cause) true ≡ outcome.Failed io.Other)
  pub waiting : ((kind : IoKind) → fails_so (Unopened kind) false ≡ outcome.Canceled) × (fails_so Lost false ≡ outcome.Canceled)
      × ((queued : ℕ) → fails_so (Overdue queued) false ≡ outcome.Canceled) × ((cause : Fault) → fails_so (Broken cause) false ≡ outcome.Canceled)
  pub stopped : (is_starter : Bool) → fails_so Stops is_starter ≡ outcome.Stopped
  pub closes : (now : ℕ) (s : Seen) →
      (s.stage ≡ Ready → closed_by Lost now s ≡ Some Disconnected)
      × (is_ready s.stage ≡ false → is_over s.stage ≡ false → closed_by Lost now s ≡ Some (Io io.Other))
      × (closed_by Idles now s ≡ Some Disconnected) × (closed_by Stops now s ≡ Some Disconnected)
      × ((kind : IoKind) → closed_by (Unopened kind) now s ≡ Some (Io kind)) × ((cause : Fault) → closed_by (Broken cause) now s ≡ Some cause)
      × ((queued : ℕ) → closed_by (Overdue queued) now s ≡ (if due now s then Some (Io io.TimedOut) else None))

-- What comes of an act is shown: the delay of an attempt that is to follow, which its alarm waits (MomentsAreSet); what a call ends with; and that the client
-- closes a link where it ends that itself.
pub record EffectsAreSaid : Type 0 where
  pub retry : (v : View) (l : ℕ) (x : LinkAct) (t : Turned) (p : Pause) → turned v (Comes (ToLink l x)) ≡ Some t → t.pause ≡ Some p →
      In (Retry t.link (wait_behind v.chosen t.link p.retries)) (effects v (Comes (ToLink l x)))
  pub answer : (v : View) (t : ℕ) (verdict : Verdict) → effects v (Answers (Call t) verdict) ≡ Finishes t verdict.said ∷ []
  pub close : (l now : ℕ) (s : Seen) →
      In (Close l) (links.effects l (Ends Idles) now s) × In (Close l) (links.effects l (Ends Stops) now s)
      × ((cause : Fault) → In (Close l) (links.effects l (Ends (Broken cause)) now s))
      × ((queued : ℕ) → due now s ≡ true → In (Close l) (links.effects l (Ends (Overdue queued)) now s))

-- A command may go well another time behind a timeout, and behind these errors of a broker; and an attempt to connect where it was refused or timed out.
abbrev pub passing_errors : List ServerError
passing_errors = ConsumerBusy ∷ ServiceNotReady ∷ ProducerBlockedQuotaExceededError ∷ ProducerBlockedQuotaExceededException ∷ ProducerBusy ∷ []

pub record FaultsThatPass : Type 0 where
  pub late : is_retryable (Io io.TimedOut) ≡ true
  pub told : (e : ServerError) (text : Option (List ℕ)) → In e passing_errors → is_retryable (PulsarError (Some e) text) ≡ true
  pub only : (f : Fault) → is_retryable f ≡ true →
      (f ≡ Io io.TimedOut) ⊎ ((e : ServerError) × (text : Option (List ℕ)) × (f ≡ PulsarError (Some e) text) × In e passing_errors)
  pub attempts : (is_passing io.ConnectionRefused ≡ true) × (is_passing io.TimedOut ≡ true) × (is_passing io.Other ≡ false)
