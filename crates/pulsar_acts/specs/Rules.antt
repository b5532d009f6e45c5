-- What an event brings, and what arises from an act: at once, as further parts, among those whom the present cause still serves, or as
-- causes of their own.
use Rattle.std.specs.Prelude.{ℕ, ◌+◌, ◌-◌, ◌^◌, nat_le, nat_lt, Bool, true, false, ◌&&◌, ◌||◌, not, ◌==◌, if◌then◌else◌, List, [], ◌∷◌, ◌++◌, drop, length, map, Option, Some, None}
use Rattle.std.specs.List.{flat_map}
use Rattle.std.specs.Option.{is_some}
use Rattle.pulsar_wire.specs.declared.commands.topics.Mode.{Mode}
use Rattle.pulsar_requests.specs.Waits.{is_empty}
use Rattle.pulsar_messages.specs.Words as words
use Rattle.pulsar_messages.specs.Words.{Words}
use Rattle.pulsar_wire.specs.Failures.{Exhausted}
use Rattle.pulsar_session.specs.Link.{is_ready}
use Rattle.pulsar_calls.specs.declared.act.Act.{Act}
use Rattle.pulsar_calls.specs.declared.act.Act.TheVariants.{Comes, Starts, Told, Does, Answers, Dials}
use Rattle.pulsar_calls.specs.declared.act.Action.{Action}
use Rattle.pulsar_calls.specs.declared.act.Action.TheVariants.{OfTopic, OfConsumer, Get, Ask, Wait, Number, Hold, Shut, TakeNumber, Tell, TellAll, StopAll, Rest}
use Rattle.pulsar_calls.specs.declared.act.Alarm.{Alarm}
use Rattle.pulsar_calls.specs.declared.act.Alarm.TheVariants.{Retry, Wake, Batch, KeepAlive, CheckIdle}
use Rattle.pulsar_calls.specs.declared.act.Arrival.{Arrival}
use Rattle.pulsar_calls.specs.declared.act.Arrival.TheVariants.{Nothing, Readied, Settles, Gives as GivesTo, Passes, Bad}
use Rattle.pulsar_calls.specs.declared.act.End.{End}
use Rattle.pulsar_calls.specs.declared.act.End.TheVariants.{Unopened, Lost, Broken, Idles}
use Rattle.pulsar_calls.specs.declared.act.LinkAct.{LinkAct}
use Rattle.pulsar_calls.specs.declared.act.LinkAct.TheVariants as link
use Rattle.pulsar_calls.specs.declared.act.LinkAct.TheVariants.{Reads, Drains, Pings, Ends}
use Rattle.pulsar_calls.specs.declared.act.Notice.{Notice}
use Rattle.pulsar_calls.specs.declared.act.Outcome.{Outcome}
use Rattle.pulsar_calls.specs.declared.act.Outcome.TheVariants as outcome
use Rattle.pulsar_calls.specs.declared.act.Part.{Part}
use Rattle.pulsar_calls.specs.declared.act.Part.TheVariants.{Calls, ToLink, Rings, Polls}
use Rattle.pulsar_calls.specs.declared.act.Place.TheVariants as place
use Rattle.pulsar_calls.specs.declared.act.Procedure.{Procedure}
use Rattle.pulsar_calls.specs.declared.act.Procedure.TheVariants as procedure
use Rattle.pulsar_calls.specs.declared.act.CallRefusal.{CallRefusal}
use Rattle.pulsar_calls.specs.declared.act.CallRefusal.TheVariants as refusal
use Rattle.pulsar_calls.specs.declared.act.Makes.{Makes}
use Rattle.pulsar_calls.specs.declared.act.Makes.TheVariants as makes
use Rattle.pulsar_calls.specs.declared.act.Round.TheVariants.{Checks, Flushes}
use Rattle.pulsar_calls.specs.declared.act.Share.{Share}
use Rattle.pulsar_calls.specs.declared.act.Says.TheVariants as says
use Rattle.pulsar_calls.specs.declared.act.Verdict.{Verdict}
use Rattle.pulsar_calls.specs.declared.act.Who.{Who}
use Rattle.pulsar_calls.specs.declared.act.Who.TheVariants.{Call, Producer}
use Rattle.pulsar_calls.specs.declared.content.BuiltProducer.{BuiltProducer}
use Rattle.pulsar_links.specs.declared.addresses.Pause.{Pause}
use Rattle.pulsar_links.specs.declared.addresses.Series.{Series}
use Rattle.pulsar_links.specs.declared.addresses.Series.TheVariants.{Nobody, Runs, Pauses, Serves}
use Rattle.pulsar_plans.specs.declared.plan.Plan.{Plan}
use Rattle.pulsar_exchange.specs.Request.{named_consumer, named_producer}
use Rattle.pulsar_messages.specs.Content.{ProducerMessageValues}
use Rattle.pulsar_producer.specs.Routing.{Policy}
use Rattle.pulsar_frame.specs.Batch.{EntryValues}
use Rattle.pulsar_outgoing.specs.Batch.{entry_of}
use Rattle.pulsar_outgoing.specs.Storage.{is_batching}
use Rattle.pulsar_producer.specs.Topic as topic
use Rattle.pulsar_outgoing.specs.Wanted.{ProducerWanted}
use Rattle.pulsar_outgoing.specs.declared.orders.ProducerOrder.{ProducerOrder}
use Rattle.pulsar_outgoing.specs.declared.content.Built.{Built}
use Rattle.pulsar_producer.specs.News.{News}
use Rattle.pulsar_outgoing.specs.declared.news.News.TheVariants as news
use Rattle.pulsar_outgoing.specs.declared.orders.Errand.{Errand}
use Rattle.pulsar_addresses.specs.Address.{Place, address_key, is_reachable}
use Rattle.pulsar_searches.specs.declared.plan.Sought.{Sought}
use Rattle.pulsar_searches.specs.declared.plan.Sought.TheVariants as sought
use Rattle.pulsar_searches.specs.declared.turn.Ways.{Ways}
use Rattle.pulsar_links.specs.Alarms.{ringing, rings}
use Rattle.pulsar_calls.specs.Content as content
use Rattle.pulsar_calls.specs.Content.{Asked as Asking, Heard, Called, Opened, FailedToOpen, Bytes, Lost as Loses, Drain, Ticked, Poll, lacks_tickets, shares}
use Rattle.pulsar_links.specs.Links.{Change, Remains, Becomes, IsOver}
use Rattle.pulsar_plans.specs.Plan.{begins, closed_notice, fails}
pub use Rattle.pulsar_producer_table.specs.Asks.{readied, ready_notice, turn_notice}
use Rattle.pulsar_producer_table.specs.Notices.{stopped_all}
use Rattle.pulsar_producer_table.specs.Producers.{Producers, advice, batches_in, errand_of, is_held, is_used as is_used_number, number_drawn, numbers_at, routed, stored_by, why_not}
use Rattle.pulsar_calls.specs.Content.{next_advice}
use Rattle.pulsar_acts.specs.View.{Tickets, Turned, View, asked_of, consumer_asked, is_live, link_given, may_call, told_some, turned, ways_of}
use Rattle.pulsar_machine.specs.Options.{Chosen, Options}
use Rattle.pulsar_links.specs.Seats.{Addresses, Base, Links, Seat, arrival_at, later}
use Rattle.pulsar_consumer_table.specs.Consumers as consumer
pub use Rattle.pulsar_calls.specs.Notices.{notice, stopped_one}
pub use Rattle.pulsar_acts.specs.Reading.{tells, unless}
use Rattle.pulsar_consumer_table.specs.Notices.{polled_due}
use Rattle.pulsar_acts.specs.Reading.{acknowledges, closed_at, heard_on, leaves, lost_on, made_due, numbering_said, serves_by, stopped_on, subscribes}
use Rattle.pulsar_consumer_table.specs.Consumers.{Consumers, is_heard, over_rows}
use Rattle.pulsar_calls.specs.Order.{opens, alone}
use Rattle.pulsar_links.specs.LinkRules.{over_links, due_part, stop_act, may_ping, answered_on, served_by, ended_on, failed_over, moved_on, stopped_at}
use Rattle.pulsar_searches.specs.declared.transition.Transition.TheVariants.{Stays, Gives}
use Rattle.pulsar_plans.specs.Transitions.{PlanTransition}

-- a call, for which the policies were asked
abbrev pub call_part : List Policy → View → Asking → Part
call_part policies v asked = Calls asked (advice policies v.producers asked)

abbrev pub brings : List Policy → View → Heard → List Part
brings policies v (Called asked) = call_part policies v asked ∷ []
brings policies v (Opened l) = ToLink l link.Opens ∷ []
brings policies v (FailedToOpen l kind) = ToLink l (Ends (Unopened kind)) ∷ []
brings policies v (Bytes l piece) = ToLink l Reads ∷ []
brings policies v (Loses l) = ToLink l (Ends Lost) ∷ []
brings policies v (Drain l most) = ToLink l (Drains most) ∷ []
brings policies v (Ticked now) = over_links (due_part now) v.links ++ map Rings (ringing now v.alarms)
brings policies v (Poll ticket) = Polls ticket ∷ []

-- an event that isn't live brings nothing
abbrev pub parts : Options → View → Heard → List Part
parts o v e = if is_live v e then brings o.policies v e else []

-- AT ONCE

-- a plan does its action, unless it rests
abbrev pub does : Who → Action → List Act
does who Rest = []
does who action = Does who action ∷ []

-- a plan does what is next, or ends
abbrev pub follows : Who → PlanTransition → List Act
follows who (Stays plan action) = does who action
follows who (Gives verdict) = Answers who verdict ∷ []

abbrev pub follows_some : Who → Option (PlanTransition) → List Act
follows_some who None = []
follows_some who (Some turn) = follows who turn

abbrev pub unless_refused : Bool → Procedure → Procedure
unless_refused may p = if may then p else procedure.Refuse refusal.Shutdown

-- what begins at the address of the service is refused where there is none
abbrev pub from_base : Option Place → (Place → Procedure) → Procedure
from_base None f = procedure.Refuse refusal.NoAddress
from_base (Some base) f = f base

abbrev pub searches : Option Ways → Sought → Procedure
searches None what = procedure.Refuse refusal.NoAddress
searches (Some ways) what = procedure.Search ways what

-- a client is not built where no frame would ever have room
abbrev pub builds_with : (outbound : ℕ) → Option Place → Procedure
builds_with outbound base = if outbound == 0 then procedure.Refuse refusal.NoOutbound else from_base base procedure.Build

abbrev pub asks_topics : (namespace : List ℕ) → Mode → Place → Procedure
asks_topics namespace mode base = procedure.Ask (place.At base) (words.GetTopicsOfNamespace namespace mode) says.Names

-- CALLS ON PRODUCERS. One names a producer by the ticket of the call that built it.

-- it is built, where it is said to what it sends
abbrev pub order_of : (topic : List ℕ) → ProducerWanted → ProducerOrder
order_of topic w = record { topic = topic; name = w.name; options = w.options }

abbrev pub produces_by : Option Ways → ProducerOrder → Procedure
produces_by None order = procedure.Refuse refusal.NoAddress
produces_by (Some ways) order = procedure.Produce ways order

abbrev pub produces_from : Option Ways → Option (List ℕ) → ProducerWanted → Procedure
produces_from ways None w = procedure.Refuse refusal.NoTopic
produces_from ways (Some topic) w = produces_by ways (order_of topic w)

abbrev pub produces : Chosen → ProducerWanted → Procedure
produces o w = produces_from (ways_of o) w.topic w

-- a message goes to a topic producer, unless none is found for it; as a part of another call it fails there
abbrev pub fails_as : Option Share → CallRefusal → Procedure
fails_as None r = procedure.Refuse r
fails_as (Some s) r = procedure.FailShare s r

-- it is stored, where the producer sends batches
abbrev pub stores_as : (number : ℕ) → Option Share → Option EntryValues → Procedure
stores_as n share None = fails_as share refusal.TooLarge
stores_as n share (Some e) = procedure.Store n share e

abbrev pub sends_with : (batches : Bool) → Ways → Errand → Option Share → ProducerMessageValues → Procedure
sends_with batches ways e share m = if batches then stores_as e.producer share (entry_of m) else procedure.Send ways e share m

abbrev pub sends_by : (batches : Bool) → Option Share → ProducerMessageValues → Option Ways → Option Errand → Procedure
sends_by batches share m ways None = fails_as share refusal.NoPartition
sends_by batches share m None (Some e) = fails_as share refusal.NoAddress
sends_by batches share m (Some ways) (Some e) = sends_with batches ways e share m

abbrev pub sends_as : Chosen → Producers → Option Share → (advice : Option ℕ) → (producer : ℕ) → ProducerMessageValues → Procedure
sends_as o ps share advice t m = sends_by (batches_in (ps.built t)) share m (ways_of o) (errand_of advice m (ps.built t))

abbrev pub sends : Chosen → Producers → (advice : Option ℕ) → (producer : ℕ) → ProducerMessageValues → Procedure
sends o ps advice t m = unless (why_not ps t) (sends_as o ps None advice t m)

-- several messages are sent one by one, each by the next ticket, behind a call that waits for them
abbrev pub share : (of ticket : ℕ) → Option Share
share of ticket = Some (record { of = of; ticket = ticket })

abbrev pub shares_of : Chosen → Producers → (of ticket : ℕ) → List (Option ℕ) → (producer : ℕ) → List ProducerMessageValues → List Act
shares_of o ps of ticket advice t [] = []
shares_of o ps of ticket advice t (m ∷ ms) =
    Starts (Call ticket) (sends_as o ps (share of ticket) (next_advice advice) t m)
    ∷ shares_of o (routed t m ps) of (ticket + 1) (drop 1 advice) t ms

abbrev pub why_no_sends : Tickets → Producers → (producer : ℕ) → Option CallRefusal
why_no_sends c ps t = if may_call c then why_not ps t else Some refusal.Shutdown

abbrev pub shares_unless : Option CallRefusal → View → List (Option ℕ) → (producer : ℕ) → List ProducerMessageValues → List Act
shares_unless (Some r) v advice t ms = []
shares_unless None v advice t ms = shares_of v.chosen v.producers v.calls.drawn (v.calls.drawn + 1) advice t ms

abbrev pub gathers : Tickets → Producers → (producer : ℕ) → List ProducerMessageValues → Procedure
gathers c ps t ms = unless (why_not ps t) (procedure.Gather (c.drawn + 1) (length ms))

-- what each of its topic producers stores is sent, where it sends batches
abbrev pub flushes_all : (batches : Bool) → List ℕ → Procedure
flushes_all batches ns = if batches then procedure.Go Flushes ns else procedure.Refuse refusal.NoBatches

abbrev pub flushes : Producers → (producer : ℕ) → Procedure
flushes ps t = unless (why_not ps t) (flushes_all (batches_in (ps.built t)) (numbers_at (ps.built t)))

abbrev pub checks : Producers → (producer : ℕ) → Procedure
checks ps t = unless (why_not ps t) (procedure.Go Checks (numbers_at (ps.built t)))

-- one that was closed is asked to close again
abbrev pub closes : Producers → (producer : ℕ) → Procedure
closes ps t = if is_some (ps.built t) then procedure.Close t (numbers_at (ps.built t)) else procedure.Refuse refusal.UnknownTicket

-- a raw call leaves the numbers of the client's producers and consumers alone
abbrev pub is_taken : Producers → Option ℕ → Bool
is_taken ps None = false
is_taken ps (Some number) = is_used_number ps number

abbrev pub taken_by : (by_producer by_consumer : Bool) → Option CallRefusal
taken_by true by_consumer = Some refusal.NumberInUse
taken_by false true = Some refusal.ConsumerInUse
taken_by false false = None

abbrev pub why_no_raw : Consumers → Producers → Words → Option CallRefusal
why_no_raw cs ps request = taken_by (is_taken ps (named_producer request)) (consumer.is_taken cs (named_consumer request))

abbrev pub asks_raw : Consumers → Producers → (link : ℕ) → Words → Procedure
asks_raw cs ps l request = unless (why_no_raw cs ps request) (procedure.Ask (place.Link l) request says.Bodies)

-- the procedure of a call, and its parts
abbrev pub procedure_for : Chosen → Tickets → Consumers → Producers → List (Option ℕ) → Asking → Procedure
procedure_for o c cs ps advice content.Build = unless_refused (not c.is_stopped) (builds_with o.outbound o.base)
procedure_for o c cs ps advice content.Stop = unless_refused (may_call c) procedure.Stop
procedure_for o c cs ps advice (content.Topics namespace mode) = unless_refused (may_call c) (from_base o.base (asks_topics namespace mode))
procedure_for o c cs ps advice (content.Lookup topic) = unless_refused (may_call c) (searches (ways_of o) (sought.Look topic))
procedure_for o c cs ps advice (content.Partitions topic) = unless_refused (may_call c) (searches (ways_of o) (sought.CountPartitions topic))
procedure_for o c cs ps advice (content.Brokers topic) = unless_refused (may_call c) (searches (ways_of o) (sought.Name topic))
procedure_for o c cs ps advice (content.Producer wanted) = unless_refused (may_call c) (produces o wanted)
procedure_for o c cs ps advice (content.Send t m) = unless_refused (may_call c) (sends o ps (next_advice advice) t m)
procedure_for o c cs ps advice (content.SendAll t ms) = unless_refused (may_call c) (gathers c ps t ms)
procedure_for o c cs ps advice (content.Flush t) = unless_refused (may_call c) (flushes ps t)
procedure_for o c cs ps advice (content.CheckProducer t) = unless_refused (may_call c) (checks ps t)
procedure_for o c cs ps advice (content.CloseProducer t) = unless_refused (may_call c) (closes ps t)
procedure_for o c cs ps advice (content.Consumer wanted) = unless_refused (may_call c) (subscribes o c.drawn wanted)
procedure_for o c cs ps advice (content.Ack t name id cumulative) =
    unless_refused (may_call c) (acknowledges cs t (λ n. words.SendAck n (id ∷ []) cumulative))
procedure_for o c cs ps advice (content.Nack t name id) = unless_refused (may_call c) (acknowledges cs t (λ n. words.SendRedeliver n (id ∷ [])))
procedure_for o c cs ps advice (content.CloseConsumer t) = unless_refused (may_call c) (leaves cs t)
procedure_for o c cs ps advice (content.Raw l request) = unless_refused (may_call c) (asks_raw cs ps l request)

abbrev pub parts_of : View → List (Option ℕ) → Asking → List Act
parts_of v advice content.Build = []
parts_of v advice content.Stop = []
parts_of v advice (content.Topics namespace mode) = []
parts_of v advice (content.Lookup topic) = []
parts_of v advice (content.Partitions topic) = []
parts_of v advice (content.Brokers topic) = []
parts_of v advice (content.Producer wanted) = []
parts_of v advice (content.Send t m) = []
parts_of v advice (content.SendAll t ms) = shares_unless (why_no_sends v.calls v.producers t) v advice t ms
parts_of v advice (content.Flush t) = []
parts_of v advice (content.CheckProducer t) = []
parts_of v advice (content.CloseProducer t) = []
parts_of v advice (content.Consumer wanted) = []
parts_of v advice (content.Ack t name id cumulative) = []
parts_of v advice (content.Nack t name id) = []
parts_of v advice (content.CloseConsumer t) = []
parts_of v advice (content.Raw l request) = []

abbrev pub starts : View → List (Option ℕ) → Asking → List Act
starts v advice asked =
    Starts (Call v.calls.drawn) (procedure_for v.chosen v.calls v.consumers v.producers advice asked) ∷ parts_of v advice asked

-- A call is made with the next ticket, and its parts with those behind it. Where fewer are left it ends as that of the greatest ticket, which
-- is never drawn.
abbrev pub called : View → List (Option ℕ) → Asking → List Act
called v advice asked =
    if lacks_tickets v.calls.drawn (shares asked) then Answers (Call (2 ^ 64 - 1)) (fails Exhausted) ∷ [] else starts v advice asked

-- A link of an address: a ready one serves at once, an attempt that runs or is to follow is waited for, else one is started. None is
-- found where the address cannot be reached.
abbrev pub gets_from : Who → Place → Series → List Act
gets_from who p Nobody = Dials p who 0 ∷ []
gets_from who p (Runs starter retries link) = []
gets_from who p (Pauses link) = []
gets_from who p (Serves link) = tells who (outcome.GotLink link)

abbrev pub gets : Who → Place → Series → List Act
gets who p series = if is_reachable p then gets_from who p series else tells who outcome.NotFound

-- WHAT PLANS ASK OF TOPIC PRODUCERS AND CONSUMERS is told at once, but for what is waited for.

abbrev pub grants : Who → News → List Act
grants who n = tells who (outcome.Granted n)

abbrev pub number_said : Option ℕ → Outcome
number_said None = outcome.Refused Exhausted
number_said (Some n) = outcome.Granted (news.Numbered n)

-- what one that asks of a thing is told at once
abbrev pub says_to : Who → Option Outcome → List Act
says_to who None = []
says_to who (Some u) = tells who u

abbrev pub stops : Who → Links → List Act
stops who ls = over_links stop_act ls ++ tells who outcome.Stopped

abbrev pub performs : View → Who → Action → List Act
performs v who (Get p) = gets who p (v.addresses.base (address_key p)).series
performs v who (Ask l request) = says_to who (link_given v who l request).says
performs v who StopAll = stops who v.links
performs v who (Wait delay) = []
performs v who (OfTopic n ask) = says_to who (asked_of v who n ask).says
performs v who (OfConsumer ask) = says_to who (consumer_asked v who ask).says
performs v who Number = tells who (number_said (number_drawn v.producers))
performs v who (Hold l n) = grants who news.Done
performs v who (Shut t) = grants who news.Done
performs v who (TakeNumber wanted) = tells who (numbering_said (consumer.numbering v.consumers wanted))
performs v who (Tell n) = grants who news.Done
performs v who (TellAll ns) = grants who news.Done
performs v who Rest = []

-- a link on which something bad came ends with that
abbrev pub breaks_at : ℕ → Arrival → List Act
breaks_at l Nothing = []
breaks_at l Readied = []
breaks_at l Settles = []
breaks_at l (GivesTo consumer reply) = []
breaks_at l Passes = []
breaks_at l (Bad cause) = Comes (ToLink l (Ends (Broken cause))) ∷ []

-- the attempt that was to follow is made
abbrev pub tries_again : Option Pause → List Act
tries_again None = []
tries_again (Some p) = Dials p.address p.starter (p.retries + 1) ∷ []

abbrev pub keeps_alive : ℕ → Option Seat → List Act
keeps_alive l row = if may_ping row then Comes (ToLink l Pings) ∷ [] else []

-- a link is used by a request that waits, by a frame in its line, by a subscription that is live, and by a topic producer that is not closed
abbrev pub is_used : Consumers → Producers → ℕ → Seat → Bool
is_used cs ps l seat =
    not (is_empty seat.seen.waits.waiting) || (nat_lt 0 (length seat.seen.line) || (is_heard cs l || is_held ps l))

-- a ready link that was not got for so long, and that nothing uses, ends
abbrev pub is_idle_at : (now most : ℕ) → Consumers → Producers → ℕ → Seat → Bool
is_idle_at now most cs ps l seat = is_ready seat.seen.stage && (nat_le (later seat.got most) now && not (is_used cs ps l seat))

abbrev pub idle_act_at : (now most : ℕ) → Consumers → Producers → ℕ → Seat → List Act
idle_act_at now most cs ps l seat = if is_idle_at now most cs ps l seat then Comes (ToLink l (Ends Idles)) ∷ [] else []

abbrev pub is_idle : View → ℕ → Seat → Bool
is_idle v l seat = is_idle_at v.now v.chosen.connection.connection_max_idle v.consumers v.producers l seat

abbrev pub idle_act : View → ℕ → Seat → List Act
idle_act v l seat = idle_act_at v.now v.chosen.connection.connection_max_idle v.consumers v.producers l seat

-- what an alarm that rings brings at once
abbrev pub rung : View → Alarm → List Act
rung v (Retry l) = tries_again (v.addresses.pause l)
rung v (Wake who) = []
rung v (Batch n) = []
rung v (KeepAlive l) = keeps_alive l (v.links.live l)
rung v CheckIdle = over_links (idle_act v) v.links

-- Each topic producer of a producer that sends batches sends them by a plan of its own, which begins with it.
abbrev pub batches_by : Ways → (block : Bool) → Built → Act
batches_by ways block b = Starts (Producer b.number) (procedure.Batch ways (record { producer = b.number; block = block }))

abbrev pub batches_from : Option Ways → BuiltProducer → List Act
batches_from None b = []
batches_from (Some ways) b = map (batches_by ways b.settings.block_queue_if_full) b.parts

abbrev pub batches_made : Option Ways → BuiltProducer → List Act
batches_made ways b = if is_batching b.settings then batches_from ways b else []

abbrev pub left_with : Option Ways → Who → Makes → List Act
left_with ways w makes.Nothing = []
left_with ways w makes.Client = []
left_with ways w (makes.Consumer j) = serves_by ways w j
left_with ways w (makes.RawConsumer l made) = []
left_with ways w (makes.Producer b) = batches_made ways b

abbrev pub at_once : View → Act → List Act
at_once v (Comes (Calls asked advice)) = called v advice asked
at_once v (Comes (ToLink l Reads)) = breaks_at l (arrival_at (v.links.live l))
at_once v (Comes (Rings a)) = if rings v.now a v.alarms then rung v a else []
at_once v (Starts who p) = follows who (begins p)
at_once v (Told n) = follows_some n.who (told_some (v.stand n.who) n.outcome)
at_once v (Does who action) = performs v who action
at_once v (Answers who verdict) = left_with (ways_of v.chosen) who verdict.makes
at_once v _ = []

-- FURTHER PARTS

-- behind each frame that came, and all that arises from it, the next is read
abbrev pub reads_on : ℕ → Arrival → List Part
reads_on l Nothing = []
reads_on l Readied = ToLink l Reads ∷ []
reads_on l Settles = ToLink l Reads ∷ []
reads_on l (GivesTo consumer reply) = ToLink l Reads ∷ []
reads_on l Passes = ToLink l Reads ∷ []
reads_on l (Bad cause) = []

abbrev pub further : View → Act → List Part
further v (Comes (ToLink l Reads)) = reads_on l (arrival_at (v.links.live l))
further v _ = []

abbrev pub joins : View → Act → List Notice
joins v (Comes (Polls t)) = polled_due v.now t (v.consumers.rows t)
joins v (Does who (Ask l request)) = over_rows (closed_at v l request) v.consumers
joins v (Answers who verdict) = made_due v.links.live v.consumers.next_key who verdict.makes
joins v (Does who (OfTopic n ask)) = (asked_of v who n ask).serves
joins v (Does who (OfConsumer ask)) = (consumer_asked v who ask).serves
joins v (Does who (Shut t)) = map closed_notice (stored_by v.producers (numbers_at (v.producers.built t)))
joins v (Does who (Tell n)) = n ∷ []
joins v (Does who (TellAll ns)) = ns
joins v _ = []

abbrev pub failed_by : End → Change → Option Pause → Base → List Notice
failed_by end Remains pause b = []
failed_by end Becomes pause b = []
failed_by end IsOver pause b = failed_over end pause b

-- those who wait for the address that an act turns
abbrev pub waiters_of : (Turned → Base → List Notice) → Addresses → Option Turned → List Notice
waiters_of f known None = []
waiters_of f known (Some t) = f t (known.base t.key)

abbrev pub served_on : Turned → Base → List Notice
served_on t b = served_by t.link t.change b.waiting

abbrev pub failed_on : End → Turned → Base → List Notice
failed_on end t b = failed_by end t.change t.pause b

abbrev pub caused : View → ℕ → LinkAct → List (List Notice)
caused v l link.Opens = []
caused v l Reads =
    opens ((answered_on (v.links.live l) ++ waiters_of served_on v.addresses (turned v (Comes (ToLink l Reads)))) ++ heard_on v l)
caused v l (Drains most) = map alone (moved_on most v.now (v.links.live l))
caused v l Pings = []
caused v l (Ends end) =
    opens ((ended_on end v.now (v.links.live l) ++ waiters_of (failed_on end) v.addresses (turned v (Comes (ToLink l (Ends end))))) ++ lost_on v l end)

-- one whose moment has come is told so
abbrev pub woken : View → Alarm → List Notice
woken v (Retry l) = []
woken v (Wake who) = notice who outcome.Woken ∷ []
woken v (Batch n) = readied n topic.Cuts (v.producers.topics n)
woken v (KeepAlive l) = []
woken v CheckIdle = []

abbrev pub stopped_with : Addresses → Alarm → List Notice
stopped_with known (Retry l) = stopped_at known (known.pause l)
stopped_with known (Wake who) = notice who outcome.Stopped ∷ []
stopped_with known (Batch n) = []
stopped_with known (KeepAlive l) = []
stopped_with known CheckIdle = []

abbrev pub causes : View → Act → List (List Notice)
causes v (Comes (ToLink l x)) = caused v l x
causes v (Comes (Rings a)) = if rings v.now a v.alarms then opens (woken v a) else []
causes v (Does who StopAll) = opens ((flat_map (λ e. stopped_with v.addresses e.0) v.alarms ++ stopped_all v.producers) ++ stopped_on v)
causes v _ = []
