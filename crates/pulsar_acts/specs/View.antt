-- What is seen of a run, and what an act makes of it: one small function for each field.
use Rattle.std.specs.Prelude.{ℕ, ◌+◌, ◌==◌, bytes_eq, nat_le, ◌&&◌, not, Bool, true, false, if◌then◌else◌, List, [], ◌∷◌, ◌++◌, Option, Some, None, ◌≡◌, ◌⊎◌}
use Rattle.std.specs.List.{list_any}
use Rattle.std.specs.Option.{is_some, option_map}
use Rattle.pulsar_addresses.specs.Address.{Place, address_key, behind, is_reachable}
use Rattle.pulsar_addresses.specs.Backoff.{connection_id}
use Rattle.pulsar_addresses.specs.declared.options.OperationRetryOptions.{OperationRetryOptions}
use Rattle.pulsar_searches.specs.declared.turn.Ways.{Ways}
use Rattle.url.specs.Parts.{Parts}
use Rattle.pulsar_session.specs.declared.states.Stage.{Stage}
use Rattle.pulsar_session.specs.declared.states.Stage.TheVariants.{Dialing, Handshaking, Ready, Over}
use Rattle.pulsar_session.specs.Link as session
use Rattle.pulsar_session.specs.Link.{Setup, is_open}
use Rattle.pulsar_session.specs.Series as rule
use Rattle.pulsar_exchange.specs.Request.{closed_consumer}
use Rattle.pulsar_messages.specs.Words.{Words}
use Rattle.pulsar_calls.specs.declared.act.Act.{Act}
use Rattle.pulsar_calls.specs.declared.act.Act.TheVariants.{Comes, Starts, Told, Does, Answers, Dials}
use Rattle.pulsar_calls.specs.declared.act.Action.TheVariants.{OfTopic, OfConsumer, Get, Ask, Wait, Number, Hold, Shut, TakeNumber, StopAll}
use Rattle.pulsar_calls.specs.declared.act.TopicAsk.{TopicAsk}
use Rattle.pulsar_calls.specs.declared.act.TopicAsk.TheVariants.{Store, Flush}
use Rattle.pulsar_calls.specs.declared.act.ConsumerAsk.{ConsumerAsk}
use Rattle.pulsar_calls.specs.declared.act.Alarm.{Alarm}
use Rattle.pulsar_calls.specs.declared.act.Alarm.TheVariants.{Retry, Wake, Batch, KeepAlive, CheckIdle}
use Rattle.pulsar_calls.specs.declared.act.End.{End}
use Rattle.pulsar_calls.specs.declared.act.LinkAct.{LinkAct}
use Rattle.pulsar_calls.specs.declared.act.LinkAct.TheVariants.{Reads, Ends}
use Rattle.pulsar_calls.specs.declared.act.Makes.{Makes}
use Rattle.pulsar_calls.specs.declared.act.Makes.TheVariants.{Nothing, Client, Consumer, RawConsumer, Producer}
use Rattle.pulsar_calls.specs.declared.act.Outcome.{Outcome}
use Rattle.pulsar_calls.specs.declared.act.Part.TheVariants.{Calls, ToLink, Rings, Polls}
use Rattle.pulsar_calls.specs.declared.act.Verdict.{Verdict}
use Rattle.pulsar_calls.specs.declared.act.Who.{Who}
use Rattle.pulsar_calls.specs.declared.act.Who.TheVariants as who
use Rattle.pulsar_calls.specs.declared.content.Joining.{Joining}
use Rattle.pulsar_links.specs.declared.addresses.Pause.{Pause}
use Rattle.pulsar_links.specs.declared.addresses.Series.{Series}
use Rattle.pulsar_links.specs.declared.addresses.Series.TheVariants.{Nobody, Runs, Pauses, Serves}
use Rattle.pulsar_plans.specs.declared.plan.Plan.{Plan}
use Rattle.pulsar_links.specs.Alarms.{clear, rings, set}
use Rattle.pulsar_links.specs.Asks as of_link
use Rattle.pulsar_links.specs.Asks.{IsFed, comes_by, got_by, is_end, seat_by}
use Rattle.pulsar_calls.specs.Content as content
use Rattle.pulsar_calls.specs.Content.{Heard, Called, Opened, FailedToOpen, Bytes, Drain, Ticked, Poll, lacks_tickets, shares}
use Rattle.pulsar_links.specs.Links.{Change, Remains, Becomes, IsOver, change_by}
use Rattle.pulsar_plans.specs.Plan.{begins, told}
use Rattle.pulsar_run.specs.Things.{row_after, row_by}
use Rattle.pulsar_outgoing.specs.Storage.{limits_of}
use Rattle.pulsar_calls.specs.declared.content.BuiltProducer.{BuiltProducer}
use Rattle.pulsar_producer_table.specs.Asks.{Around, Given, around_in, given}
use Rattle.pulsar_producer_table.specs.declared.table.Topic.{Topic}
use Rattle.pulsar_producer_table.specs.Producers.{Producers, called_on, freed, holding, is_bare, link_at, listed, none, numbered, numbers_at, shut_by, timeout_at, topic_after, topic_in}
use Rattle.pulsar_producer.specs.Topic as topic
use Rattle.pulsar_consumer_table.specs.Asks as of_consumer
use Rattle.pulsar_consumer_table.specs.Asks.{link_asked, ticket_asked}
use Rattle.pulsar_consumer_table.specs.Consumers as consumer
use Rattle.pulsar_consumer_table.specs.Consumers.{Arrives, ClientStops, CloseAsked, Consumers, Deed, IsHeard, IsPolled, LinkEnds, Member, member_by}
use Rattle.pulsar_consumer.specs.Topic as reader
use Rattle.pulsar_consumer.specs.Topic.{of_raw}
use Rattle.pulsar_calls.specs.Who.{is_same, rank, ticket_of, turn_of}
use Rattle.pulsar_links.specs.Seats.{Seat, Links, Base, nobody, Addresses, later, seat_of_fresh, arrival_at, closing, is_busy, answer_at, is_asked, may_retry, pause_with, base_turned, base_dialed, is_for, pause_put, url_at, room_at}
use Rattle.pulsar_machine.specs.Options.{Chosen, Options}
use Rattle.pulsar_searches.specs.declared.transition.Transition.TheVariants.{Stays, Gives}
use Rattle.pulsar_plans.specs.Transitions.{PlanTransition}

-- THINGS

-- the calls: how many tickets were drawn, whether a Build has ended Ok, and whether the client was stopped
pub record Tickets : Type 0 where
  pub drawn : ℕ
  pub is_built : Bool
  pub is_stopped : Bool

-- all: the options, the clock, where each plan stands, the calls, the links, the addresses, the alarms, the consumers, and the producers
pub record View : Type 0 where
  pub chosen : Chosen
  pub now : ℕ
  pub stand : Who → Option Plan
  pub calls : Tickets
  pub links : Links
  pub addresses : Addresses
  pub alarms : List (Alarm × ℕ)
  pub consumers : Consumers
  pub producers : Producers

-- at first
abbrev pub new : Options → View
new o =
    record {
      chosen = o.chosen;
      now = o.chosen.now;
      stand = λ w. None;
      calls = record { drawn = 0; is_built = false; is_stopped = false };
      links = record { started = 0; live = λ l. None };
      addresses = record { base = λ key. nobody; pause = λ l. None };
      alarms = [];
      consumers = consumer.none o.chosen.first_number;
      producers = none o.chosen.first_number;
    }

-- how the client looks for brokers, where it has an address
abbrev pub ways_from : OperationRetryOptions → Place → Ways
ways_from o base = record { base = base; retry_delay = o.retry_delay; max_retries = o.max_retries }

abbrev pub ways_of : Chosen → Option Ways
ways_of o = option_map (ways_from o.operation) o.base

-- EVENTS

-- a link that has not ended is at such a stage
abbrev pub is_at : (Stage → Bool) → Option Seat → Bool
is_at test None = false
is_at test (Some seat) = test seat.seen.stage

abbrev pub is_dialing : Stage → Bool
is_dialing Dialing = true
is_dialing Handshaking = false
is_dialing Ready = false
is_dialing Over = false

-- an event is live where it names a live link, in a state that the link is in, a consumer, or a moment that isn't before the clock; a
-- call always is
abbrev pub is_live : View → Heard → Bool
is_live v (Called asked) = true
is_live v (Opened l) = is_at is_dialing (v.links.live l)
is_live v (FailedToOpen l kind) = is_at is_dialing (v.links.live l)
is_live v (Bytes l piece) = is_at is_open (v.links.live l)
is_live v (content.Lost l) = is_at is_open (v.links.live l)
is_live v (Drain l most) = is_at is_open (v.links.live l)
is_live v (Ticked now) = nat_le v.now now
is_live v (Poll t) = is_some (v.consumers.rows t)

-- bytes of a link are fed to it
abbrev pub link_heard : (link : ℕ) → Heard → List of_link.Deed
link_heard l (Bytes k piece) = if l == k then IsFed piece ∷ [] else []
link_heard l _ = []

abbrev pub live_begun : Heard → ℕ → Option Seat → Option Seat
live_begun e l row = row_by seat_by (link_heard l e) row

-- and a tick sets the clock
abbrev pub now_begun : Heard → ℕ → ℕ
now_begun (Ticked now) n = now
now_begun _ n = n

abbrev pub begun_live : Heard → View → View
begun_live e v =
    record v { now = now_begun e v.now; links = record { started = v.links.started; live = λ l. live_begun e l (v.links.live l) } }

-- an event that isn't live changes nothing
abbrev pub begun : Heard → View → View
begun e v = if is_live v e then begun_live e v else v

-- PLANS

-- where a plan stands: nowhere, before it starts and when it has given its verdict
abbrev pub stays : PlanTransition → Option Plan
stays (Stays plan action) = Some plan
stays (Gives verdict) = None

abbrev pub told_some : Option Plan → Outcome → Option (PlanTransition)
told_some None o = None
told_some (Some plan) o = Some (told plan o)

abbrev pub stays_some : Option (PlanTransition) → Option Plan
stays_some None = None
stays_some (Some turn) = stays turn

abbrev pub stand_after : Act → Who → Option Plan → Option Plan
stand_after (Starts who p) w row = if is_same w who then stays (begins p) else row
stand_after (Told n) w row = if is_same w n.who then stays_some (told_some row n.outcome) else row
stand_after _ w row = row

-- CALLS

-- a call has a ticket, and so has each of its parts
abbrev pub drawn_after : Act → ℕ → ℕ
drawn_after (Comes (Calls asked advice)) n = if lacks_tickets n (shares asked) then n else n + 1 + shares asked
drawn_after _ n = n

-- calls are made once the client is built, and until it is stopped
abbrev pub may_call : Tickets → Bool
may_call c = c.is_built && not c.is_stopped

-- the client is built where a verdict makes it
abbrev pub builds : Makes → Bool → Bool
builds Nothing b = b
builds Client b = true
builds (Consumer made) b = b
builds (RawConsumer link made) b = b
builds (Producer made) b = b

abbrev pub built_after : Act → Bool → Bool
built_after (Answers who verdict) b = builds verdict.makes b
built_after _ b = b

-- and stopped where a plan ends every link
abbrev pub stopped_after : Act → Bool → Bool
stopped_after (Does who StopAll) b = true
stopped_after _ b = b

abbrev pub calls_after : Act → Tickets → Tickets
calls_after a c =
    record { drawn = drawn_after a c.drawn; is_built = built_after a c.is_built; is_stopped = stopped_after a c.is_stopped }

-- LINKS

-- what a link is made with, when it is dialed
abbrev pub setup : Chosen → (link now : ℕ) → Place → Setup
setup o link now p =
    record {
      id = connection_id o.seed link;
      url = p.url;
      auth = o.auth;
      proxy = behind p;
      connection_timeout = o.connection.connection_timeout;
      operation_timeout = o.operation.operation_timeout;
      outbound = o.outbound;
      first_number = o.first_number;
      made = now;
    }

abbrev pub dialed : Chosen → (link now : ℕ) → Place → Seat
dialed o link now p = seat_of_fresh p now (session.fresh (setup o link now p))

-- the link that serves an address, where one does
abbrev pub serving : Series → Option ℕ
serving Nobody = None
serving (Runs starter retries link) = None
serving (Pauses link) = None
serving (Serves link) = Some link

-- the link that one who wants a link of an address gets at once
abbrev pub link_got : Addresses → Act → Option ℕ
link_got known (Does who (Get p)) = if is_reachable p then serving (known.base (address_key p)).series else None
link_got known _ = None

-- what a plan asks of it gives
abbrev pub link_given : View → Who → (link : ℕ) → Words → of_link.Given
link_given v who l request = of_link.given (record { who = who; now = v.now }) request (v.links.live l)

-- what an act does to the one of a number
abbrev pub link_acts : View → (link : ℕ) → Act → List of_link.Deed
link_acts v l (Comes (ToLink k x)) = if l == k then comes_by x v.now (v.links.live l) else []
link_acts v l (Does who (Get p)) = got_by l (link_got v.addresses (Does who (Get p))) v.now
link_acts v l (Does who (Ask k request)) = if l == k then (link_given v who k request).acts else []
link_acts v l _ = []

-- the one that an act makes, and whether it ends
abbrev pub link_born : View → (link : ℕ) → Act → Option Seat
link_born v l (Dials p starter retries) = if l == v.links.started then Some (dialed v.chosen v.links.started v.now p) else None
link_born v l _ = None

abbrev pub link_gone : View → (link : ℕ) → Act → Bool
link_gone v l (Comes (ToLink k x)) = if l == k then is_end x v.now (v.links.live l) else false
link_gone v l _ = false

-- what becomes of it
abbrev pub link_row : View → Act → (link : ℕ) → Option Seat → Option Seat
link_row v a l row = row_after seat_by (link_born v l a) (link_gone v l a) (link_acts v l a) row

abbrev pub started_after : Act → ℕ → ℕ
started_after (Dials p starter retries) n = n + 1
started_after _ n = n

abbrev pub links_after : View → Act → Links
links_after v a = record { started = started_after a v.links.started; live = λ l. link_row v a l (v.links.live l) }

-- WHAT AN ACT TURNS: the address of its link, what becomes of the link, and the attempt that is to follow, where one does

pub record Turned : Type 0 where
  pub link : ℕ
  pub key : List ℕ
  pub change : Change
  pub pause : Option Pause

abbrev pub pause_of : Chosen → End → Place → Series → Option Pause
pause_of o end p s = option_map (pause_with p) (may_retry o.connection.max_retries end s)

abbrev pub pause_for : Chosen → LinkAct → Change → Place → Series → Option Pause
pause_for o (Ends end) IsOver p s = pause_of o end p s
pause_for o x change p s = None

abbrev pub turned_by : Chosen → Addresses → (now link : ℕ) → LinkAct → Seat → Turned
turned_by o known now l x seat =
    record {
      link = l;
      key = address_key seat.address;
      change = change_by x now seat.seen;
      pause = pause_for o x (change_by x now seat.seen) seat.address (known.base (address_key seat.address)).series;
    }

abbrev pub turned : View → Act → Option Turned
turned v (Comes (ToLink l x)) = option_map (turned_by v.chosen v.addresses v.now l x) (v.links.live l)
turned v _ = None

-- the delay of the attempt that is to follow that of a link, behind so many retries
abbrev pub delay_with : Chosen → (link retries : ℕ) → ℕ
delay_with o l retries = rule.delay o.connection o.seed l retries

abbrev pub delay_of : Chosen → (link : ℕ) → Pause → ℕ
delay_of o l p = delay_with o l p.retries

abbrev pub base_on : Option Turned → (key : List ℕ) → Base → Base
base_on None key b = b
base_on (Some t) key b = if bytes_eq t.key key then base_turned t.link t.change t.pause b else b

-- one that gets a link of an address waits, unless it is served at once
abbrev pub waits_for : Series → Who → List Who → List Who
waits_for Nobody who ws = ws ++ who ∷ []
waits_for (Runs starter retries link) who ws = ws ++ who ∷ []
waits_for (Pauses link) who ws = ws ++ who ∷ []
waits_for (Serves link) who ws = ws

abbrev pub base_got : Who → Place → (key : List ℕ) → Base → Base
base_got who p key b =
    if is_reachable p && bytes_eq (address_key p) key then record { series = b.series; waiting = waits_for b.series who b.waiting } else b

abbrev pub is_to_follow : Addresses → (key : List ℕ) → Alarm → Bool
is_to_follow known key (Retry l) = is_for key (known.pause l)
is_to_follow known key (Wake who) = false
is_to_follow known key (Batch n) = false
is_to_follow known key (KeepAlive l) = false
is_to_follow known key CheckIdle = false

abbrev pub waits_on : Addresses → List (Alarm × ℕ) → (key : List ℕ) → Bool
waits_on known alarms key = list_any (λ e. is_to_follow known key e.0) alarms

abbrev pub base_after : View → Act → (key : List ℕ) → Base → Base
base_after v (Comes (ToLink l x)) key b = base_on (turned v (Comes (ToLink l x))) key b
base_after v (Does who (Get p)) key b = base_got who p key b
base_after v (Does who StopAll) key b = if waits_on v.addresses v.alarms key then nobody else b
base_after v (Dials p starter retries) key b = base_dialed v.links.started p starter retries key b
base_after v _ key b = b

abbrev pub pause_on : Option Turned → ℕ → Option Pause → Option Pause
pause_on None l row = row
pause_on (Some t) l row = pause_put t.pause t.link l row

-- the attempt that was to follow is made once its moment has come
abbrev pub pause_rung : (rings : Bool) → Alarm → ℕ → Option Pause → Option Pause
pause_rung rings (Retry k) l row = if rings && (l == k) then None else row
pause_rung rings (Wake who) l row = row
pause_rung rings (Batch n) l row = row
pause_rung rings (KeepAlive k) l row = row
pause_rung rings CheckIdle l row = row

abbrev pub pause_after : View → Act → ℕ → Option Pause → Option Pause
pause_after v (Comes (ToLink k x)) l row = pause_on (turned v (Comes (ToLink k x))) l row
pause_after v (Comes (Rings a)) l row = pause_rung (rings v.now a v.alarms) a l row
pause_after v (Does who StopAll) l row = None
pause_after v _ l row = row

abbrev pub addresses_after : View → Act → Addresses
addresses_after v a =
    record { base = λ key. base_after v a key (v.addresses.base key); pause = λ l. pause_after v a l (v.addresses.pause l) }

-- ALARMS

-- how often the links are looked at that nothing uses
abbrev pub idle_period : ℕ
idle_period = 60000

-- a link that becomes ready is to be kept alive; at its end the next attempt is set, where one is to follow
abbrev pub alarms_over : Chosen → (now link : ℕ) → Option Pause → List (Alarm × ℕ) → List (Alarm × ℕ)
alarms_over o now l None alarms = alarms
alarms_over o now l (Some p) alarms = set (Retry l) (later now (delay_of o l p)) alarms

abbrev pub alarms_turned : Chosen → (now link : ℕ) → Change → Option Pause → List (Alarm × ℕ) → List (Alarm × ℕ)
alarms_turned o now l Remains pause alarms = alarms
alarms_turned o now l Becomes pause alarms = set (KeepAlive l) (later now o.connection.keep_alive) alarms
alarms_turned o now l IsOver pause alarms = alarms_over o now l pause (clear (KeepAlive l) alarms)

abbrev pub alarms_on : Chosen → (now : ℕ) → Option Turned → List (Alarm × ℕ) → List (Alarm × ℕ)
alarms_on o now None alarms = alarms
alarms_on o now (Some t) alarms = alarms_turned o now t.link t.change t.pause alarms

-- one that has rung is set no more, or again for one period from now
abbrev pub alarms_rung : Chosen → (now : ℕ) → Alarm → List (Alarm × ℕ) → List (Alarm × ℕ)
alarms_rung o now (Retry l) alarms = clear (Retry l) alarms
alarms_rung o now (Wake who) alarms = clear (Wake who) alarms
alarms_rung o now (Batch n) alarms = clear (Batch n) alarms
alarms_rung o now (KeepAlive l) alarms = set (KeepAlive l) (later now o.connection.keep_alive) alarms
alarms_rung o now CheckIdle alarms = set CheckIdle (later now idle_period) alarms

-- with the first Build that ends Ok the idle check begins
abbrev pub alarms_built : (now : ℕ) → (is_first : Bool) → List (Alarm × ℕ) → List (Alarm × ℕ)
alarms_built now is_first alarms = if is_first then set CheckIdle (later now idle_period) alarms else alarms

-- What is stored waits from its first message on, so long as its producer says. Where nothing is stored any longer nothing waits.
abbrev pub waits_from : (now : ℕ) → (timeout : Option ℕ) → (number : ℕ) → List (Alarm × ℕ) → List (Alarm × ℕ)
waits_from now None n alarms = alarms
waits_from now (Some delay) n alarms = set (Batch n) (later now delay) alarms

abbrev pub alarms_waiting : (now : ℕ) → (timeout : Option ℕ) → (number : ℕ) → (was_bare is_bare : Bool) → List (Alarm × ℕ) → List (Alarm × ℕ)
alarms_waiting now timeout n was_bare is_bare alarms =
    if is_bare then clear (Batch n) alarms else (if was_bare then waits_from now timeout n alarms else alarms)

abbrev pub alarms_on_topic : View → (number : ℕ) → topic.Act → List (Alarm × ℕ)
alarms_on_topic v n act =
    alarms_waiting v.now (timeout_at v.producers (v.producers.topics n)) n (is_bare (v.producers.topics n))
    (is_bare (option_map (topic_after act) (v.producers.topics n))) v.alarms

abbrev pub clear_all : List ℕ → List (Alarm × ℕ) → List (Alarm × ℕ)
clear_all [] alarms = alarms
clear_all (n ∷ ns) alarms = clear_all ns (clear (Batch n) alarms)

abbrev pub alarms_after : View → Act → List (Alarm × ℕ)
alarms_after v (Comes (ToLink l x)) = alarms_on v.chosen v.now (turned v (Comes (ToLink l x))) v.alarms
alarms_after v (Comes (Rings a)) = if rings v.now a v.alarms then alarms_rung v.chosen v.now a v.alarms else v.alarms
alarms_after v (Does who (Wait delay)) = set (Wake who) (later v.now delay) v.alarms
alarms_after v (Does who (OfTopic n (Store e))) = alarms_on_topic v n (topic.Stores (turn_of who) e)
alarms_after v (Does who (OfTopic n Flush)) = alarms_on_topic v n (topic.Flushes (turn_of who))
alarms_after v (Does who (Shut t)) = clear_all (numbers_at (v.producers.built t)) v.alarms
alarms_after v (Does who StopAll) = []
alarms_after v (Answers who verdict) = alarms_built v.now (not v.calls.is_built && builds verdict.makes false) v.alarms
alarms_after v _ = v.alarms

-- CONSUMERS

-- The consumer that a verdict makes has the ticket of its call, and a key of its own. It is plain: what stands above takes no copies of dead letters,
-- and asks for no message again.
abbrev pub setup_of : (key : ℕ) → Joining → reader.Setup
setup_of key j = record { key = key; topic = j.topic; number = j.number; config = consumer.plain j.config; is_raw = false }

abbrev pub member_on : (ℕ → Option Seat) → (link : ℕ) → reader.Setup → Member
member_on live l s = consumer.member_of s l (url_at (live l))

abbrev pub member_made : (ℕ → Option Seat) → (key : ℕ) → Makes → Option Member
member_made live key Nothing = None
member_made live key Client = None
member_made live key (Consumer made) = Some (member_on live made.link (setup_of key made))
member_made live key (RawConsumer l made) = Some (member_on live l (of_raw made))
member_made live key (Producer made) = None

-- its key is drawn
abbrev pub keyed_for : Makes → Consumers → Consumers
keyed_for Nothing cs = cs
keyed_for Client cs = cs
keyed_for (Consumer made) cs = consumer.keyed cs
keyed_for (RawConsumer l made) cs = cs
keyed_for (Producer made) cs = cs

-- and that is listed
abbrev pub listed_as : Who → Consumers → Consumers
listed_as (who.Call t) cs = consumer.listed t cs
listed_as (who.Consumer n t) cs = cs
listed_as (who.Producer n) cs = cs

abbrev pub consumers_listed : Who → Makes → Consumers → Consumers
consumers_listed w Nothing cs = cs
consumers_listed w Client cs = cs
consumers_listed w (Consumer made) cs = listed_as w (consumer.keyed cs)
consumers_listed w (RawConsumer l made) cs = listed_as w cs
consumers_listed w (Producer made) cs = cs

-- and a call that has ended holds no number
abbrev pub consumers_left : Who → Consumers → Consumers
consumers_left (who.Call t) cs = consumer.freed t cs
consumers_left (who.Consumer n t) cs = cs
consumers_left (who.Producer n) cs = cs

-- WHAT IS DONE TO A CONSUMER

-- where a link goes that an ask names, where that has not ended
abbrev pub url_on : (ℕ → Option Seat) → Option ℕ → Option Parts
url_on live None = None
url_on live (Some l) = url_at (live l)

-- and what one gives that is asked
abbrev pub consumer_asked : View → Who → ConsumerAsk → of_consumer.Given
consumer_asked v who ask = of_consumer.asked_in v.consumers (ticket_asked who ask) who (url_on v.links.live (link_asked ask)) ask

-- what an act does to the one of a ticket: they hear the frames of a link, and its end, and where the close of one is asked for
abbrev pub member_acts : View → (ticket : ℕ) → Act → List Deed
member_acts v t (Comes (ToLink l Reads)) = Arrives l (arrival_at (v.links.live l)) ∷ []
member_acts v t (Comes (ToLink l (Ends end))) = LinkEnds l (closing end v.now (v.links.live l)) ∷ []
member_acts v t (Comes (Polls u)) = if t == u then IsPolled v.now ∷ [] else []
member_acts v t (Does w (Ask l request)) = CloseAsked (closed_consumer request) l (is_asked (answer_at v.now request (v.links.live l))) ∷ []
member_acts v t (Does w (OfConsumer ask)) = if t == ticket_asked w ask then (consumer_asked v w ask).acts else []
member_acts v t (Does w StopAll) = ClientStops ∷ []
member_acts v t _ = []

-- and the one that an act makes
abbrev pub member_of : Option Member → Who → (ticket : ℕ) → Option Member
member_of None w t = None
member_of (Some m) (who.Call u) t = if t == u then Some m else None
member_of (Some m) (who.Consumer n u) t = None
member_of (Some m) (who.Producer n) t = None

abbrev pub member_born : View → (ticket : ℕ) → Act → Option Member
member_born v t (Answers w verdict) = member_of (member_made v.links.live v.consumers.next_key verdict.makes) w t
member_born v t _ = None

-- what becomes of it
abbrev pub member_row : View → Act → (ticket : ℕ) → Option Member → Option Member
member_row v a t row = row_after member_by (member_born v t a) false (member_acts v t a) row

-- all else of the consumers: their tickets, and their numbers
abbrev pub consumers_else : View → Act → Consumers
consumers_else v (Comes (Calls asked advice)) =
    if lacks_tickets v.calls.drawn (shares asked) then v.consumers else consumer.called_on (may_call v.calls) asked v.consumers
consumers_else v (Does w (TakeNumber wanted)) = consumer.numbered (ticket_of w) wanted v.consumers
consumers_else v (Answers w verdict) = consumers_left w (consumers_listed w verdict.makes v.consumers)
consumers_else v _ = v.consumers

abbrev pub consumers_after : View → Act → Consumers
consumers_after v a = record (consumers_else v a) { rows = λ t. member_row v a t (v.consumers.rows t) }

-- PRODUCERS

-- what is around a topic producer: the room on its link, where that is ready
abbrev pub room_on : (ℕ → Option Seat) → Option ℕ → Option Bool
room_on live None = None
room_on live (Some l) = room_at (live l)

abbrev pub room_of : View → (number : ℕ) → Option Bool
room_of v n = room_on v.links.live (link_at (v.producers.topics n))

-- the producer that a verdict makes has the ticket of its call
abbrev pub producers_listed : Chosen → Who → Makes → Producers → Producers
producers_listed o who Nothing ps = ps
producers_listed o who Client ps = ps
producers_listed o who (Consumer made) ps = ps
producers_listed o who (RawConsumer link made) ps = ps
producers_listed o who (Producer made) ps = listed (rank who).1 made o.seed ps

-- and a call that has ended makes none any more
abbrev pub producers_left : Who → Producers → Producers
producers_left (who.Call t) ps = freed t ps
producers_left (who.Consumer n t) ps = ps
producers_left (who.Producer n) ps = ps

-- WHAT IS DONE TO A TOPIC PRODUCER

-- what is around one that is asked, and what it gives
abbrev pub around : View → Who → (number : ℕ) → Around
around v who n = around_in v.producers n (turn_of who) (room_of v n)

abbrev pub asked_of : View → Who → (number : ℕ) → TopicAsk → Given
asked_of v who n ask = given (around v who n) ask (v.producers.topics n)

-- what is stored is cut once it has waited
abbrev pub rung_by : (rings : Bool) → List topic.Act
rung_by rings = if rings then topic.Cuts ∷ [] else []

abbrev pub topic_rung : (rings : Bool) → Alarm → (number : ℕ) → List topic.Act
topic_rung rings (Batch m) n = if n == m then rung_by rings else []
topic_rung rings (Retry l) n = []
topic_rung rings (Wake who) n = []
topic_rung rings (KeepAlive l) n = []
topic_rung rings CheckIdle n = []

-- what an act does to the one of a number, the newest first
abbrev pub topic_acts : View → (number : ℕ) → Act → List topic.Act
topic_acts v n (Comes (Rings a)) = topic_rung (rings v.now a v.alarms) a n
topic_acts v n (Does who (OfTopic m ask)) = if n == m then (asked_of v who m ask).acts else []
topic_acts v n (Does who (Shut t)) = shut_by n (numbers_at (v.producers.built t))
topic_acts v n (Does who StopAll) = topic.Halts ∷ []
topic_acts v n _ = []

-- and the one that an act makes
abbrev pub building_of : Makes → Option BuiltProducer
building_of Nothing = None
building_of Client = None
building_of (Consumer made) = None
building_of (RawConsumer link made) = None
building_of (Producer made) = Some made

abbrev pub topic_of : Option BuiltProducer → Who → Chosen → (number : ℕ) → Option Topic
topic_of None who o n = None
topic_of (Some b) who o n = topic_in (rank who).1 o.first_number (limits_of b.settings) b.parts n

abbrev pub topic_born : View → (number : ℕ) → Act → Option Topic
topic_born v n (Answers who verdict) = topic_of (building_of verdict.makes) who v.chosen n
topic_born v n _ = None

-- what becomes of it
abbrev pub topic_row : View → Act → (number : ℕ) → Option Topic → Option Topic
topic_row v a n row = row_after topic_after (topic_born v n a) false (topic_acts v n a) row

-- all else of the producers
abbrev pub others_after : View → Act → Producers
others_after v (Comes (Calls asked advice)) =
    if lacks_tickets v.calls.drawn (shares asked) then v.producers else called_on (may_call v.calls) asked v.producers
others_after v (Does who Number) = numbered v.producers
others_after v (Does who (Hold l n)) = holding (ticket_of who) l n v.producers
others_after v (Answers who verdict) = producers_left who (producers_listed v.chosen who verdict.makes v.producers)
others_after v _ = v.producers

abbrev pub producers_after : View → Act → Producers
producers_after v a = record (others_after v a) { topics = λ n. topic_row v a n (v.producers.topics n) }

-- WHAT A LINK IS WAITED FOR

abbrev pub is_handshaking : Stage → Bool
is_handshaking Dialing = false
is_handshaking Handshaking = true
is_handshaking Ready = false
is_handshaking Over = false

-- A link is open, and something waits for it: it isn't ready yet, or a request of it waits for a reply, or a subscription on it is live.
abbrev pub Waits : (link : ℕ) → View → Type 0
Waits l v =
    (is_at is_open (v.links.live l) ≡ true)
    × ((is_at is_handshaking (v.links.live l) ≡ true) ⊎ (is_busy (v.links.live l) ≡ true) ⊎ IsHeard l v.consumers.rows)

-- ALL

abbrev pub after : Act → View → View
after a v =
    record {
      chosen = v.chosen;
      now = v.now;
      stand = λ w. stand_after a w (v.stand w);
      calls = calls_after a v.calls;
      links = links_after v a;
      addresses = addresses_after v a;
      alarms = alarms_after v a;
      consumers = consumers_after v a;
      producers = producers_after v a;
    }
