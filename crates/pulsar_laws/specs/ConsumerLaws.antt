-- What follows of consumers, in plain words.
use Rattle.std.specs.Prelude.{◌≡◌, ℕ, ◌+◌, ◌-◌, ◌≤◌, nat_lt, ◌==◌, ◌&&◌, ◌||◌, Bool, true, false, if◌then◌else◌, List, [], ◌∷◌, ◌++◌, length, map, Option, Some, None, Ok}
use Rattle.std.specs.List.{filter, flat_map, list_any, sum, sum_by}
use Rattle.std.specs.Option.{is_some, option_map, option_to_list}
use Rattle.url.specs.Parts.{Parts}
use Rattle.pulsar_messages.specs.Words as words
use Rattle.pulsar_messages.specs.Words.{Words}
use Rattle.pulsar_run.specs.Laws.{InThisStep}
use Rattle.pulsar_wire.specs.Failures.{Fault}
use Rattle.pulsar_session.specs.Link.{Seen as Connection, has_room}
use Rattle.pulsar_session.specs.declared.states.Asked.{Asked as Placed}
use Rattle.pulsar_session.specs.declared.states.Asked.TheVariants as placed
use Rattle.pulsar_frame.specs.Items.{Item, Given, Faulty}
use Rattle.pulsar_exchange.specs.Messages.{Reply, is_body}
use Rattle.pulsar_consumer.specs.Frames.{frame_in}
use Rattle.pulsar_consumer.specs.Items.{Item as Arrived, handed}
use Rattle.pulsar_consumer.specs.Laws.{ArePlaced, arrivals, asked_since, begun, items_of, weighed_before, weights}
use Rattle.pulsar_consumer.specs.Topic as reader
use Rattle.pulsar_consumer.specs.Topic.{Act as Done, Lives, Hears, Loses, Fails, Ends as Over, Polls as Polled, Asks, Live, Seen, Setup, batch_size, first_of, half, is_ended, link_of, lives_on, of_raw, polled_from}
use Rattle.pulsar_incoming.specs.declared.polled.Ending.{Ending}
use Rattle.pulsar_incoming.specs.declared.polled.Ending.TheVariants.{Closed, TopicEnded, Stopped}
use Rattle.pulsar_calls.specs.declared.act.Act.{Act}
use Rattle.pulsar_calls.specs.declared.act.Act.TheVariants.{Comes, Starts, Told, Does, Answers}
use Rattle.pulsar_exchange.specs.Request.{closed_consumer}
use Rattle.pulsar_calls.specs.declared.act.Action.TheVariants.{Ask, OfConsumer, StopAll}
use Rattle.pulsar_calls.specs.declared.act.ConsumerAsk.TheVariants.{TakeFlow, Revive, Fail}
use Rattle.pulsar_calls.specs.declared.act.Arrival.{Arrival}
use Rattle.pulsar_calls.specs.declared.act.Arrival.TheVariants.{Nothing, Readied, Settles, Gives, Passes, Bad}
use Rattle.pulsar_calls.specs.declared.act.Makes.{Makes}
use Rattle.pulsar_calls.specs.declared.act.Makes.TheVariants as makes
use Rattle.pulsar_calls.specs.declared.act.LinkAct.TheVariants.{Reads, Ends}
use Rattle.pulsar_calls.specs.declared.act.Part.TheVariants.{ToLink, Polls}
use Rattle.pulsar_calls.specs.declared.act.Procedure.{Procedure}
use Rattle.pulsar_calls.specs.declared.act.Who.{Who}
use Rattle.pulsar_calls.specs.declared.act.Outcome.TheVariants as outcome
use Rattle.pulsar_calls.specs.declared.act.Word.TheVariants as word
use Rattle.pulsar_calls.specs.declared.act.Who.TheVariants.{Call, Consumer}
use Rattle.pulsar_calls.specs.Content as content
use Rattle.pulsar_calls.specs.Content.{Asked, Heard, Poll, Shown, Hands, Faults, FindsNothing, FindsEnd}
use Rattle.pulsar_calls.specs.Who.{is_same, ticket_of}
use Rattle.pulsar_consumer_table.specs.Consumers as consumer
use Rattle.pulsar_consumer_table.specs.Consumers.{Member, is_closed_by}
use Rattle.pulsar_links.specs.Links.{line_places}
use Rattle.pulsar_acts.specs.View.{View, setup_of}
use Rattle.pulsar_machine.specs.Options.{Options}
use Rattle.pulsar_links.specs.Seats.{Seat, answer_at, arrival_at, closing, is_asked, place_of, url_at}
use Rattle.pulsar_acts.specs.Rules.{call_part, notice}
use Rattle.pulsar_acts.specs.Run.{Entry, Begins, Then, IsRun, Rests, agenda, steps, view}
use Rattle.pulsar_calls.specs.Steps.{Step}
use Rattle.pulsar_agenda.specs.Agenda.{first}
use Rattle.pulsar_laws.specs.Laws.{counted}

-- WHAT IS DONE TO A CONSUMER

-- by a frame for its number that comes on a link: a message, the end of its topic, or the close of the broker
abbrev pub frame_does : (link : ℕ) → Reply → Seen → List Done
frame_does l r s =
    if is_body 9 r.content.body then Hears l (frame_in r) ∷ []
    else if is_body 27 r.content.body then (if lives_on l s then Over TopicEnded ∷ [] else [])
    else if is_body 16 r.content.body then Loses l ∷ []
    else []

abbrev pub arrival_does : (link : ℕ) → Arrival → Seen → List Done
arrival_does l Nothing s = []
arrival_does l Readied s = []
arrival_does l Settles s = []
arrival_does l (Gives number reply) s = if s.number == number then frame_does l reply s else []
arrival_does l Passes s = []
arrival_does l (Bad cause) s = []

-- by the end of a link, by the asking for its close, and by a subscription on a link that has not ended
abbrev pub loss_does : (link : ℕ) → Option Fault → List Done
loss_does l None = []
loss_does l (Some cause) = Loses l ∷ []

abbrev pub close_does : (closed : Option ℕ) → (link : ℕ) → (is_asked : Bool) → Member → List Done
close_does closed l is_asked m = if is_asked && is_closed_by closed l m then Over Closed ∷ [] else []

abbrev pub subscription_does : (link : ℕ) → Option Parts → List Done
subscription_does l None = []
subscription_does l (Some url) = Lives l url ∷ []

-- by an act, to the consumer of a ticket
abbrev pub does_to : View → (ticket : ℕ) → Member → Act → List Done
does_to v t m (Comes (ToLink l Reads)) = arrival_does l (arrival_at (v.links.live l)) m.seen
does_to v t m (Comes (ToLink l (Ends end))) = loss_does l (closing end v.now (v.links.live l))
does_to v t m (Comes (Polls u)) = if t == u then Polled v.now ∷ [] else []
does_to v t m (Does who (Ask l request)) = close_does (closed_consumer request) l (is_asked (answer_at v.now request (v.links.live l))) m
does_to v t m (Does who (OfConsumer TakeFlow)) = if t == ticket_of who then Asks ∷ [] else []
does_to v t m (Does who (OfConsumer (Revive l))) = if t == ticket_of who then subscription_does l (url_at (v.links.live l)) else []
does_to v t m (Does who (OfConsumer (Fail f))) = if t == ticket_of who then Fails f ∷ [] else []
does_to v t m (Does who StopAll) = Over Stopped ∷ []
does_to v t m _ = []

-- and by the verdict that makes it: its first subscription
abbrev pub made_as : (key : ℕ) → Makes → Option Setup
made_as key makes.Nothing = None
made_as key makes.Client = None
made_as key (makes.Consumer j) = Some (setup_of key j)
made_as key (makes.RawConsumer l made) = Some (of_raw made)
made_as key (makes.Producer b) = None

abbrev pub making_does : (ℕ → Option Seat) → Makes → List Done
making_does live makes.Nothing = []
making_does live makes.Client = []
making_does live (makes.Consumer j) = subscription_does j.link (url_at (live j.link))
making_does live (makes.RawConsumer l made) = subscription_does l (url_at (live l))
making_does live (makes.Producer b) = []

-- how the consumer of a ticket was made
abbrev pub made_with : Options → (ticket : ℕ) → List Entry → Option Setup
made_with o t [] = None
made_with o t (Then (Answers who verdict) ∷ log) =
    if is_same (Call t) who then made_as (view o log).consumers.next_key verdict.makes else made_with o t log
made_with o t (_ ∷ log) = made_with o t log

-- all that was done to it since, newest first
abbrev pub done_since : View → (ticket : ℕ) → Act → Option Member → List Done → List Done
done_since v t (Answers who verdict) None h = if is_same (Call t) who then making_does v.links.live verdict.makes else h
done_since v t a None h = h
done_since v t a (Some m) h = does_to v t m a ++ h

abbrev pub done_to : Options → (ticket : ℕ) → List Entry → List Done
done_to o t [] = []
done_to o t (Begins e ∷ log) = done_to o t log
done_to o t (Then a ∷ log) = done_since (view o log) t a ((view o log).consumers.rows t) (done_to o t log)

-- A consumer is what was done to it since it was made, and nothing else. So all that holds of one over any acts holds of it: its items are those of
-- its arrivals, as many are placed as its receiver queue holds, frames are begun in turn, and nothing arrives behind its end.
abbrev pub ConsumersAlone : Type 0
ConsumersAlone = (o : Options) (log : List Entry) (t : ℕ) (m : Member) → IsRun o log → (view o log).consumers.rows t ≡ Some m →
    (s : Setup) × (made_with o t log ≡ Some s) × (m.seen ≡ reader.seen s (done_to o t log))

-- ITEMS

-- the item that an effect gives to a poll of a ticket
abbrev pub given_by : ℕ → Shown → List Item
given_by t (Hands ticket topic id size metadata payload) = if t == ticket then Given id size metadata payload ∷ [] else []
given_by t (Faults ticket fault) = if t == ticket then Faulty fault ∷ [] else []
given_by t _ = []

-- those that the effects of a history give, in order
abbrev pub items_given : ℕ → List Step → List Item
items_given t [] = []
items_given t (s ∷ h) = items_given t h ++ flat_map (given_by t) s.effects

-- the effect of its next poll: it gives the first of what is left; where nothing is, it finds the end if the consumer has ended, and else nothing
abbrev pub shows_next : (ticket : ℕ) → (topic : List ℕ) → (left : List Item) → (ended : Option Ending) → Shown
shows_next t topic (Given id size metadata payload ∷ left) ended = Hands t topic id size metadata payload
shows_next t topic (Faulty fault ∷ left) ended = Faults t fault
shows_next t topic [] (Some why) = FindsEnd t
shows_next t topic [] None = FindsNothing t

-- The polls of a consumer give just the items of its arrivals, in order, each once and without gap: behind what they gave stands what is left. What
-- arrives are the messages that come for its number on the link of its live subscription, and why it could not be subscribed again. Its next
-- poll gives the first that is left; where none is left it gives the end if it has ended, and else nothing.
abbrev pub PollsFollow : Type 0
PollsFollow = (o : Options) (log : List Entry) (t : ℕ) (m : Member) → IsRun o log → (view o log).consumers.rows t ≡ Some m →
    (s : Setup) × (left : List Arrived) × (made_with o t log ≡ Some s)
    × (items_given t (steps o log) ++ map handed left ≡ map handed (items_of (arrivals s (done_to o t log))))
    × (reader.polled m.seen ≡ polled_from (first_of left) m.seen.ended)
    × (consumer.polled t m ≡ shows_next t m.seen.topic (map handed left) m.seen.ended)

-- A consumer is polled where the user asks for it, and that is the one effect of that step.
abbrev pub PollsAreAnswered : Type 0
PollsAreAnswered = (o : Options) (log : List Entry) (t : ℕ) → IsRun o (Then (Comes (Polls t)) ∷ log) →
    (older : List Entry) × (m : Member) × (log ≡ Begins (Poll t) ∷ older) × ((view o older).consumers.rows t ≡ Some m)
    × (steps o (Then (Comes (Polls t)) ∷ log) ≡ record { event = Poll t; effects = consumer.polled t m ∷ [] } ∷ steps o older)

-- A poll of a consumer that is there, be it ended or not, is the first act of its step.
abbrev pub PollsComeFirst : Type 0
PollsComeFirst = (o : Options) (log : List Entry) (t : ℕ) (m : Member) → IsRun o (Begins (Poll t) ∷ log) → (view o log).consumers.rows t ≡ Some m →
    first (agenda o (Begins (Poll t) ∷ log)) ≡ Some (Comes (Polls t))

-- the effects that answer a poll: an item, that there is none now, or none any longer
abbrev pub answers_poll : Shown → Bool
answers_poll (Hands ticket topic id size metadata payload) = true
answers_poll (Faults ticket fault) = true
answers_poll (FindsNothing ticket) = true
answers_poll (FindsEnd ticket) = true
answers_poll _ = false

-- the answers that are due to an event: one to a poll of a consumer that is there, and none to all else
abbrev pub answers_to : View → Heard → List Shown
answers_to v (Poll t) = option_to_list (option_map (consumer.polled t) (v.consumers.rows t))
answers_to v _ = []

-- those of all events, newest first
abbrev pub answered_in : Options → List Entry → List (List Shown)
answered_in o [] = []
answered_in o (Begins e ∷ log) = answers_to (view o log) e ∷ answered_in o log
answered_in o (Then a ∷ log) = answered_in o log

-- So each step of a history has just the answers that are due to its event: a poll of a consumer that is there gets one, which is the item that it
-- finds, that there is none now, or the end; and no other step answers a poll.
abbrev pub EachPollIsAnswered : Type 0
EachPollIsAnswered = (o : Options) (log : List Entry) → IsRun o log → Rests o log →
    map (λ s. filter answers_poll s.effects) (steps o log) ≡ answered_in o log

-- ENDS

-- A consumer ends at an act: by a frame for it, on the link of its live subscription, that ends its topic; where its close is asked for there; where
-- it could not be subscribed again; with the stop of the client. A raw one ends also by the close of the broker, and with its link.
abbrev pub frame_ends : (link : ℕ) → Reply → Seen → Bool
frame_ends l r s =
    if is_body 9 r.content.body then false
    else if is_body 27 r.content.body then lives_on l s
    else if is_body 16 r.content.body then lives_on l s && s.is_raw
    else false

abbrev pub arrival_ends : (link : ℕ) → Arrival → Seen → Bool
arrival_ends l Nothing s = false
arrival_ends l Readied s = false
arrival_ends l Settles s = false
arrival_ends l (Gives number reply) s = if s.number == number then frame_ends l reply s else false
arrival_ends l Passes s = false
arrival_ends l (Bad cause) s = false

abbrev pub ends_by : View → (ticket : ℕ) → Member → Act → Bool
ends_by v t m (Comes (ToLink l Reads)) = arrival_ends l (arrival_at (v.links.live l)) m.seen
ends_by v t m (Comes (ToLink l (Ends end))) = is_some (closing end v.now (v.links.live l)) && (lives_on l m.seen && m.seen.is_raw)
ends_by v t m (Does who (Ask l request)) = is_asked (answer_at v.now request (v.links.live l)) && is_closed_by (closed_consumer request) l m
ends_by v t m (Does who (OfConsumer (Fail f))) = t == ticket_of who
ends_by v t m (Does who StopAll) = true
ends_by v t m _ = false

abbrev pub ends_at : View → (ticket : ℕ) → Option Member → Act → Bool
ends_at v t None a = false
ends_at v t (Some m) a = ends_by v t m a

abbrev pub has_ended : Options → (ticket : ℕ) → List Entry → Bool
has_ended o t [] = false
has_ended o t (Begins e ∷ log) = has_ended o t log
has_ended o t (Then a ∷ log) = has_ended o t log || ends_at (view o log) t ((view o log).consumers.rows t) a

-- It has ended exactly where it ended at one of the acts so far.
abbrev pub ConsumersEnd : Type 0
ConsumersEnd = (o : Options) (log : List Entry) (t : ℕ) (m : Member) → IsRun o log → (view o log).consumers.rows t ≡ Some m →
    is_ended m.seen ≡ has_ended o t log

-- A consumer remains what it is. Once it has ended it stays so, for the same reason; no subscription of it is live, and nothing arrives.
abbrev pub ConsumersRemain : Type 0
ConsumersRemain = (o : Options) (later older : List Entry) (t : ℕ) (m : Member) → IsRun o (later ++ older) → (view o older).consumers.rows t ≡ Some m →
    (s : Setup) × (m' : Member) × ((view o (later ++ older)).consumers.rows t ≡ Some m') × (made_with o t (later ++ older) ≡ Some s)
    × (made_with o t older ≡ Some s)
    × ((why : Ending) → m.seen.ended ≡ Some why → (m'.seen.ended ≡ Some why) × (link_of m'.seen ≡ None)
    × (arrivals s (done_to o t (later ++ older)) ≡ arrivals s (done_to o t older)))

-- Each consumer that was built has a key of its own: no other has it, at the same time or later, and no raw one.
abbrev pub KeysAreOwn : Type 0
KeysAreOwn = (o : Options) (later older : List Entry) (t u : ℕ) (m n : Member) → IsRun o (later ++ older) →
    (view o older).consumers.rows t ≡ Some m → (view o (later ++ older)).consumers.rows u ≡ Some n → (m.seen.is_raw && n.seen.is_raw) ≡ false →
    m.seen.key ≡ n.seen.key → t ≡ u

-- PERMITS

-- What remains of the permits of a live subscription is at most the batch size; where each arrival is finished, half of it, rounded up, and what
-- is spent is at most what was granted.
-- It is the sum of its flows, those that were asked for since it was made and those that are due, less what the frames weigh that were begun
-- since then, of whichever subscription they came.
abbrev pub PermitsAreKept : Type 0
PermitsAreKept = (o : Options) (log : List Entry) (t : ℕ) (m : Member) (l : Live) → IsRun o log → (view o log).consumers.rows t ≡ Some m →
    m.seen.is_raw ≡ false → m.seen.engine.live ≡ Some l →
    (s : Setup) × (made_with o t log ≡ Some s) × (l.level - l.weight ≤ batch_size m.seen.config)
    × (ArePlaced s (done_to o t log) → half (batch_size m.seen.config) + l.weight ≤ l.level)
    × (l.level + weights (begun s (done_to o t log))
    ≡ l.weight + (asked_since s (done_to o t log) + sum l.due) + weighed_before s (done_to o t log))

-- The plan of a consumer gives permits only by a flow that it took from it: the frame that it asks for bears its number and these permits, on the link
-- of the subscription that is live where it takes them; and it asks for it in that step, right behind what it is told of it.
abbrev pub TakesSo : Options → (number ticket link permits : ℕ) → Entry → List Entry → Type 0
TakesSo o n t l p e older = (e ≡ Then (Does (Consumer n t) (OfConsumer TakeFlow))) × (consumer.flow_at ((view o older).consumers.rows t) ≡ Some (l, p))

abbrev pub FlowsAreTaken : Type 0
FlowsAreTaken = (o : Options) (log : List Entry) (n t l m p : ℕ) → IsRun o (Then (Does (Consumer n t) (Ask l (words.SendFlow m p))) ∷ log) →
    (older : List Entry) × (m ≡ n) × (log ≡ Then (Told (notice (Consumer n t) (outcome.Word (word.Flow l p)))) ∷ older)
    × InThisStep (TakesSo o n t l p) older

-- Each flow that it takes is asked for: it is told of it next, and next it asks for it.
abbrev pub FlowsAreAsked : Type 0
FlowsAreAsked = (o : Options) (older : List Entry) (n t l p : ℕ) → IsRun o (Then (Does (Consumer n t) (OfConsumer TakeFlow)) ∷ older) →
    consumer.flow_at ((view o older).consumers.rows t) ≡ Some (l, p) →
    (first (agenda o (Then (Does (Consumer n t) (OfConsumer TakeFlow)) ∷ older)) ≡ Some (Told (notice (Consumer n t) (outcome.Word (word.Flow l p)))))
    × (first (agenda o (Then (Told (notice (Consumer n t) (outcome.Word (word.Flow l p)))) ∷ Then (Does (Consumer n t) (OfConsumer TakeFlow)) ∷ older))
    ≡ Some (Does (Consumer n t) (Ask l (words.SendFlow n p))))

-- No flow that is asked for is refused: the subscription is live there, and its link ready. It is queued at once where there is room, and else it
-- stands at the end of the line.
abbrev pub place_on : Connection → Placed
place_on s = if has_room s then placed.Queued s.waits.queued else placed.Waiting (s.waits.queued + length s.line)

abbrev pub FlowsArePlaced : Type 0
FlowsArePlaced = (o : Options) (log : List Entry) (n t l m p : ℕ) → IsRun o (Then (Does (Consumer n t) (Ask l (words.SendFlow m p))) ∷ log) →
    (seat : Seat) × ((view o log).links.live l ≡ Some seat)
    × (answer_at (view o log).now (words.SendFlow m p) (Some seat) ≡ Ok (place_on seat.seen))

-- a flow that was asked for: the place of its frame on the link, where it has one, and its permits
pub record Flow : Type 0 where
  pub place : Option ℕ
  pub permits : ℕ

-- those that the plan of a consumer has asked for since its subscription was made, newest first: with another one they begin anew
abbrev pub flows_after : View → (ticket : ℕ) → Act → List Flow → List Flow
flows_after v t (Does who (OfConsumer (Revive l))) fs = if t == ticket_of who && is_some (v.links.live l) then [] else fs
flows_after v t (Does (Consumer n u) (Ask l (words.SendFlow m p))) fs =
    if t == u then record { place = place_of (answer_at v.now (words.SendFlow m p) (v.links.live l)); permits = p } ∷ fs else fs
flows_after v t a fs = fs

abbrev pub flows_since : Options → (ticket : ℕ) → List Entry → List Flow
flows_since o t [] = []
flows_since o t (Begins e ∷ log) = flows_since o t log
flows_since o t (Then a ∷ log) = flows_after (view o log) t a (flows_since o t log)

-- their permits, and the permits of those whose place is so: a frame is queued once its link has queued more frames than its place says, and until
-- then it stands in the line
abbrev pub is_so : (ℕ → Bool) → Option ℕ → Bool
is_so test None = false
is_so test (Some place) = test place

abbrev pub permits_of : List Flow → ℕ
permits_of fs = sum_by (λ f. f.permits) fs

abbrev pub permits_where : (ℕ → Bool) → List Flow → ℕ
permits_where test fs = sum_by (λ f. if is_so test f.place then f.permits else 0) fs

abbrev pub was_queued : Connection → (place : ℕ) → Bool
was_queued s place = nat_lt place s.waits.queued

abbrev pub stands : Connection → (place : ℕ) → Bool
stands s place = list_any (λ p. p == place) (line_places s)

-- Of the flows that were asked for since the live subscription was made, each is queued or stands in the line of its link. So the sum of those that are
-- queued is at most that of those that were asked for, and it is the same where none stands in the line.
abbrev pub FlowsAreQueued : Type 0
FlowsAreQueued = (o : Options) (log : List Entry) (t l : ℕ) (m : Member) → IsRun o log → (view o log).consumers.rows t ≡ Some m → link_of m.seen ≡ Some l →
    (seat : Seat) × ((view o log).links.live l ≡ Some seat)
    × (permits_of (flows_since o t log)
    ≡ permits_where (was_queued seat.seen) (flows_since o t log) + permits_where (stands seat.seen) (flows_since o t log))

-- They are no more than those that were taken since then, which PermitsAreKept counts, and just those at the end of each step. So what remains is then the
-- sum of the flows that are queued, of those in the line and of those that are due, less what was begun.
abbrev pub FlowsAreCounted : Type 0
FlowsAreCounted = (o : Options) (log : List Entry) (t l : ℕ) (m : Member) (s : Setup) → IsRun o log → (view o log).consumers.rows t ≡ Some m →
    link_of m.seen ≡ Some l → made_with o t log ≡ Some s →
    (permits_of (flows_since o t log) ≤ asked_since s (done_to o t log))
    × (Rests o log → permits_of (flows_since o t log) ≡ asked_since s (done_to o t log))

-- At the end of a step no flow is due at a consumer: each one that fell due was taken and asked for (FlowsAreAsked).
abbrev pub NoFlowIsDue : Type 0
NoFlowIsDue = (o : Options) (log : List Entry) (t : ℕ) (m : Member) (l : Live) → IsRun o log → Rests o log → (view o log).consumers.rows t ≡ Some m →
    m.seen.engine.live ≡ Some l → l.due ≡ []

-- So what remains of its permits is then the sum of the flows that were asked for since its subscription was made, less what the frames weigh that were
-- begun since then. It is at most the batch size; and where each arrival is finished, half of the batch size, rounded up, and all that was spent
-- is at most all that was granted.
abbrev pub PermitsAreGranted : Type 0
PermitsAreGranted = (o : Options) (log : List Entry) (t : ℕ) (m : Member) (l : Live) → IsRun o log → Rests o log → (view o log).consumers.rows t ≡ Some m →
    m.seen.is_raw ≡ false → m.seen.engine.live ≡ Some l →
    (s : Setup) × (made_with o t log ≡ Some s)
    × (permits_of (flows_since o t log) + weighed_before s (done_to o t log) ≤ batch_size m.seen.config + weights (begun s (done_to o t log)))
    × (ArePlaced s (done_to o t log) → half (batch_size m.seen.config) + weights (begun s (done_to o t log))
    ≤ permits_of (flows_since o t log) + weighed_before s (done_to o t log))

-- Half of a batch size, rounded up, is just that: twice as much is the batch size, or one more.
abbrev pub HalfIsHalf : Type 0
HalfIsHalf = (batch : ℕ) → (batch ≤ half batch + half batch) × (half batch + half batch ≤ batch + 1)

-- ACKNOWLEDGEMENTS

abbrev pub is_ack : Words → Bool
is_ack words.SendPing = false
is_ack words.SendPong = false
is_ack (words.AuthChallenge auth) = false
is_ack (words.LookupTopic topic authoritative) = false
is_ack (words.LookupPartitionedTopic topic) = false
is_ack (words.GetTopicsOfNamespace namespace mode) = false
is_ack (words.GetSchema topic version) = false
is_ack (words.CreateProducer topic producer name options) = false
is_ack (words.Send producer name sequence message block) = false
is_ack (words.CloseProducer producer) = false
is_ack (words.Subscribe topic subscription sub_type consumer name options) = false
is_ack (words.SendFlow consumer permits) = false
is_ack (words.SendAck consumer ids cumulative) = true
is_ack (words.SendRedeliver consumer ids) = false
is_ack (words.Seek consumer id time) = false
is_ack (words.GetLastMessageId consumer) = false
is_ack (words.GetConsumerStats consumer) = false
is_ack (words.Unsubscribe consumer) = false
is_ack (words.CloseConsumer consumer) = false
is_ack (words.CloseConsumerUnawaited consumer) = false

-- a call of the user asks for it: to acknowledge a message of a consumer, by its number and on the link of its live subscription; or for just this
-- frame on this link
abbrev pub Licenses : View → Asked → (link : ℕ) → Words → Type 0
Licenses v (content.Ack t name id cumulative) l r =
    (m : Member) × (v.consumers.rows t ≡ Some m) × (link_of m.seen ≡ Some l) × (r ≡ words.SendAck m.seen.number (id ∷ []) cumulative)
Licenses v (content.Raw k request) l r = (l ≡ k) × (r ≡ request)
Licenses v content.Build l r = ⊥
Licenses v content.Stop l r = ⊥
Licenses v (content.Topics namespace mode) l r = ⊥
Licenses v (content.Lookup topic) l r = ⊥
Licenses v (content.Partitions topic) l r = ⊥
Licenses v (content.Brokers topic) l r = ⊥
Licenses v (content.Producer wanted) l r = ⊥
Licenses v (content.Send t m) l r = ⊥
Licenses v (content.SendAll t ms) l r = ⊥
Licenses v (content.Flush t) l r = ⊥
Licenses v (content.CheckProducer t) l r = ⊥
Licenses v (content.CloseProducer t) l r = ⊥
Licenses v (content.Consumer wanted) l r = ⊥
Licenses v (content.Nack t name id) l r = ⊥
Licenses v (content.CloseConsumer t) l r = ⊥

-- Each frame that acknowledges is asked for as the first of a call, in the step in which the user makes that call, which asks for just this; and for
-- each call at most one is asked for. So none is asked for that the user did not ask for, and none twice for one call.
abbrev pub LicensedBy : Options → (ticket link : ℕ) → Words → Entry → List Entry → Type 0
LicensedBy o t l r e older =
    (asked : Asked) × (e ≡ Then (Comes (call_part o.policies (view o older) asked))) × (t ≡ (view o older).calls.drawn) × Licenses (view o older) asked l r

abbrev pub AcksAreLicensed : Type 0
AcksAreLicensed = (o : Options) (log : List Entry) (who : Who) (l : ℕ) (r : Words) → IsRun o (Then (Does who (Ask l r)) ∷ log) → is_ack r ≡ true →
    (t : ℕ) × (p : Procedure) × (older : List Entry) × (who ≡ Call t) × (log ≡ Then (Starts who p) ∷ older) × InThisStep (LicensedBy o t l r) older

abbrev pub ack_of : (ticket : ℕ) → Act → ℕ
ack_of t (Does who (Ask l r)) = if is_same (Call t) who && is_ack r then 1 else 0
ack_of t _ = 0

abbrev pub AcksOnce : Type 0
AcksOnce = (o : Options) (log : List Entry) (t : ℕ) → IsRun o log → counted (ack_of t) log ≤ 1
