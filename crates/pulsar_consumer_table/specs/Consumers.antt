-- The consumers of a client: what is seen of them, and what becomes of that.  (Pulsar binary protocol, Consumer)
use Rattle.std.specs.Prelude.{ℕ, zero, suc, ◌-◌, ◌^◌, ◌==◌, ◌≡◌, ◌&&◌, ◌||◌, not, Bool, true, false, if◌then◌else◌, List, [], ◌∷◌, ◌++◌, Option, Some, None}
use Rattle.std.specs.BTreeMap.{insert_entry, is_at}
use Rattle.std.specs.BTreeSet.{insert_key}
use Rattle.std.specs.List.{flat_map, list_any}
use Rattle.std.specs.Map.{remove_entry}
use Rattle.std.specs.Option.{option_map, option_to_list}
use Rattle.std.specs.Ordering.{nat_cmp}
use Rattle.url.specs.Parts.{Parts}
use Rattle.pulsar_wire.specs.Failures.{Failure, Fault}
use Rattle.pulsar_messages.specs.Claims.{is_spent}
use Rattle.pulsar_run.specs.Things.{row_by}
use Rattle.pulsar_frame.specs.Items.{Item, Given, Faulty}
use Rattle.pulsar_exchange.specs.Messages.{Reply, is_body}
use Rattle.pulsar_exchange.specs.Request.{named_consumer}
use Rattle.pulsar_searches.specs.declared.making.Command.{Command}
use Rattle.pulsar_consumer.specs.Commands.{command_of}
use Rattle.pulsar_consumer.specs.Frames.{frame_in}
use Rattle.pulsar_consumer.specs.Topic as topic
use Rattle.pulsar_consumer.specs.Topic.{Act, Seen, Setup, Live, Lives, Hears, Loses, Fails, Ends, first_due, fresh, is_due as is_flow_due, is_ended, link_of, lives_on, resubscribes}
use Rattle.pulsar_incoming.specs.Content.{ConfigValues}
use Rattle.pulsar_incoming.specs.declared.polled.Ending.{Ending}
use Rattle.pulsar_incoming.specs.declared.polled.Ending.TheVariants.{Closed, TopicEnded, Stopped}
use Rattle.pulsar_incoming.specs.declared.polled.Polled.{Polled}
use Rattle.pulsar_incoming.specs.declared.polled.Polled.TheVariants as poll
use Rattle.pulsar_calls.specs.declared.act.Arrival.{Arrival}
use Rattle.pulsar_calls.specs.declared.act.Arrival.TheVariants.{Nothing, Readied, Settles, Gives, Passes, Bad}
use Rattle.pulsar_calls.specs.declared.act.CallRefusal.{CallRefusal}
use Rattle.pulsar_calls.specs.declared.act.CallRefusal.TheVariants as refusal
use Rattle.pulsar_calls.specs.declared.act.Who.{Who}
use Rattle.pulsar_calls.specs.declared.act.Who.TheVariants as who
use Rattle.pulsar_calls.specs.declared.act.Word.{Word}
use Rattle.pulsar_calls.specs.declared.act.Word.TheVariants as word
use Rattle.pulsar_consumer_table.specs.declared.numbers.Numbering.{Numbering}
use Rattle.pulsar_consumer_table.specs.declared.numbers.Numbering.TheVariants.{Has, InUse, Spent}
use Rattle.pulsar_consumer_table.specs.declared.row.LinkAnswer.{LinkAnswer}
use Rattle.pulsar_consumer_table.specs.declared.row.LinkAnswer.TheVariants.{Found, Gone, Later}
use Rattle.pulsar_calls.specs.Content as content
use Rattle.pulsar_calls.specs.Content.{Asked, Shown, Hands, Faults, FindsNothing, FindsEnd}

-- A consumer: what is seen of it, and those who wait until it is subscribed again.
pub record Member : Type 0 where
  pub seen : Seen
  pub seekers : List Who

-- The consumers, by the tickets of the calls that made them, and these tickets in order; the numbers that are held while consumers are built,
-- each behind the ticket of its call; the numbers that raw calls have named, in order; the number from which on the next one is drawn; and the
-- key of the one that is built next.
pub record Consumers : Type 0 where
  pub rows : (ticket : ℕ) → Option Member
  pub tickets : List ℕ
  pub held : List (ℕ × ℕ)
  pub named : List ℕ
  pub next : ℕ
  pub next_key : ℕ

-- at first
abbrev pub none : (first_number : ℕ) → Consumers
none first_number = record { rows = λ t. None; tickets = []; held = []; named = []; next = first_number; next_key = 1 }

-- ALL OF THEM

-- one of them is so
abbrev pub some_row : (Option Member → Bool) → Consumers → Bool
some_row test cs = list_any (λ t. test (cs.rows t)) cs.tickets

-- what each gives, in the order of their tickets
abbrev pub at_row : {A : Type 0} → (ℕ → Member → List A) → (ℕ → Option Member) → ℕ → List A
at_row f rows t = flat_map (f t) (option_to_list (rows t))

abbrev pub over_rows : {A : Type 0} → (ℕ → Member → List A) → Consumers → List A
over_rows f cs = flat_map (at_row f cs.rows) cs.tickets

-- WHAT IS DONE TO ONE

abbrev pub member_after : Act → Member → Member
member_after act m = record m { seen = topic.after act m.seen }

-- the link of its live subscription, its number, and who it is where it has a plan
abbrev pub link_at : Option Member → Option ℕ
link_at None = None
link_at (Some m) = link_of m.seen

abbrev pub number_at : Option Member → ℕ
number_at None = 0
number_at (Some m) = m.seen.number

abbrev pub who_of : (ticket : ℕ) → Member → Who
who_of t m = who.Consumer m.seen.number t

-- what is seen of it where it was built, by no raw call
abbrev pub built_at : Option Member → Option Seen
built_at None = None
built_at (Some m) = if m.seen.is_raw then None else Some m.seen

-- WHAT IT HEARS: of the frames for its number on the link of its live subscription, messages, the end of its topic, and the close of the
-- broker

abbrev pub ends_on : (link : ℕ) → Ending → Member → Member
ends_on l why m = if lives_on l m.seen then member_after (Ends why) m else m

abbrev pub hears_frame : (link : ℕ) → Reply → Member → Member
hears_frame l r m =
    if is_body 9 r.content.body then member_after (Hears l (frame_in r)) m
    else if is_body 27 r.content.body then ends_on l TopicEnded m
    else if is_body 16 r.content.body then member_after (Loses l) m
    else m

abbrev pub hears : (link : ℕ) → Arrival → Member → Member
hears l Nothing m = m
hears l Readied m = m
hears l Settles m = m
hears l (Gives number reply) m = if m.seen.number == number then hears_frame l reply m else m
hears l Passes m = m
hears l (Bad cause) m = m

-- what its plan is told then: that a flow is due, that its topic has ended, or that its subscription is lost
abbrev pub word_if : Bool → Word → Option Word
word_if is_so w = if is_so then Some w else None

abbrev pub word_of_frame : (link : ℕ) → Reply → Member → Option Word
word_of_frame l r m =
    if is_body 9 r.content.body then word_if (lives_on l m.seen && is_flow_due (hears_frame l r m).seen) word.Due
    else if is_body 27 r.content.body then word_if (resubscribes l m.seen) (word.TopicEnded l)
    else if is_body 16 r.content.body then word_if (resubscribes l m.seen) word.Lost
    else None

abbrev pub word_of : (link : ℕ) → Arrival → Member → Option Word
word_of l Nothing m = None
word_of l Readied m = None
word_of l Settles m = None
word_of l (Gives number reply) m = if m.seen.number == number then word_of_frame l reply m else None
word_of l Passes m = None
word_of l (Bad cause) m = None

-- ITS LINK ENDS: it is to be subscribed again

abbrev pub loses_by : (link : ℕ) → Option Fault → Member → Member
loses_by l None m = m
loses_by l (Some cause) m = member_after (Loses l) m

abbrev pub word_of_loss : (link : ℕ) → Option Fault → Member → Option Word
word_of_loss l None m = None
word_of_loss l (Some cause) m = word_if (resubscribes l m.seen) word.Lost

-- IT IS CLOSED where its close is asked for on its link, whether that is queued or stands in the line

abbrev pub lives_with : (number link : ℕ) → Option Member → Bool
lives_with n l None = false
lives_with n l (Some m) = (m.seen.number == n) && lives_on l m.seen

abbrev pub is_closed_by : (closed : Option ℕ) → (link : ℕ) → Member → Bool
is_closed_by None l m = false
is_closed_by (Some number) l m = lives_with number l (Some m)

abbrev pub closes : (closed : Option ℕ) → (link : ℕ) → (is_asked : Bool) → Member → Member
closes closed l is_asked m = if is_asked && is_closed_by closed l m then member_after (Ends Closed) m else m

abbrev pub word_of_close : (closed : Option ℕ) → (link : ℕ) → (is_asked : Bool) → Member → Option Word
word_of_close closed l is_asked m = word_if (is_asked && (is_closed_by closed l m && not m.seen.is_raw)) word.Over

-- it lives on a link, and that is heard there
abbrev pub lives_at : (link : ℕ) → Option Member → Bool
lives_at l None = false
lives_at l (Some m) = lives_on l m.seen

abbrev pub IsHeard : (link : ℕ) → (ℕ → Option Member) → Type 0
IsHeard l rows = (t : ℕ) × (lives_at l (rows t) ≡ true)

abbrev pub is_heard : Consumers → (link : ℕ) → Bool
is_heard cs l = some_row (lives_at l) cs

-- THOSE WHO WANT ITS LINK: they get that of its live subscription, or wait; there is none once it has ended

abbrev pub sought_for : (is_ended : Bool) → (link : Option ℕ) → LinkAnswer
sought_for is_ended (Some l) = Found l
sought_for true None = Gone
sought_for false None = Later

abbrev pub sought : Option Member → LinkAnswer
sought None = Gone
sought (Some m) = sought_for (is_ended m.seen) (link_of m.seen)

abbrev pub waits_so : LinkAnswer → Who → Member → Member
waits_so (Found l) w m = m
waits_so Gone w m = m
waits_so Later w m = record m { seekers = m.seekers ++ w ∷ [] }

abbrev pub seeks : Who → Member → Member
seeks w m = waits_so (sought (Some m)) w m

-- they wait no longer
abbrev pub seekers_at : Option Member → List Who
seekers_at None = []
seekers_at (Some m) = m.seekers

abbrev pub unsought : Member → Member
unsought m = record m { seekers = [] }

-- ITS PLAN

-- the flow that is to be asked for next, with its link
abbrev pub flow_on : Option Live → Option (ℕ × ℕ)
flow_on None = None
flow_on (Some l) = option_map (λ permits. (l.link, permits)) (first_due (Some l))

abbrev pub flow_at : Option Member → Option (ℕ × ℕ)
flow_at None = None
flow_at (Some m) = flow_on m.seen.engine.live

-- the command by which it is subscribed again
abbrev pub recalled : Option Member → Option Command
recalled row = option_map (λ m. command_of m.seen) row

-- a subscription of it was made on a link to this address, or could not be made: those who wait for its link look again
abbrev pub subscribed_on : (link : ℕ) → Option Parts → Member → Member
subscribed_on l None m = m
subscribed_on l (Some url) m = member_after (Lives l url) m

abbrev pub revived : (link : ℕ) → Option Parts → Member → Member
revived l url m = unsought (subscribed_on l url m)

abbrev pub failed : Failure → Member → Member
failed f m = unsought (member_after (Fails f) m)

abbrev pub is_ended_at : Option Member → Bool
is_ended_at None = true
is_ended_at (Some m) = is_ended m.seen

-- the client is stopped
abbrev pub stopped : Member → Member
stopped m = unsought (member_after (Ends Stopped) m)

-- ALL THAT IS DONE TO ONE

pub data Deed : Type 0 where
  -- this comes on a link
  Arrives : (link : ℕ) → Arrival → Deed
  -- a link ends, with this cause
  LinkEnds : (link : ℕ) → (cause : Option Fault) → Deed
  -- the close of a number is asked for on a link, and taken there
  CloseAsked : (closed : Option ℕ) → (link : ℕ) → (is_asked : Bool) → Deed
  -- it is polled at this moment
  IsPolled : (clock : ℕ) → Deed
  -- this one wants its link
  IsSought : Who → Deed
  -- the flow that is due is taken
  FlowTaken : Deed
  -- it was subscribed again, on a link to this address, or could not be
  Revived : (link : ℕ) → Option Parts → Deed
  NotRevived : Failure → Deed
  -- the client is stopped
  ClientStops : Deed

abbrev pub member_by : Deed → Member → Member
member_by (Arrives l a) m = hears l a m
member_by (LinkEnds l cause) m = loses_by l cause m
member_by (CloseAsked closed l is_asked) m = closes closed l is_asked m
member_by (IsPolled clock) m = member_after (topic.Polls clock) m
member_by (IsSought who) m = seeks who m
member_by FlowTaken m = member_after topic.Asks m
member_by (Revived l url) m = revived l url m
member_by (NotRevived f) m = failed f m
member_by ClientStops m = stopped m

-- POLLS

abbrev pub polled_item : (ticket : ℕ) (topic : List ℕ) → Item → Shown
polled_item t name (Given id size metadata payload) = Hands t name id size metadata payload
polled_item t name (Faulty f) = Faults t f

abbrev pub polled_so : (ticket : ℕ) (topic : List ℕ) → Polled → Shown
polled_so t name (poll.Item item) = polled_item t name item
polled_so t name poll.Empty = FindsNothing t
polled_so t name poll.End = FindsEnd t

abbrev pub polled : (ticket : ℕ) → Member → Shown
polled t m = polled_so t m.seen.topic (topic.polled m.seen)

-- THEIR NUMBERS. A number is in use from the place where a build gets it, or where a raw consumer is made, until the consumer has ended.

abbrev pub has_number : (number : ℕ) → Option Member → Bool
has_number n None = false
has_number n (Some m) = not (is_ended m.seen) && (m.seen.number == n)

abbrev pub is_held : (number : ℕ) → List (ℕ × ℕ) → Bool
is_held n held = list_any (λ e. e.1 == n) held

abbrev pub is_in_use : Consumers → (number : ℕ) → Bool
is_in_use cs n = some_row (has_number n) cs || is_held n cs.held

-- a raw call leaves the numbers of consumers alone that are built
abbrev pub has_built : (number : ℕ) → Option Member → Bool
has_built n None = false
has_built n (Some m) = not m.seen.is_raw && has_number n (Some m)

abbrev pub is_taken : Consumers → Option ℕ → Bool
is_taken cs None = false
is_taken cs (Some number) = some_row (has_built number) cs

-- the first number, from one on, that is neither in use nor was named by a raw call; the greatest is never drawn
abbrev pub is_passed : Consumers → (number : ℕ) → Bool
is_passed cs n = is_in_use cs n || list_any (λ k. k == n) cs.named

abbrev pub free_from : (most : ℕ) → (ℕ → Bool) → ℕ → ℕ
free_from zero is_passed n = n
free_from (suc k) is_passed n = if is_passed n then free_from k is_passed (suc n) else n

abbrev pub next_free : Consumers → ℕ
next_free cs = free_from (2 ^ 64 - 1 - cs.next) (is_passed cs) cs.next

-- what one who builds a consumer gets: the number that was asked for, unless it is in use, or one that is drawn, unless they are spent
abbrev pub asked_number : Consumers → (number : ℕ) → Numbering
asked_number cs n = if is_in_use cs n then InUse else Has n

abbrev pub drawn_number : (free : ℕ) → Numbering
drawn_number n = if is_spent n then Spent else Has n

abbrev pub numbering : Consumers → (wanted : Option ℕ) → Numbering
numbering cs None = drawn_number (next_free cs)
numbering cs (Some n) = asked_number cs n

-- it holds that
abbrev pub holds : (ticket : ℕ) → Numbering → Consumers → Consumers
holds t (Has n) cs = record cs { held = insert_entry nat_cmp cs.held t n }
holds t InUse cs = cs
holds t Spent cs = cs

-- the next number is behind one that is drawn
abbrev pub behind : ℕ → ℕ
behind n = if is_spent n then n else suc n

abbrev pub drew : (free : ℕ) → (wanted : Option ℕ) → Consumers → Consumers
drew free None cs = record cs { next = behind free }
drew free (Some n) cs = cs

abbrev pub numbered : (ticket : ℕ) → (wanted : Option ℕ) → Consumers → Consumers
numbered t wanted cs = drew (next_free cs) wanted (holds t (numbering cs wanted) cs)

-- a call that has ended holds no number
abbrev pub freed : (ticket : ℕ) → Consumers → Consumers
freed t cs = record cs { held = remove_entry (is_at (nat_cmp t)) cs.held }

-- a raw call names a number
abbrev pub names_in : Option ℕ → Consumers → Consumers
names_in None cs = cs
names_in (Some number) cs = record cs { named = insert_key nat_cmp cs.named number }

-- CONSUMERS ARE MADE

-- The key of one that is built is drawn: no other ever has it, and a raw one has none.
abbrev pub keyed : Consumers → Consumers
keyed cs = record cs { next_key = suc cs.next_key }

-- no dead letters are asked for, and no message is asked for again
abbrev pub plain : ConfigValues → ConfigValues
plain c = record c { unacked_message_redelivery_delay = None; dead_letter_policy = None }

abbrev pub member_of : Setup → (link : ℕ) → Option Parts → Member
member_of s l url = subscribed_on l url (record { seen = fresh s; seekers = [] })

-- its ticket is that of its call
abbrev pub listed : (ticket : ℕ) → Consumers → Consumers
listed t cs = record cs { tickets = insert_key nat_cmp cs.tickets t }

abbrev pub joined : (ticket : ℕ) → Member → Consumers → Consumers
joined t m cs = record (listed t cs) { rows = λ u. if u == t then Some m else cs.rows u }

-- one of them is changed, and each
abbrev pub changed : (ticket : ℕ) → (Member → Member) → Consumers → Consumers
changed t f cs = record cs { rows = λ u. if u == t then option_map f (cs.rows u) else cs.rows u }

abbrev pub all_changed : (Member → Member) → Consumers → Consumers
all_changed f cs = record cs { rows = λ u. option_map f (cs.rows u) }

-- and by several deeds, the newest first
abbrev pub done_to : (ticket : ℕ) → List Deed → Consumers → Consumers
done_to t acts cs = record cs { rows = λ u. row_by member_by (if u == t then acts else []) (cs.rows u) }

-- CALLS

-- why there is no consumer for a call: no consumer was built by a call of this ticket, or it has ended
abbrev pub refusal_for : (is_raw is_ended : Bool) → Option CallRefusal
refusal_for true is_ended = Some refusal.UnknownTicket
refusal_for false true = Some refusal.ConsumerClosed
refusal_for false false = None

abbrev pub why_not_at : Option Member → Option CallRefusal
why_not_at None = Some refusal.UnknownTicket
why_not_at (Some m) = refusal_for m.seen.is_raw (is_ended m.seen)

abbrev pub why_not : Consumers → (ticket : ℕ) → Option CallRefusal
why_not cs t = why_not_at (cs.rows t)

-- a raw call of an open client names a number, or none
abbrev pub opened_on : Asked → Consumers → Consumers
opened_on content.Build cs = cs
opened_on content.Stop cs = cs
opened_on (content.Topics namespace mode) cs = cs
opened_on (content.Lookup topic) cs = cs
opened_on (content.Partitions topic) cs = cs
opened_on (content.Brokers topic) cs = cs
opened_on (content.Producer wanted) cs = cs
opened_on (content.Send t m) cs = cs
opened_on (content.SendAll t ms) cs = cs
opened_on (content.Flush t) cs = cs
opened_on (content.CheckProducer t) cs = cs
opened_on (content.CloseProducer t) cs = cs
opened_on (content.Consumer wanted) cs = cs
opened_on (content.Ack t name id cumulative) cs = cs
opened_on (content.Nack t name id) cs = cs
opened_on (content.CloseConsumer t) cs = cs
opened_on (content.Raw l words) cs = names_in (named_consumer words) cs

abbrev pub called_on : (is_open : Bool) → Asked → Consumers → Consumers
called_on is_open asked cs = if is_open then opened_on asked cs else cs
