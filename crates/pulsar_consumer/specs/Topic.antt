-- A consumer of one topic: what is done to it, what is seen of it, and what it answers. It knows links and numbers, and never who asks.
-- (Pulsar binary protocol, Consumer: Flow control; PulsarApi.proto, CommandFlow)
use Rattle.std.specs.Prelude.{ℕ, ◌+◌, ◌-◌, ◌/◌, nat_lt, Bool, true, false, not, ◌&&◌, ◌||◌, ◌==◌, if◌then◌else◌, List, [], ◌∷◌, ◌++◌, length, take, drop, Option, Some, None, unwrap_or}
use Rattle.std.specs.Option.{is_some, option_map, option_or}
use Rattle.url.specs.Parts.{Parts}
use Rattle.pulsar_wire.specs.Sink.{capped}
use Rattle.pulsar_consumer.specs.Items.{Item, handed, is_message}
use Rattle.pulsar_exchange.specs.Request.{Subscribed}
use Rattle.pulsar_messages.specs.Content.{ProducerMessageValues}
use Rattle.pulsar_wire.specs.Failures.{Failure}
use Rattle.pulsar_incoming.specs.Content.{ConfigValues}
use Rattle.pulsar_consumer.specs.DeadLetters.{Letter, copy_of, lost_letter}
use Rattle.pulsar_consumer.specs.Frames.{Frame, failed, frame_by}
use Rattle.pulsar_consumer.specs.Redelivery.{Id, Kept, due_at, due_before, first_check, forget, forget_all, forget_one, keep_all, next_check}
use Rattle.pulsar_incoming.specs.declared.polled.Ending.{Ending}
use Rattle.pulsar_incoming.specs.declared.polled.Ending.TheVariants.{LinkLost, NotSubscribed}
use Rattle.pulsar_incoming.specs.declared.polled.Polled.{Polled}
use Rattle.pulsar_incoming.specs.declared.polled.Polled.TheVariants as poll

-- PERMITS

-- A subscription that is live: its link, the permits that were left when the frame that is begun was begun, what that frame costs, and
-- the flows that are to be asked for.
pub record Live : Type 0 where
  pub link : ℕ
  pub url : Parts
  pub level : ℕ
  pub weight : ℕ
  pub due : List ℕ

-- how many messages the broker may send at once, and less than how many left make it be told so again
abbrev pub batch_size : ConfigValues → ℕ
batch_size c = unwrap_or c.batch_size 1000

abbrev pub half : ℕ → ℕ
half batch = batch - batch / 2

-- a new subscription asks for a flow of the batch size, where permits are granted
abbrev pub subscribed : (batch : Option ℕ) (link : ℕ) → Parts → Live
subscribed None link url = record { link = link; url = url; level = 0; weight = 0; due = [] }
subscribed (Some batch) link url = record { link = link; url = url; level = batch; weight = 0; due = batch ∷ [] }

-- a frame that is begun costs its weight
abbrev pub begins : (weight : ℕ) → Live → Live
begins w l = record l { weight = w }

-- Once it is finished, a flow brings the permits up to the batch size again where less than half of them are left.
abbrev pub finishes_by : (batch : ℕ) → Live → Live
finishes_by batch l =
    if nat_lt l.level (half batch + l.weight) then record l { level = batch; weight = 0; due = l.due ++ (batch + l.weight - l.level) ∷ [] }
    else record l { level = l.level - l.weight; weight = 0 }

abbrev pub finishes : (batch : Option ℕ) → Live → Live
finishes None l = l
finishes (Some batch) l = finishes_by batch l

-- ITEMS AND FRAMES

-- How many items may be unread, and how many messages the broker may send where that is granted at all; after which delay a message that was
-- not acknowledged is to be given again, and the moment at which items are placed; the live subscription; the items that were placed and not
-- given; those of the frame that is begun which are not placed; its entries that are still to be copied to another topic, and the one whose
-- copy is under way; the frames that are not begun; the ids that are kept, and when the next check of them is due; and whether the client was
-- stopped, so that no copy is made.
pub record Engine : Type 0 where
  pub queue : ℕ
  pub batch : Option ℕ
  pub delay : Option ℕ
  pub clock : ℕ
  pub live : Option Live
  pub unread : List Item
  pub rest : List Item
  pub letters : List Letter
  pub copying : Option Id
  pub waiting : List Frame
  pub kept : Kept
  pub check : Option ℕ
  pub stopped : Bool

-- the frame that is begun places items while fewer than the queue size are unread, and their ids are kept
abbrev pub placing : Engine → List Item
placing e = take (e.queue - length e.unread) e.rest

abbrev pub places : Engine → Engine
places e =
    record e {
      unread = e.unread ++ placing e;
      rest = drop (e.queue - length e.unread) e.rest;
      kept = keep_all (due_at e.delay e.clock) (placing e) e.kept;
    }

abbrev pub finish : Engine → Engine
finish e = record e { live = option_map (finishes e.batch) e.live }

abbrev pub no_items : List Item → Bool
no_items [] = true
no_items (item ∷ items) = false

abbrev pub no_letters : List Letter → Bool
no_letters [] = true
no_letters (l ∷ ls) = false

-- A dead letter whose copies are not made gives one error for all its entries.
abbrev pub error_for : List Letter → List Item
error_for [] = []
error_for (l ∷ ls) = lost_letter ∷ []

abbrev pub opens : List Item → List Letter → Engine → Engine
opens items ls e =
    record e {
      rest = items ++ (if e.stopped then error_for ls else []);
      letters = if e.stopped then [] else ls;
    }

abbrev pub begin : Frame → Engine → Engine
begin f e = places (opens f.items f.letters (record e { live = option_map (begins f.weight) e.live }))

-- an entry of it is to be copied, or its copy is under way
abbrev pub is_pending : Engine → Bool
is_pending e = is_some e.copying || not (no_letters e.letters)

-- A frame is finished once each of its items is placed and none of its entries is pending, and then the next is begun.
abbrev pub is_finished : Engine → Bool
is_finished e = no_items e.rest && not (is_pending e)

abbrev pub goes_on : List Frame → Engine → Engine
goes_on [] e = if is_finished e then finish e else e
goes_on (f ∷ fs) e = if is_finished e then goes_on fs (begin f (record (finish e) { waiting = fs })) else e

-- as far as there is room
abbrev pub advances : Engine → Engine
advances e = goes_on e.waiting (places e)

-- one more frame
abbrev pub hears : Frame → Engine → Engine
hears f e = advances (record e { waiting = e.waiting ++ f ∷ [] })

-- the first item is given
abbrev pub first_of : List Item → Option Item
first_of [] = None
first_of (item ∷ items) = Some item

abbrev pub gives_from : List Item → Engine → Engine
gives_from [] e = e
gives_from (item ∷ items) e = advances (record e { unread = items })

abbrev pub gives : Engine → Engine
gives e = gives_from e.unread e

-- COPIES OF DEAD LETTERS: one at a time

-- the entry that is to be copied now
abbrev pub first_letter : List Letter → Option Letter
first_letter [] = None
first_letter (l ∷ ls) = Some l

abbrev pub to_copy : Engine → Option Letter
to_copy e = if is_some e.copying then None else first_letter e.letters

-- it is taken: its copy is under way
abbrev pub takes_copy_from : List Letter → Engine → Engine
takes_copy_from [] e = e
takes_copy_from (l ∷ ls) e = record e { letters = ls; copying = Some l.0 }

abbrev pub takes_copy : Engine → Engine
takes_copy e = if is_some e.copying then e else takes_copy_from e.letters e

-- Its copy has its receipt: the entry is left out. Where a subscription is live it is acknowledged, and so it is not asked for again. Or its
-- copy could not be sent: one error is given, and the rest of its frame is left out.
abbrev pub only_if : Bool → Option Id → Option Id
only_if true id = id
only_if false id = None

abbrev pub acked_by : Engine → Option Id
acked_by e = only_if (is_some e.live) e.copying

abbrev pub copied : Engine → Engine
copied e = if is_some e.copying then advances (record e { copying = None; kept = forget_one (acked_by e) e.kept }) else e

abbrev pub gives_up : Engine → Engine
gives_up e = advances (record e { rest = e.rest ++ lost_letter ∷ []; letters = []; copying = None })

abbrev pub copy_failed : Engine → Engine
copy_failed e = if is_some e.copying then gives_up e else e

-- the client is stopped: what is pending fails, and no copy is made any more
abbrev pub stops : Engine → Engine
stops e = if is_pending e then gives_up (record e { stopped = true }) else record e { stopped = true }

-- a subscription is live, and from the first on there are checks
abbrev pub lives : (link : ℕ) → Parts → Engine → Engine
lives link url e = record e { live = Some (subscribed e.batch link url); check = option_or e.check (first_check e.delay e.clock) }

-- it is lost; or there will be none, so that nothing is asked for again
abbrev pub cut_off : Engine → Engine
cut_off e = record e { live = None }

abbrev pub shut : Engine → Engine
shut e = record e { live = None; delay = None; kept = []; check = None }

-- the ids that are due are named where a subscription is live, and forgotten
abbrev pub names_due : (clock : ℕ) → Engine → Engine
names_due clock e = if is_some e.live then record e { kept = forget_all (due_before clock e.kept) e.kept } else e

abbrev pub checks : (clock : ℕ) → Engine → Engine
checks clock e = record (names_due clock e) { check = next_check clock e.check }

-- the moment at which items are placed from now on
abbrev pub clocked : (clock : ℕ) → Engine → Engine
clocked clock e = record e { clock = clock }

-- the flow that is to be asked for next, and those behind it
abbrev pub first_in : List ℕ → Option ℕ
first_in [] = None
first_in (n ∷ ns) = Some n

abbrev pub behind : List ℕ → List ℕ
behind [] = []
behind (n ∷ ns) = ns

abbrev pub first_due : Option Live → Option ℕ
first_due None = None
first_due (Some l) = first_in l.due

abbrev pub asked : Live → Live
asked l = record l { due = behind l.due }

-- WHAT IS DONE TO IT: an act for each call that changes it

pub data Act : Type 0 where
  -- a subscription of it was made, on this link
  Lives : (link : ℕ) (url : Parts) → Act
  -- a message for it came on this link
  Hears : (link : ℕ) (frame : Frame) → Act
  -- its subscription on this link ends: the link has ended, or the broker has closed it
  Loses : (link : ℕ) → Act
  -- it could not be subscribed again
  Fails : Failure → Act
  -- it ends
  Ends : Ending → Act
  -- it is polled at this moment
  Polls : (clock : ℕ) → Act
  -- the flow that is due is asked for
  Asks : Act
  -- it is this moment now
  IsAt : (clock : ℕ) → Act
  -- the copy of a dead letter that is due is taken, to be sent to the other topic
  TakesCopy : Act
  -- at this moment the copy that the consumer of this key took has its receipt, or could not be sent
  IsCopied : (key clock : ℕ) → Act
  FailsCopy : (key clock : ℕ) → Act
  -- the client is stopped: what is pending fails, and no copy is made any more
  Stops : Act
  -- the message of this id is acknowledged, or is asked for again by its user
  Forgets : Id → Act
  -- at this moment the messages that are due are asked for again
  Checks : (clock : ℕ) → Act

-- WHAT IS SEEN OF IT

-- Its key, which no other one that makes copies ever has, its topic, its number, and how it is made. A raw one grants no permits, and is not
-- subscribed again.
pub record Setup : Type 0 where
  pub key : ℕ
  pub topic : List ℕ
  pub number : ℕ
  pub config : ConfigValues
  pub is_raw : Bool

-- the consumer that a raw call makes: it has no dead letters, so that nothing names its key
abbrev pub of_raw : Subscribed → Setup
of_raw s =
    record {
      key = 0;
      topic = s.topic;
      number = s.consumer;
      config =
          record {
            subscription = s.subscription;
            sub_type = s.sub_type;
            batch_size = None;
            consumer_name = s.name;
            consumer_id = Some s.consumer;
            unacked_message_redelivery_delay = None;
            options = s.options;
            dead_letter_policy = None;
          };
      is_raw = true;
    }

-- and why it has ended, how many messages it gave, and when it gave the last
pub record Seen : Type 0 where
  pub key : ℕ
  pub topic : List ℕ
  pub number : ℕ
  pub config : ConfigValues
  pub is_raw : Bool
  pub engine : Engine
  pub ended : Option Ending
  pub received : ℕ
  pub last : Option ℕ

-- how many items may be unread; none counts as one
abbrev pub queue_of : Option ℕ → ℕ
queue_of None = 1000
queue_of (Some n) = if n == 0 then 1 else n

abbrev pub nothing_held : (queue : ℕ) (batch delay : Option ℕ) → Engine
nothing_held queue batch delay =
    record {
      queue = queue;
      batch = batch;
      delay = delay;
      clock = 0;
      live = None;
      unread = [];
      rest = [];
      letters = [];
      copying = None;
      waiting = [];
      kept = [];
      check = None;
      stopped = false;
    }

abbrev pub idle : (is_raw : Bool) → ConfigValues → Engine
idle is_raw c =
    nothing_held (queue_of c.options.receiver_queue_size) (if is_raw then None else Some (batch_size c)) c.unacked_message_redelivery_delay

abbrev pub fresh : Setup → Seen
fresh s =
    record {
      key = s.key;
      topic = s.topic;
      number = s.number;
      config = s.config;
      is_raw = s.is_raw;
      engine = idle s.is_raw s.config;
      ended = None;
      received = 0;
      last = None;
    }

-- the link of its live subscription: what it asks for is asked there, and nowhere else
abbrev pub link_of : Seen → Option ℕ
link_of v = option_map (λ l. l.link) v.engine.live

abbrev pub is_on : (link : ℕ) → Option ℕ → Bool
is_on link None = false
is_on link (Some l) = l == link

abbrev pub lives_on : (link : ℕ) → Seen → Bool
lives_on link v = is_on link (link_of v)

-- a flow is to be asked for
abbrev pub is_due : Seen → Bool
is_due v = is_some (first_due v.engine.live)

-- it has ended, or a subscription of it is to be made again once the one on this link is lost
abbrev pub is_ended : Seen → Bool
is_ended v = is_some v.ended

-- it has ended, and no dead letter is pending
abbrev pub is_over : Seen → Bool
is_over v = is_ended v && not (is_pending v.engine)

abbrev pub resubscribes : (link : ℕ) → Seen → Bool
resubscribes link v = lives_on link v && not v.is_raw

-- WHAT A POLL GIVES: the first unread item; else the end, where it has ended and no dead letter is pending

abbrev pub polled_from : Option Item → Option Ending → Polled
polled_from (Some item) why = poll.Item (handed item)
polled_from None (Some why) = poll.End
polled_from None None = poll.Empty

abbrev pub over : (is_pending : Bool) → Option Ending → Option Ending
over true why = None
over false why = why

abbrev pub polled : Seen → Polled
polled v = polled_from (first_of v.engine.unread) (over (is_pending v.engine) v.ended)

abbrev pub counts : (clock : ℕ) → Item → Seen → Seen
counts clock item v = if is_message item then record v { received = capped (v.received + 1); last = Some clock } else v

abbrev pub counts_first : (clock : ℕ) → Option Item → Seen → Seen
counts_first clock None v = v
counts_first clock (Some item) v = counts clock item v

-- WHAT IT ASKS FOR BESIDE FLOWS

-- the copy that is to be sent to the other topic now, with the key of its consumer
abbrev pub copy_due : Seen → Option (ℕ × ProducerMessageValues)
copy_due v = option_map (λ m. (v.key, m)) (option_map (copy_of v.topic) (to_copy v.engine))

-- the entry that is acknowledged as its copy has its receipt, where a subscription is live then; that of another consumer acknowledges nothing
abbrev pub acked : (key : ℕ) → Seen → Option Id
acked key v = only_if (v.key == key) (acked_by v.engine)

-- the messages that are asked for again at this moment, where a subscription is live: they are kept no longer
abbrev pub asked_again : (clock : ℕ) → Seen → List Id
asked_again clock v = if is_some (link_of v) then due_before clock v.engine.kept else []

-- WHAT A HISTORY SAYS. Its acts, newest first.

abbrev pub frame_for : Seen → Frame → Frame
frame_for v f = frame_by v.config.dead_letter_policy f

abbrev pub ends : Ending → Seen → Seen
ends why v = record v { engine = shut v.engine; ended = option_or v.ended (Some why) }

abbrev pub loses : Seen → Seen
loses v = if v.is_raw then ends LinkLost v else record v { engine = cut_off v.engine }

abbrev pub heard : Frame → Seen → Seen
heard f v = record v { engine = hears (frame_for v f) v.engine }

abbrev pub told : (key : ℕ) → Engine → Seen → Seen
told key e v = if v.key == key then record v { engine = e } else v

abbrev pub after : Act → Seen → Seen
after (Lives link url) v = if is_ended v then v else record v { engine = lives link url v.engine }
after (Hears link f) v = if lives_on link v then heard f v else v
after (Loses link) v = if lives_on link v then loses v else v
after (Fails f) v = if is_ended v then v else ends NotSubscribed (record v { engine = hears (failed f) v.engine })
after (Ends why) v = ends why v
after (Polls clock) v = counts_first clock (first_of v.engine.unread) (record v { engine = gives (clocked clock v.engine) })
after Asks v = record v { engine = record v.engine { live = option_map asked v.engine.live } }
after (IsAt clock) v = record v { engine = clocked clock v.engine }
after TakesCopy v = record v { engine = takes_copy v.engine }
after (IsCopied key clock) v = told key (copied (clocked clock v.engine)) v
after (FailsCopy key clock) v = told key (copy_failed (clocked clock v.engine)) v
after Stops v = record v { engine = stops v.engine }
after (Forgets id) v = record v { engine = record v.engine { kept = forget id v.engine.kept } }
after (Checks clock) v = record v { engine = checks clock v.engine }

abbrev pub seen : Setup → List Act → Seen
seen s [] = fresh s
seen s (act ∷ h) = after act (seen s h)
