-- What a broker keeps, and what it gives for each frame that it reads.  (Pulsar binary protocol)
use Rattle.std.specs.Prelude.{ℕ, ◌+◌, ◌==◌, ◌&&◌, ℤ, pos, negsuc, bytes_eq, nat_lt, List, [], ◌∷◌, ◌++◌, length, drop, map, Option, Some, None, if◌then◌else◌}
use Rattle.std.specs.List.{range_with_len}
use Rattle.std.specs.Option.{option_map, unwrap_or}
use Rattle.pulsar_frame.specs.Batch.{num_messages_in_batch}
use Rattle.pulsar_frame.specs.Message.{MessageValues}
use Rattle.pulsar_frame.specs.Payload.{PayloadValues}
use Rattle.pulsar_broker.specs.Answers.{greeting, ponged, succeeded, unsupported, not_partitioned, found_here, producer_made, receipt, delivery}
use Rattle.pulsar_broker.specs.Asked.{Asked, Connects, Pings, CountsPartitions, LooksUp, MakesProducer, Sends, Subscribes, Grants, Acknowledges, ClosesProducer, ClosesConsumer, AsksElse, SaysElse, asked}

-- WHAT IS KEPT

-- a topic: its messages in order, and its cursors: how many of the messages each subscription has passed
pub record Topic : Type 0 where
  pub messages : List PayloadValues
  pub cursors : (subscription : List ℕ) → Option ℕ

-- a consumer: the link and the number by which it is named there, its topic and subscription, the permits that it was granted, and those
-- that its messages have cost
pub record Consumer : Type 0 where
  pub link : ℕ
  pub number : ℕ
  pub topic : List ℕ
  pub subscription : List ℕ
  pub granted : ℕ
  pub spent : ℕ

-- The topics of the producers that the links have, by link and number. The consumers by their seats: the first that subscribed has seat 0, and each
-- the next one; how many seats there are; and which seat has the consumer that a link has under a number.
pub record State : Type 0 where
  pub producers : (link number : ℕ) → Option (List ℕ)
  pub consumers : (seat : ℕ) → Option Consumer
  pub seats : ℕ
  pub seat_of : (link number : ℕ) → Option ℕ
  pub topics : (name : List ℕ) → Topic

-- at first
abbrev pub no_topic : Topic
no_topic = record { messages = []; cursors = λ subscription. None }

abbrev pub fresh : State
fresh =
    record {
      producers = λ link number. None;
      consumers = λ seat. None;
      seats = 0;
      seat_of = λ link number. None;
      topics = λ name. no_topic;
    }

-- a frame that is owed to a link
pub record Owed : Type 0 where
  pub link : ℕ
  pub message : MessageValues

-- what a broker keeps after a frame, and what it gives for it
pub record Turn : Type 0 where
  pub state : State
  pub given : List Owed

-- WHAT BECOMES OF IT

abbrev pub set_at : {A : Type 0} → (key : ℕ) → A → (ℕ → A) → ℕ → A
set_at key x f k = if k == key then x else f k

abbrev pub set_at_pair : {A : Type 0} → (link number : ℕ) → A → (ℕ → ℕ → A) → ℕ → ℕ → A
set_at_pair link number x f l n = if (l == link) && (n == number) then x else f l n

abbrev pub set_named : {A : Type 0} → (name : List ℕ) → A → (List ℕ → A) → List ℕ → A
set_named name x f m = if bytes_eq name m then x else f m

abbrev pub with_producer : (link number : ℕ) → Option (List ℕ) → State → State
with_producer link number topic s = record s { producers = set_at_pair link number topic s.producers }

abbrev pub with_consumer : (seat : ℕ) → Option Consumer → State → State
with_consumer seat c s = record s { consumers = set_at seat c s.consumers }

abbrev pub with_topic : (name : List ℕ) → Topic → State → State
with_topic name t s = record s { topics = set_named name t s.topics }

-- the consumer that a link has under a number leaves, if there is one; its cursor stays
abbrev pub leaves_seat : (link number : ℕ) → Option ℕ → State → State
leaves_seat link number None s = s
leaves_seat link number (Some seat) s =
    record s { consumers = set_at seat None s.consumers; seat_of = set_at_pair link number None s.seat_of }

abbrev pub closed : (link number : ℕ) → State → State
closed link number s = leaves_seat link number (s.seat_of link number) s

-- SUBSCRIBING: whoever has the number leaves, and the new one takes the next seat. A cursor that is there stays. A new one stands in front of the
-- first message for Earliest, which is 1, and else behind the last.

abbrev pub begins_at : Option ℤ → List PayloadValues → ℕ
begins_at None messages = length messages
begins_at (Some (pos n)) messages = if n == 1 then 0 else length messages
begins_at (Some (negsuc n)) messages = length messages

abbrev pub with_cursor : (subscription : List ℕ) → (cursor : ℕ) → Topic → Topic
with_cursor subscription cursor t = record t { cursors = set_named subscription (Some cursor) t.cursors }

abbrev pub opened : (subscription : List ℕ) → Option ℤ → Topic → Topic
opened subscription position t =
    with_cursor subscription (unwrap_or (t.cursors subscription) (begins_at position t.messages)) t

abbrev pub seated : Consumer → State → State
seated c s =
    record s {
      consumers = set_at s.seats (Some c) s.consumers;
      seats = s.seats + 1;
      seat_of = set_at_pair c.link c.number (Some s.seats) s.seat_of;
    }

abbrev pub joining : (link number : ℕ) (topic subscription : List ℕ) → Consumer
joining link number topic subscription =
    record { link = link; number = number; topic = topic; subscription = subscription; granted = 0; spent = 0 }

abbrev pub joined : (link number : ℕ) (topic subscription : List ℕ) → Option ℤ → State → State
joined link number topic subscription position s =
    seated (joining link number topic subscription) (with_topic topic (opened subscription position (s.topics topic)) s)

abbrev pub subscribed : (link number : ℕ) (topic subscription : List ℕ) → Option ℤ → State → State
subscribed link number topic subscription position s =
    joined link number topic subscription position (closed link number s)

-- A LINK HAS ENDED: its producers and its consumers leave. The cursors stay.

-- what links have by number, but for this one
abbrev pub without_link : {A : Type 0} → (link : ℕ) → (ℕ → ℕ → Option A) → ℕ → ℕ → Option A
without_link link f l n = if l == link then None else f l n

-- whoever is of another link
abbrev pub of_another : (link : ℕ) → Option Consumer → Option Consumer
of_another link None = None
of_another link (Some c) = if c.link == link then None else Some c

abbrev pub without : (link : ℕ) → State → State
without link s =
    record s {
      producers = without_link link s.producers;
      consumers = λ seat. of_another link (s.consumers seat);
      seat_of = without_link link s.seat_of;
    }

-- SENDING AND GRANTING

abbrev pub stored : PayloadValues → Topic → Topic
stored payload t = record t { messages = t.messages ++ payload ∷ [] }

abbrev pub granted_more : (permits : ℕ) → Consumer → Consumer
granted_more permits c = record c { granted = c.granted + permits }

abbrev pub granted_at : (permits : ℕ) → Option ℕ → State → State
granted_at permits None s = s
granted_at permits (Some seat) s = with_consumer seat (option_map (granted_more permits) (s.consumers seat)) s

-- WHAT IS ANSWERED

abbrev pub to : (link : ℕ) → MessageValues → List Owed
to link message = record { link = link; message = message } ∷ []

-- A send needs a payload, and a producer of its link.
abbrev pub answer_send : (link producer sequence : ℕ) → Option PayloadValues → Option (List ℕ) → State → Turn
answer_send link producer sequence (Some payload) (Some topic) s =
    record {
      state = with_topic topic (stored payload (s.topics topic)) s;
      given = to link (receipt producer sequence (length (s.topics topic).messages));
    }
answer_send link producer sequence None topic s = record { state = s; given = [] }
answer_send link producer sequence (Some payload) None s = record { state = s; given = [] }

-- what is asked on a link, with this payload behind it, of a broker of this URL
abbrev pub answer : (url : List ℕ) (link : ℕ) → Option PayloadValues → Asked → State → Turn
answer url link payload Connects s = record { state = s; given = to link greeting }
answer url link payload Pings s = record { state = s; given = to link ponged }
answer url link payload (CountsPartitions request) s = record { state = s; given = to link (not_partitioned request) }
answer url link payload (LooksUp request) s = record { state = s; given = to link (found_here url request) }
answer url link payload (MakesProducer topic producer request name) s =
    record { state = with_producer link producer (Some topic) s; given = to link (producer_made producer request name) }
answer url link payload (Sends producer sequence) s = answer_send link producer sequence payload (s.producers link producer) s
answer url link payload (Subscribes topic subscription consumer request position) s =
    record { state = subscribed link consumer topic subscription position s; given = to link (succeeded request) }
answer url link payload (Grants consumer permits) s =
    record { state = granted_at permits (s.seat_of link consumer) s; given = [] }
answer url link payload Acknowledges s = record { state = s; given = [] }
answer url link payload (ClosesProducer producer request) s =
    record { state = with_producer link producer None s; given = to link (succeeded request) }
answer url link payload (ClosesConsumer consumer request) s =
    record { state = closed link consumer s; given = to link (succeeded request) }
answer url link payload (AsksElse request) s = record { state = s; given = to link (unsupported request) }
answer url link payload SaysElse s = record { state = s; given = [] }

-- SERVING

-- what a message costs: as many permits as its batch has entries, none where that number is negative, and one where it is no batch
abbrev pub weight_by : (count : Option ℤ) → ℕ
weight_by None = 1
weight_by (Some (pos n)) = n
weight_by (Some (negsuc n)) = 0

abbrev pub weight : PayloadValues → ℕ
weight p = weight_by (num_messages_in_batch p.metadata)

-- what a consumer is served: messages in order, the permits that are spent then, and the place behind the last
pub record Served : Type 0 where
  pub messages : List MessageValues
  pub spent : ℕ
  pub cursor : ℕ

abbrev pub nothing_served : (spent cursor : ℕ) → Served
nothing_served spent cursor = record { messages = []; spent = spent; cursor = cursor }

abbrev pub served_first : MessageValues → Served → Served
served_first m served = record served { messages = m ∷ served.messages }

-- the messages of a topic from a place on, as long as permits are above 0
abbrev pub serving : (consumer granted spent cursor : ℕ) → List PayloadValues → Served
serving consumer granted spent cursor [] = nothing_served spent cursor
serving consumer granted spent cursor (p ∷ ps) =
    if nat_lt spent granted then served_first (delivery consumer cursor p) (serving consumer granted (spent + weight p) (cursor + 1) ps)
    else nothing_served spent cursor

-- the next messages of its subscription
abbrev pub serving_from : (cursor : ℕ) → Consumer → List PayloadValues → Served
serving_from cursor c messages = serving c.number c.granted c.spent cursor (drop cursor messages)

abbrev pub owed_to : (link : ℕ) → MessageValues → Owed
owed_to link message = record { link = link; message = message }

-- where something is served, the cursor of the subscription has passed it, and its permits are spent
abbrev pub serve_so : (seat : ℕ) → Consumer → Served → State → Turn
serve_so seat c served s =
    record {
      state =
          with_topic c.topic (with_cursor c.subscription served.cursor (s.topics c.topic))
          (with_consumer seat (Some (record c { spent = served.spent })) s);
      given = map (owed_to c.link) served.messages;
    }

abbrev pub serve_if : (seat : ℕ) → Consumer → Served → List MessageValues → State → Turn
serve_if seat c served [] s = record { state = s; given = [] }
serve_if seat c served (m ∷ ms) s = serve_so seat c served s

-- how many messages of a topic a subscription has passed
abbrev pub passed : (subscription : List ℕ) → Topic → ℕ
passed subscription t = unwrap_or (t.cursors subscription) 0

abbrev pub serving_of : Consumer → Topic → Served
serving_of c t = serving_from (passed c.subscription t) c t.messages

abbrev pub serve_consumer : (seat : ℕ) → Option Consumer → State → Turn
serve_consumer seat None s = record { state = s; given = [] }
serve_consumer seat (Some c) s =
    let served = serving_of c (s.topics c.topic) in
    serve_if seat c served served.messages s

-- The consumer of a seat is served, if there is one.
abbrev pub serve : (seat : ℕ) → State → Turn
serve seat s = serve_consumer seat (s.consumers seat) s

-- one after the other
abbrev pub serve_all : (seats : List ℕ) → State → Turn
serve_all [] s = record { state = s; given = [] }
serve_all (seat ∷ seats) s =
    let first = serve seat s in
    let others = serve_all seats first.state in
    record { state = others.state; given = first.given ++ others.given }

-- A FRAME is answered, and then the consumers of all links are served, in the order in which they subscribed.
unfoldable pub turn : (url : List ℕ) (link : ℕ) → MessageValues → State → Turn
turn url link m s =
    let answered = answer url link m.payload (asked m.command.body) s in
    let served = serve_all (range_with_len 0 answered.state.seats) answered.state in
    record { state = served.state; given = answered.given ++ served.given }
