-- What is served, and what is kept of what was sent.
use Rattle.std.proofs.Common.{◌≡◌, ◌∙◌, sym, ap, refl, ℕ, suc, ◌+◌, nat_lt, Bool, true, false, cond, List, [], ◌∷◌, ◌++◌, bytes_eq, drop, take, Option, Some, None, arith}
use Rattle.std.proofs.lemmas.Slice.Eq.{bytes_eq-Decides}
use Rattle.std.proofs.lemmas.List.{append-nil}
use Rattle.std.specs.List.{range_with_len}
use Rattle.pulsar_frame.specs.Message.{MessageValues}
use Rattle.pulsar_frame.specs.Payload.{PayloadValues}
use Rattle.pulsar_broker.specs.Answers.{delivery}
use Rattle.pulsar_broker.specs.Asked.{Asked, Connects, Pings, CountsPartitions, LooksUp, MakesProducer, Sends, Subscribes, Grants, Acknowledges, ClosesProducer, ClosesConsumer, AsksElse, SaysElse, asked}
use Rattle.pulsar_broker.specs.Laws.{ServesNext, deliveries, sent_by, sent_to}
use Rattle.pulsar_broker.specs.State.{Consumer, Served, State, Topic, answer, answer_send, closed, granted_at, leaves_seat, nothing_served, opened, passed, serve, serve_all, serve_consumer, serve_if, served_first, serving, serving_of, set_named, stored, turn, weight, with_cursor}

-- IN ORDER

pub record Next (consumer place : ℕ) (ps : List PayloadValues) (r : Served) : Type 0 where
  pub n : ℕ
  pub messages : r.messages ≡ deliveries consumer place (take n ps)
  pub cursor : r.cursor ≡ place + n

next_by : (n s c : ℕ) (p : PayloadValues) (ps : List PayloadValues) (others : Served) → Next n (c + 1) ps others → (b : Bool) →
    Next n c (p ∷ ps) (cond b (served_first (delivery n c p) others) (nothing_served s c))
next_by n s c p ps others h true = record { n = suc h.n; messages = ap (λ ms. delivery n c p ∷ ms) h.messages; cursor = let e = h.cursor in omega (arith, e) }
next_by n s c p ps others h false = record { n = 0; messages = refl; cursor = omega arith }

next_of : (n g s c : ℕ) (ps : List PayloadValues) → Next n c ps (serving n g s c ps)
next_of n g s c [] = record { n = 0; messages = refl; cursor = omega arith }
next_of n g s c (p ∷ ps) = next_by n s c p ps (serving n g (s + weight p) (c + 1) ps) (next_of n g (s + weight p) (c + 1) ps) (nat_lt s g)

pub serves_next : (c : Consumer) (t : Topic) → ServesNext c t
serves_next c t =
    let h = next_of c.number c.granted c.spent (passed c.subscription t) (drop (passed c.subscription t) t.messages) in
    record { n = h.n; messages = h.messages; cursor = h.cursor }

-- WHAT WAS SENT

messages_named : (name other : List ℕ) (x : Topic) (topics : List ℕ → Topic) → x.messages ≡ (topics name).messages → (set_named name x topics other).messages ≡ (topics other).messages
messages_named name other x topics same = by (bytes_eq name other) refl
  where
    by : (b : Bool) → bytes_eq name other ≡ b → (cond b x (topics other)).messages ≡ (topics other).messages
    by true e = same ∙ ap (λ m. (topics m).messages) ((bytes_eq-Decides name other).0 e)
    by false e = refl

served_if : (seat : ℕ) (c : Consumer) (r : Served) (ms : List MessageValues) (s : State) (name : List ℕ) → ((serve_if seat c r ms s).state.topics name).messages ≡ (s.topics name).messages
served_if seat c r [] s name = refl
served_if seat c r (m ∷ ms) s name = messages_named c.topic name (with_cursor c.subscription r.cursor (s.topics c.topic)) s.topics refl

served_by : (seat : ℕ) (o : Option Consumer) (s : State) (name : List ℕ) → ((serve_consumer seat o s).state.topics name).messages ≡ (s.topics name).messages
served_by seat None s name = refl
served_by seat (Some c) s name = served_if seat c (serving_of c (s.topics c.topic)) (serving_of c (s.topics c.topic)).messages s name

served_all : (seats : List ℕ) (s : State) (name : List ℕ) → ((serve_all seats s).state.topics name).messages ≡ (s.topics name).messages
served_all [] s name = refl
served_all (seat ∷ seats) s name = served_all seats (serve seat s).state name ∙ served_by seat (s.consumers seat) s name

sent_so : (link producer sequence : ℕ) (payload : Option PayloadValues) (topic : Option (List ℕ)) (s : State) (name : List ℕ) →
    ((answer_send link producer sequence payload topic s).state.topics name).messages ≡ (s.topics name).messages ++ sent_by name payload topic
sent_so link producer sequence None topic s name = sym (append-nil (s.topics name).messages)
sent_so link producer sequence (Some p) None s name = sym (append-nil (s.topics name).messages)
sent_so link producer sequence (Some p) (Some topic) s name = by (bytes_eq topic name) refl
  where
    by : (b : Bool) → bytes_eq topic name ≡ b →
        (cond b (stored p (s.topics topic)) (s.topics name)).messages ≡ (s.topics name).messages ++ cond b (p ∷ []) []
    by true e = ap (λ m. (s.topics m).messages ++ p ∷ []) ((bytes_eq-Decides topic name).0 e)
    by false e = sym (append-nil (s.topics name).messages)

left_so : (link number : ℕ) (o : Option ℕ) (s : State) → (leaves_seat link number o s).topics ≡ s.topics
left_so link number None s = refl
left_so link number (Some seat) s = refl

granted_so : (permits : ℕ) (o : Option ℕ) (s : State) → (granted_at permits o s).topics ≡ s.topics
granted_so permits None s = refl
granted_so permits (Some seat) s = refl

none_sent : (s t : State) (name : List ℕ) → t.topics ≡ s.topics → (t.topics name).messages ≡ (s.topics name).messages ++ []
none_sent s t name same = ap (λ f. (f name).messages) same ∙ sym (append-nil (s.topics name).messages)

answered : (url : List ℕ) (link : ℕ) (payload : Option PayloadValues) (a : Asked) (s : State) (name : List ℕ) →
    ((answer url link payload a s).state.topics name).messages ≡ (s.topics name).messages ++ sent_to name link payload a s
answered url link payload Connects s name = none_sent s s name refl
answered url link payload Pings s name = none_sent s s name refl
answered url link payload (CountsPartitions request) s name = none_sent s s name refl
answered url link payload (LooksUp request) s name = none_sent s s name refl
answered url link payload (MakesProducer topic producer request given) s name = none_sent s s name refl
answered url link payload (Sends producer sequence) s name = sent_so link producer sequence payload (s.producers link producer) s name
answered url link payload (Subscribes topic subscription consumer request position) s name =
    let t = closed link consumer s in
    messages_named topic name (opened subscription position (t.topics topic)) t.topics refl
    ∙ none_sent s t name (left_so link consumer (s.seat_of link consumer) s)
answered url link payload (Grants consumer permits) s name = none_sent s (granted_at permits (s.seat_of link consumer) s) name (granted_so permits (s.seat_of link consumer) s)
answered url link payload Acknowledges s name = none_sent s s name refl
answered url link payload (ClosesProducer producer request) s name = none_sent s s name refl
answered url link payload (ClosesConsumer consumer request) s name = none_sent s (closed link consumer s) name (left_so link consumer (s.seat_of link consumer) s)
answered url link payload (AsksElse request) s name = none_sent s s name refl
answered url link payload SaysElse s name = none_sent s s name refl

pub keeps_sent : (url : List ℕ) (link : ℕ) (m : MessageValues) (s : State) (name : List ℕ) →
    ((turn url link m s).state.topics name).messages ≡ (s.topics name).messages ++ sent_to name link m.payload (asked m.command.body) s
unfolding turn
keeps_sent url link m s name =
    let t = (answer url link m.payload (asked m.command.body) s).state in
    served_all (range_with_len 0 t.seats) t name ∙ answered url link m.payload (asked m.command.body) s name
