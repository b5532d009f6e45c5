-- What a reply answers was asked for by the one that is told it.
use Rattle.std.proofs.Common.{◌≡◌, inl, inr, ◌∙◌, sym, ap, subst, ℕ, ◌+◌, ◌≤◌, ◌==◌, arith, List, [], ◌∷◌, ◌++◌, refl, filter, length, Bool, true, false, ◌&&◌, cond, Option, Some, None}
use Rattle.std.proofs.lemmas.Bool.{cases_Bool, eqb-true}
use Rattle.std.specs.List.{list_any}
use Rattle.pulsar_laws.proofs.ActWords.{Act, Action, Ask, Call, Does, Heard, is_same, Procedure, Share, Starts, Who}
use Rattle.pulsar_laws.proofs.PlanWords.{Errand, Ways}
use Rattle.pulsar_laws.proofs.RunWords.{Begins, calls_of, Cause, counted, Each, Entry, In, InThisStep, IsRun, Options, start_of, started, Then, view, View}
use Rattle.pulsar_laws.proofs.LinkWords.{is_body, Reply, Seat, SendPing, Words}
use Rattle.pulsar_wire.specs.At.{flag_at, uint64_at}
use Rattle.pulsar_wire.specs.Command.{BodyValues}
use Rattle.pulsar_wire.specs.Field.{◌>>=◌}
use Rattle.pulsar_wire.specs.declared.key.RequestKey.{RequestKey}
use Rattle.pulsar_wire.specs.declared.key.RequestKey.TheVariants as keys
use Rattle.pulsar_frame.specs.Frame.{Front, Short, Refused, Whole, front}
use Rattle.pulsar_frame.specs.Key.{bears_key, body_key, is_false, key, key_fields, key_from}
use Rattle.pulsar_frame.specs.Message.{MessageValues}
use Rattle.pulsar_messages.specs.Content.{ProducerMessageValues}
use Rattle.pulsar_messages.specs.Words as words
use Rattle.pulsar_wire.specs.declared.awaited.Awaited.{Awaited}
use Rattle.pulsar_wire.specs.declared.awaited.Awaited.TheVariants as awaited
use Rattle.pulsar_wire.specs.declared.awaited.Claim.{Claim}
use Rattle.pulsar_requests.specs.Waits.{Pending, places}
use Rattle.pulsar_session.specs.declared.states.Stage.{Stage}
use Rattle.pulsar_session.specs.declared.states.Stage.TheVariants.{Dialing, Handshaking, Ready, Over}
use Rattle.pulsar_session.specs.Answers.{answers, is, is_number}
use Rattle.pulsar_session.specs.Laws.{IsInLine}
use Rattle.pulsar_frame.specs.Reply.{Written, read_body}
use Rattle.pulsar_session.specs.Link.{Came, Seen, Settles, came, came_by, came_in, for_consumer, greeted_by, settled_by, unasked}
use Rattle.pulsar_messages.specs.Claims.{claim}
use Rattle.pulsar_session.specs.Link as session
use Rattle.pulsar_messages.specs.Claims as claims
use Rattle.pulsar_session.proofs.Others.{none_stands_beside_room}
use Rattle.pulsar_exchange.specs.Messages.{read}
use Rattle.pulsar_calls.specs.declared.act.Outcome.TheVariants as outcome
use Rattle.pulsar_calls.specs.declared.act.Procedure.TheVariants as procedure
use Rattle.pulsar_laws.proofs.Cases.{none_some}
use Rattle.pulsar_links.specs.Links.{settled_in}
use Rattle.pulsar_laws.specs.ProducerLaws.{ReceiptsAreOwn}
use Rattle.pulsar_links.specs.Seats.{askers_left}
use Rattle.pulsar_laws.proofs.links.Alone.{links_alone_lem}
use Rattle.pulsar_laws.proofs.calls.Caused.{outcomes_are_caused_lem}
use Rattle.pulsar_laws.proofs.links.Claiming.{IsClaimed, PendsSo, asked_so, drained_so, fed, fewer, known, opened, pinged, taken}
use Rattle.pulsar_laws.proofs.links.Early.{Early, early}
use Rattle.pulsar_laws.proofs.producers.Frames.{frames_are_of_their_sends_lem}
use Rattle.pulsar_laws.proofs.plans.Granted.{does_from}
use Rattle.pulsar_laws.proofs.producers.InTurn.{self_same, stood_begun}
use Rattle.pulsar_laws.proofs.calls.Once.{ends_once_lem}
use Rattle.pulsar_links.specs.Asks.{Deed, IsAsked, IsClosed, IsDrained, IsFed, IsGot, IsOpened, IsPinged, IsRead, seat_by}
use Rattle.pulsar_laws.proofs.links.Rows.{CameFrom, after_holds, begun_holds}

-- ONE ASKED FOR WHAT WAITS FOR THIS: `B` is what is known of its request

abbrev Awaits : (Words → Type 0) → Awaited → Type 0
Awaits B a = (request : Words) × (id : ℕ) × (c : Claim) × (claim id request ≡ Some c) × (c.awaits ≡ a) × B request

abbrev Awaiting : (Who → Words → Type 0) → Who → Awaited → Type 0
Awaiting B w = Awaits (B w)

abbrev SitsAt : (Who → Words → Type 0) → Option Seat → Type 0
SitsAt B None = Unit {0}
SitsAt B (Some seat) = IsClaimed (Awaiting B) seat.seen seat.askers

sits_more : (B C : Who → Words → Type 0) (row : Option Seat) →
    ((seat : Seat) → row ≡ Some seat → (p : ℕ) (w : Who) (r : Words) → seat.askers p ≡ Some w → B w r → C w r) → SitsAt B row → SitsAt C row
sits_more B C None more k = tt
sits_more B C (Some seat) more k =
    known (Awaiting B) (Awaiting C) seat.askers (λ p w a e h. (h.0, h.1, h.2, h.3, h.4, more seat refl p w h.0 e h.5)) seat.seen
    (seat.seen.waits.queued + length seat.seen.line) k

-- what is seen of a live link
record Lives (seat : Seat) : Type 0 where
  room : IsInLine seat.seen
  soon : Early seat.seen

lives : (o : Options) (log : List Entry) (l : ℕ) (seat : Seat) → (view o log).links.live l ≡ Some seat → Lives seat
lives o log l seat h =
    let k = links_alone_lem o log l seat h in
    record {
      room = subst IsInLine (sym k.2) (none_stands_beside_room k.0 (calls_of o l log));
      soon = subst Early (sym k.2) (early k.0 (calls_of o l log));
    }

left_before : (settled : List ℕ) (f : ℕ → Option Who) (p : ℕ) (w : Who) → askers_left settled f p ≡ Some w → f p ≡ Some w
left_before settled f p w h = elim (cases_Bool (list_any (λ q. q == p) settled)) [
  | inl e ↦ absurd (none_some (rw e at h))
  | inr e ↦ rw e at h
]

module _ (B : Who → Words → Type 0) where
  did_sits : (v : View) (l : ℕ) (a : Act) → ((who : Who) (request : Words) → a ≡ Does who (Ask l request) → B who request) → (d : Deed) → CameFrom v l a d →
      (seat : Seat) → Lives seat → SitsAt B (Some seat) → SitsAt B (Some (seat_by d seat))
  did_sits v l a new (IsOpened now) c seat h k = opened (Awaiting B) now seat.seen seat.askers h.soon k
  did_sits v l a new (IsRead now) c seat h k =
      fewer (Awaiting B) (session.after (session.Takes now) seat.seen) seat.askers (askers_left (settled_in (came seat.seen)) seat.askers) _
      (left_before (settled_in (came seat.seen)) seat.askers) (taken (Awaiting B) now seat.seen seat.askers h.room k)
  did_sits v l a new (IsDrained most now) c seat h k = drained_so (Awaiting B) most now seat.seen seat.askers k
  did_sits v l a new (IsPinged now) c seat h k = pinged (Awaiting B) now seat.seen seat.askers h.room k
  did_sits v l a new (IsAsked who now request) c seat h k =
      asked_so (Awaiting B) request who seat.askers now seat.seen (λ id cl e. (request, id, cl, e, refl, new who request c.0)) h.room k
  did_sits v l a new (IsGot now) c seat h k = k
  did_sits v l a new (IsFed piece) c seat h k = absurd c
  did_sits v l a new (IsClosed cause) c seat h k = absurd c

after_sits : (o : Options) (log : List Entry) (a : Act) (l : ℕ) (B : Who → Words → Type 0) →
    ((who : Who) (request : Words) → a ≡ Does who (Ask l request) → B who request) → SitsAt B ((view o log).links.live l) →
    SitsAt B ((view o (Then a ∷ log)).links.live l)
after_sits o log a l B new k =
    after_holds (SitsAt B) (view o log) l a
    (λ seat d. subst (λ (t : Seat). SitsAt B (Some t)) d.is_it (record { waiting = tt; low = tt; line = tt; few = λ q w h. absurd (none_some h) })) (λ end. tt)
    (λ d c seat e s. did_sits B (view o log) l a new d c seat (lives o log l seat e) s) k

begun_sits : (o : Options) (log : List Entry) (e : Heard) (l : ℕ) (B : Who → Words → Type 0) → SitsAt B ((view o log).links.live l) →
    SitsAt B ((view o (Begins e ∷ log)).links.live l)
begun_sits o log e l B k = begun_holds (SitsAt B) (view o log) l e (λ piece is seat at s. fed (Awaiting B) piece seat.seen seat.askers s) k

-- WHAT A FRAME SETTLES

abbrev is_settling : Came → Bool
is_settling (Settles ps m) = true
is_settling _ = false

unasked_not : (m : MessageValues) → is_settling (unasked m) ≡ false
unasked_not m = elim (is 36 m) as (λ b. is_settling (cond b session.Challenged (for_consumer (key m) m)) ≡ false) [ true ↦ refl | false ↦ by (key m) ]
  where
    by : (k : Option RequestKey) → is_settling (for_consumer k m) ≡ false
    by None = refl
    by (Some (keys.RequestId n)) = refl
    by (Some (keys.ProducerSend p s)) = refl
    by (Some (keys.Consumer c)) = refl
    by (Some (keys.CloseConsumer c n)) = refl
    by (Some keys.AuthChallenge) = refl

not_settling : (c : Came) (ps : List ℕ) (m : MessageValues) → is_settling c ≡ false → c ≡ Settles ps m → ⊥
not_settling c ps m h e = let f : true ≡ false = sym (ap is_settling e) ∙ h in cc

pub settles_these : (stage : Stage) (f : Front) (v : Seen) (ps : List ℕ) (m : MessageValues) → came_in stage f v ≡ Settles ps m → ps ≡ places (settled_by m v)
settles_these Dialing f v ps m h = absurd cc
settles_these Over f v ps m h = absurd cc
settles_these Handshaking Short v ps m h = absurd cc
settles_these Handshaking (Refused r) v ps m h = absurd cc
settles_these Handshaking (Whole x left) v ps m h = absurd (no (is 3 x) h)
  where
    no : (b : Bool) → greeted_by b ≡ Settles ps m → ⊥
    no true q = cc
    no false q = cc
settles_these Ready Short v ps m h = absurd cc
settles_these Ready (Refused r) v ps m h = absurd cc
settles_these Ready (Whole x left) v ps m h = by (places (settled_by x v)) refl h
  where
    by : (qs : List ℕ) → places (settled_by x v) ≡ qs → came_by qs x ≡ Settles ps m → ps ≡ places (settled_by m v)
    by [] e q = absurd (not_settling (unasked x) ps m (unasked_not x) q)
    by (y ∷ ys) e q =
        let a : y ∷ ys ≡ ps = cc in
        let b : x ≡ m = cc in
        sym a ∙ sym e ∙ ap (λ z. places (settled_by z v)) b

-- the request of a place that is settled
record IsSettled (A : Who → Awaited → Type 0) (f : ℕ → Option Who) (m : MessageValues) (place : ℕ) : Type 0 where
  awaits : Awaited
  answered : answers m awaits ≡ true
  known_of : (who : Who) → f place ≡ Some who → A who awaits

settled_one : (A : Who → Awaited → Type 0) (f : ℕ → Option Who) (m : MessageValues) (place : ℕ) (ps : List Pending) → Each (PendsSo A f) ps →
    In place (places (filter (λ p. answers m p.awaits) ps)) → IsSettled A f m place
settled_one A f m place [] k h = absurd h
settled_one A f m place (p ∷ ps) k h = elim (cases_Bool (answers m p.awaits)) [
  | inl e ↦ elim (rw e at h) [
    | inl same ↦ record { awaits = p.awaits; answered = e; known_of = λ w q. k.0 w (ap f (sym same) ∙ q) }
    | inr more ↦ settled_one A f m place ps k.1 more
  ]
  | inr e ↦ settled_one A f m place ps k.1 (rw e at h)
]

-- WHAT A RECEIPT BEARS

abbrev body_read : MessageValues → Option BodyValues → Option Written
body_read m body = (read_body (key m) body).body

abbrev key_read : MessageValues → Option BodyValues → Option RequestKey
key_read m body = (read_body (key m) body).key

body_seven : (m : MessageValues) (body : Option BodyValues) → m.command.body ≡ body → is_body 7 (read m).content.body ≡ true →
    (b : BodyValues) × (m.command.body ≡ Some b) × (b.number ≡ 7)
body_seven m None e h = let f : false ≡ true = sym (ap (λ y. is_body 7 (body_read m y)) e) ∙ h in absurd cc
body_seven m (Some b) e h =
    let f : (b.number == 7) ≡ true = sym (ap (λ y. is_body 7 (body_read m y)) e) ∙ h in
    (b, e, eqb-true b.number 7 f)

key_of_read : (m : MessageValues) (body : Option BodyValues) → m.command.body ≡ body → (read m).content.key ≡ key m
key_of_read m None e = ap (key_read m) e
key_of_read m (Some b) e = ap (key_read m) e

abbrev seven_key : BodyValues → Option RequestKey
seven_key b = uint64_at 1 b.row b.values >>= λ p. uint64_at 2 b.row b.values >>= λ s. Some (keys.ProducerSend p s)

key_seven : (m : MessageValues) (b : BodyValues) → m.command.body ≡ Some b → b.number ≡ 7 → key m ≡ seven_key b
unfolding key
key_seven m b e n = ap (λ y. y >>= body_key) e
    ∙ ap (λ x. cond ((x == 17) && is_false (flag_at 6 b.row b.values)) None (key_fields x >>= λ k. key_from k b.row b.values)) n

-- it answers no request by its number
no_request : (p s : Option ℕ) (n : ℕ) → bears_key (p >>= λ x. s >>= λ y. Some (keys.ProducerSend x y)) (keys.RequestId n) ≡ false
no_request None s n = refl
no_request (Some p) None n = refl
no_request (Some p) (Some s) n = refl

bears_it : (k : Option RequestKey) (p s : ℕ) → bears_key k (keys.ProducerSend p s) ≡ true → k ≡ Some (keys.ProducerSend p s)
bears_it None p s h = absurd cc
bears_it (Some (keys.RequestId n)) p s h = absurd cc
bears_it (Some (keys.Consumer c)) p s h = absurd cc
bears_it (Some (keys.CloseConsumer c n)) p s h = absurd cc
bears_it (Some keys.AuthChallenge) p s h = absurd cc
bears_it (Some (keys.ProducerSend a b)) p s h = elim (cases_Bool (a == p)) [
  | inl e ↦
      (let f : (b == s) ≡ true = rw e at h in
      let x : a ≡ p = eqb-true a p e in
      let y : b ≡ s = eqb-true b s f in
      λ i. Some (keys.ProducerSend (x i) (y i)))
  | inr e ↦ (let f : false ≡ true = rw e at h in absurd cc)
]

-- so it answers a frame
record IsReceipt (m : MessageValues) (a : Awaited) : Type 0 where
  producer : ℕ
  sequence : ℕ
  is_it : a ≡ awaited.Receipt producer sequence
  bears : key m ≡ Some (keys.ProducerSend producer sequence)

receipt_of : (m : MessageValues) (b : BodyValues) (a : Awaited) → m.command.body ≡ Some b → b.number ≡ 7 → answers m a ≡ true → IsReceipt m a
receipt_of m b awaited.Pong e n h = let f : is 19 m ≡ false = ap (is_number 19) e ∙ ap (λ x. x == 19) n in let g : true ≡ false = sym h ∙ f in absurd cc
receipt_of m b (awaited.Reply r) e n h =
    let f : bears_key (key m) (keys.RequestId r) ≡ false =
    ap (λ k. bears_key k (keys.RequestId r)) (key_seven m b e n) ∙ no_request (uint64_at 1 b.row b.values) (uint64_at 2 b.row b.values) r in
    let g : true ≡ false = sym h ∙ f in absurd cc
receipt_of m b (awaited.Receipt p s) e n h = record { producer = p; sequence = s; is_it = refl; bears = bears_it (key m) p s h }

-- and what asked for that is a message
record IsSend (request : Words) (p s : ℕ) : Type 0 where
  name : List ℕ
  message : ProducerMessageValues
  block : Bool
  is_it : request ≡ words.Send p name s message block

replies_not : (id : ℕ) (c : Claim) (p s : ℕ) → claims.reply_to id ≡ Some c → c.awaits ≡ awaited.Receipt p s → ⊥
replies_not id c p s h e =
    let f : record { awaits = awaited.Reply id; creates = false } ≡ c = cc in
    let g : awaited.Reply id ≡ awaited.Receipt p s = ap (λ x. x.awaits) f ∙ e in cc

claimed_send : (request : Words) (id : ℕ) (c : Claim) (p s : ℕ) → claim id request ≡ Some c → c.awaits ≡ awaited.Receipt p s → IsSend request p s
claimed_send (words.Send producer name sequence message block) id c p s h e =
    let f : record { awaits = awaited.Receipt producer sequence; creates = false } ≡ c = cc in
    let g : awaited.Receipt producer sequence ≡ awaited.Receipt p s = ap (λ x. x.awaits) f ∙ e in
    let x : producer ≡ p = cc in
    let y : sequence ≡ s = cc in
    record { name = name; message = message; block = block; is_it = λ i. words.Send (x i) name (y i) message block }
claimed_send SendPing id c p s h e =
    let f : record { awaits = awaited.Pong; creates = false } ≡ c = cc in let g : awaited.Pong ≡ awaited.Receipt p s = ap (λ x. x.awaits) f ∙ e in absurd cc
claimed_send (words.CreateProducer topic producer name options) id c p s h e =
    let f : record { awaits = awaited.Reply id; creates = true } ≡ c = cc in let g : awaited.Reply id ≡ awaited.Receipt p s = ap (λ x. x.awaits) f
    ∙ e in absurd cc
claimed_send words.SendPong id c p s h e = absurd (none_some h)
claimed_send (words.AuthChallenge auth) id c p s h e = absurd (none_some h)
claimed_send (words.SendFlow consumer permits) id c p s h e = absurd (none_some h)
claimed_send (words.SendAck consumer ids cumulative) id c p s h e = absurd (none_some h)
claimed_send (words.SendRedeliver consumer ids) id c p s h e = absurd (none_some h)
claimed_send (words.CloseConsumerUnawaited consumer) id c p s h e = absurd (none_some h)
claimed_send _ id c p s h e = absurd (replies_not id c p s h e)

-- ALONG A LOG

pub record Split (x : Entry) (log : List Entry) : Type 0 where
  pub newer : List Entry
  pub older : List Entry
  pub is_it : log ≡ newer ++ x ∷ older

pub split_in : (x : Entry) (log : List Entry) → In x log → Split x log
split_in x [] h = absurd h
split_in x (e ∷ log) (inl q) = record { newer = []; older = log; is_it = ap (λ y. y ∷ log) (sym q) }
split_in x (e ∷ log) (inr h) = let k = split_in x log h in record { newer = e ∷ k.newer; older = k.older; is_it = ap (λ y. e ∷ y) k.is_it }

pub run_behind : (o : Options) (newer older : List Entry) → IsRun o (newer ++ older) → IsRun o older
run_behind o [] older run = run
run_behind o (Begins e ∷ newer) older run = run_behind o newer older run.0
run_behind o (Then a ∷ newer) older run = run_behind o newer older run.0

pub count_behind : (t : ℕ) (newer older : List Entry) → counted (start_of t) older ≤ counted (start_of t) (newer ++ older)
count_behind t [] older = omega arith
count_behind t (Begins e ∷ newer) older = count_behind t newer older
count_behind t (Then a ∷ newer) older =
    let k : counted (start_of t) older ≤ counted (start_of t) (newer ++ older) = count_behind t newer older in
    let s : ℕ = start_of t a in
    let g : counted (start_of t) older ≤ counted (start_of t) (newer ++ older) + s = omega (arith, k) in g

-- one that started before is the same still
pub started_behind : (t : ℕ) (p : Procedure) (newer older : List Entry) → 1 ≤ counted (start_of t) older → counted (start_of t) (newer ++ older) ≤ 1 →
    started (Call t) (newer ++ older) ≡ started (Call t) older
started_behind t p [] older b c = refl
started_behind t p (Begins e ∷ newer) older b c = started_behind t p newer older b c
started_behind t p (Then (Starts who q) ∷ newer) older b c = elim (cases_Bool (is_same (Call t) who)) [
  | inl e ↦
      (let one : start_of t (Starts who q) ≡ 1 = ap (λ x. cond x 1 0) e in
      let k : counted (start_of t) older ≤ counted (start_of t) (newer ++ older) = count_behind t newer older in
      let d : counted (start_of t) (newer ++ older) + start_of t (Starts who q) ≤ 1 = c in
      absurd (let no : ⊥ = omega (arith, b, one, k, d) in no))
  | inr e ↦
      (let zero : start_of t (Starts who q) ≡ 0 = ap (λ x. cond x 1 0) e in
      let d : counted (start_of t) (newer ++ older) + start_of t (Starts who q) ≤ 1 = c in
      rw e (started_behind t p newer older b (omega (arith, zero, d))))
]
started_behind t p (Then a ∷ newer) older b c =
    started_behind t p newer older b (let s : ℕ = start_of t a in let d : counted (start_of t) (newer ++ older) + s ≤ 1 = c in omega (arith, d))

-- one that does something has begun
pub acts_begun : (o : Options) (older : List Entry) (t : ℕ) (action : Action) → IsRun o (Then (Does (Call t) action) ∷ older) → 1 ≤ counted (start_of t) older
acts_begun o older t action run = elim (does_from o older (Call t) action run) [
  | inl b ↦
      subst (λ l. 1 ≤ counted (start_of t) l) (sym b.is_there)
      (let one : start_of t (Starts (Call t) b.procedure) ≡ 1 = ap (λ x. cond x 1 0) (self_same t) in
      let g : 1 ≤ counted (start_of t) b.older + start_of t (Starts (Call t) b.procedure) = omega (arith, one) in g)
  | inr l ↦
      subst (λ x. 1 ≤ counted (start_of t) x) (sym l.is_there)
      (let k : 1 ≤ counted (start_of t) l.older = stood_begun o l.older t l.before l.stood in let g : 1 ≤ counted (start_of t) l.older + 0 = omega
      (arith, k) in g)
]

-- an entry of this step, with those before it
in_step : (P : Entry → List Entry → Type 0) (log : List Entry) → InThisStep P log →
    (e : Entry) × (older : List Entry) × P e older × ((x : Entry) → In x older → In x log)
in_step P [] h = absurd h
in_step P (Begins e ∷ log) h = (Begins e, log, h, λ x i. inr i)
in_step P (Then a ∷ log) (inl h) = (Then a, log, h, λ x i. inr i)
in_step P (Then a ∷ log) (inr h) = let k = in_step P log h in (k.0, k.1, k.2, λ x i. inr (k.3 x i))

-- the message whose receipt this is
pub record IsSentFor (B : Words → Type 0) (k : Option RequestKey) : Type 0 where
  pub producer : ℕ
  pub sequence : ℕ
  pub name : List ℕ
  pub message : ProducerMessageValues
  pub block : Bool
  pub listed : B (words.Send producer name sequence message block)
  pub bears : k ≡ Some (keys.ProducerSend producer sequence)

sent_for : (B : Words → Type 0) (m : MessageValues) (b : BodyValues) (a : Awaited) (request : Words) (id : ℕ) (c : Claim) →
    m.command.body ≡ Some b → b.number ≡ 7 → answers m a ≡ true → claim id request ≡ Some c → c.awaits ≡ a → B request → IsSentFor B (key m)
sent_for B m b a request id c e n answered is awaits i =
    let q = receipt_of m b a e n answered in
    let x = claimed_send request id c q.producer q.sequence is (awaits ∙ q.is_it) in
    record {
      producer = q.producer;
      sequence = q.sequence;
      name = x.name;
      message = x.message;
      block = x.block;
      listed = subst B x.is_it i;
      bears = q.bears;
    }

-- along the logs that are so, each of which behind one that is
module _ (o : Options) (P : List Entry → Type 0) (B : List Entry → (link : ℕ) → Who → Words → Type 0)
    (older : (e : Entry) (log : List Entry) → P (e ∷ log) → P log)
    (more : (e : Entry) (log : List Entry) → P (e ∷ log) → (l : ℕ) (seat : Seat) → (view o log).links.live l ≡ Some seat → (p : ℕ) (w : Who) →
    seat.askers p ≡ Some w → (r : Words) → B log l w r → B (e ∷ log) l w r)
    (new : (log : List Entry) (l : ℕ) (w : Who) (r : Words) → B (Then (Does w (Ask l r)) ∷ log) l w r) where
  sits : (log : List Entry) → P log → (l : ℕ) → SitsAt (B log l) ((view o log).links.live l)
  sits [] ok l = tt
  sits (Begins e ∷ log) ok l =
      begun_sits o log e l (B (Begins e ∷ log) l)
      (sits_more (B log l) (B (Begins e ∷ log) l) ((view o log).links.live l) (λ seat h p w r i k. more (Begins e) log ok l seat h p w i r k)
      (sits log (older (Begins e) log ok) l))
  sits (Then a ∷ log) ok l =
      after_sits o log a l (B (Then a ∷ log) l) (λ w r is. subst (λ (x : Act). B (Then x ∷ log) l w r) (sym is) (new log l w r))
      (sits_more (B log l) (B (Then a ∷ log) l) ((view o log).links.live l) (λ seat h p w r i k. more (Then a) log ok l seat h p w i r k)
      (sits log (older (Then a) log ok) l))

  -- what settles was asked for
  replied_for : (log : List Entry) → P log → (who : Who) (l : ℕ) (seat : Seat) (ps : List ℕ) (m : MessageValues) (place : ℕ) →
      (view o log).links.live l ≡ Some seat → came seat.seen ≡ Settles ps m → In place ps → seat.askers place ≡ Some who →
      (a : Awaited) × (answers m a ≡ true) × Awaits (B log l who) a
  replied_for log ok who l seat ps m place h c i w =
      let k : SitsAt (B log l) (Some seat) = subst (SitsAt (B log l)) h (sits log ok l) in
      let these : ps ≡ places (settled_by m seat.seen) = settles_these seat.seen.stage (front seat.seen.unread) seat.seen ps m c in
      let s = settled_one (Awaiting (B log l)) seat.askers m place seat.seen.waits.waiting k.waiting (subst (In place) these i) in
      (s.awaits, s.answered, s.known_of who w)

  replied_send : (log : List Entry) → P log → (who : Who) (l : ℕ) (seat : Seat) (ps : List ℕ) (m : MessageValues) (place : ℕ) (b : BodyValues) →
      (view o log).links.live l ≡ Some seat → came seat.seen ≡ Settles ps m → In place ps → seat.askers place ≡ Some who → m.command.body ≡ Some b →
      b.number ≡ 7 → IsSentFor (B log l who) (key m)
  replied_send log ok who l seat ps m place b live c i w e n =
      let f = replied_for log ok who l seat ps m place live c i w in
      sent_for (B log l who) m b f.0 f.2.0 f.2.1 f.2.2 e n f.1 f.2.3 f.2.4 f.2.5

  pub receipt_so : (log : List Entry) → P log → (who : Who) (r : Reply) (e : Entry) → Cause o who (outcome.Replied r) e log →
      is_body 7 r.content.body ≡ true → (l : ℕ) × IsSentFor (B log l who) r.content.key
  receipt_so log ok who r e c body = by c.0 c.1 c.2 c.3 c.4 c.6 c.7 c.8 c.9 c.10
    where
      by : (l : ℕ) (seat : Seat) (ps : List ℕ) (m : MessageValues) (place : ℕ) → (view o log).links.live l ≡ Some seat →
          came seat.seen ≡ Settles ps m → In place ps → seat.askers place ≡ Some who → r ≡ read m → (l : ℕ) × IsSentFor (B log l who) r.content.key
      by l seat ps m place live settles i w is =
          let b = body_seven m m.command.body refl (subst (λ y. is_body 7 y.content.body ≡ true) is body) in
          let k : r.content.key ≡ key m = ap (λ y. y.content.key) is ∙ key_of_read m m.command.body refl in
          (l, subst (IsSentFor (B log l who)) (sym k) (replied_send log ok who l seat ps m place b.0 live settles i w b.1 b.2))

-- it asked for this somewhere in a log
abbrev Asked : List Entry → (link : ℕ) → Who → Words → Type 0
Asked log l w r = In (Then (Does w (Ask l r))) log

receipt_for : (o : Options) (older : List Entry) (who : Who) (r : Reply) (e : Entry) → Cause o who (outcome.Replied r) e older →
    is_body 7 r.content.body ≡ true → (l : ℕ) × IsSentFor (Asked older l who) r.content.key
receipt_for o older who r e c body =
    receipt_so o (λ log. Unit {0}) Asked (λ e log ok. tt) (λ e log ok l seat h p w i r k. inr k) (λ log l w r. inl refl) older tt who r e c body

-- a message that a send asked for is of its errand
sent_own : (o : Options) (log : List Entry) (t l n s : ℕ) (name : List ℕ) (message : ProducerMessageValues) (block : Bool) (w : Ways) (e : Errand)
    (share : Option Share) (m : ProducerMessageValues) → IsRun o log → In (Then (Does (Call t) (Ask l (words.Send n name s message block)))) log →
    started (Call t) log ≡ Some (procedure.Send w e share m) → (n ≡ e.producer) × (block ≡ e.block)
sent_own o log t l n s name message block w e share m run i h = by k.newer k.older k.is_it
  where
    k : Split (Then (Does (Call t) (Ask l (words.Send n name s message block)))) log
    k = split_in (Then (Does (Call t) (Ask l (words.Send n name s message block)))) log i

    by : (newer older : List Entry) → log ≡ newer ++ Then (Does (Call t) (Ask l (words.Send n name s message block))) ∷ older →
        (n ≡ e.producer) × (block ≡ e.block)
    by newer older there =
        let x : Entry = Then (Does (Call t) (Ask l (words.Send n name s message block))) in
        let run2 : IsRun o (newer ++ x ∷ older) = subst (IsRun o) there run in
        let run3 : IsRun o (x ∷ older) = run_behind o newer (x ∷ older) run2 in
        let once : counted (start_of t) (newer ++ x ∷ older) ≤ 1 = (ends_once_lem o (newer ++ x ∷ older) t run2).0 in
        let begun : 1 ≤ counted (start_of t) older = acts_begun o older t (Ask l (words.Send n name s message block)) run3 in
        let more : 1 ≤ counted (start_of t) older + 0 = omega (arith, begun) in
        let same : started (Call t) older ≡ Some (procedure.Send w e share m) =
        sym (started_behind t (procedure.Send w e share m) newer (x ∷ older) more once) ∙ ap (started (Call t)) (sym there) ∙ h in
        let f = frames_are_of_their_sends_lem o older t l n s name message block w e share m run3 same in
        (f.3, f.4)

pub receipts_are_own_lem : ReceiptsAreOwn
receipts_are_own_lem o log t r w e share m run h body = by step.1 step.3 (receipt_for o step.1 (Call t) r step.0 step.2 body)
  where
    step : (x : Entry) × (older : List Entry) × Cause o (Call t) (outcome.Replied r) x older × ((y : Entry) → In y older → In y log)
    step = in_step (Cause o (Call t) (outcome.Replied r)) log (outcomes_are_caused_lem o log (Call t) (outcome.Replied r) run)

    by : (older : List Entry) → ((y : Entry) → In y older → In y log) → (l : ℕ) × IsSentFor (Asked older l (Call t)) r.content.key → (l s : ℕ) × (name : List ℕ)
        × (sent : ProducerMessageValues) × In (Then (Does (Call t) (Ask l (words.Send e.producer name s sent e.block)))) log
        × (r.content.key ≡ Some (keys.ProducerSend e.producer s))
    by older more k =
        let l : ℕ = k.0 in
        let x = k.1 in
        let i : In (Then (Does (Call t) (Ask l (words.Send x.producer x.name x.sequence x.message x.block)))) log =
        more (Then (Does (Call t) (Ask l (words.Send x.producer x.name x.sequence x.message x.block)))) x.listed in
        let own = sent_own o log t l x.producer x.sequence x.name x.message x.block w e share m run.0 i h in
        let j : In (Then (Does (Call t) (Ask l (words.Send x.producer x.name x.sequence x.message e.block)))) log =
        subst (λ y. In (Then (Does (Call t) (Ask l (words.Send x.producer x.name x.sequence x.message y)))) log) own.1 i in (
          l,
          x.sequence,
          x.name,
          x.message,
          subst (λ n. In (Then (Does (Call t) (Ask l (words.Send n x.name x.sequence x.message e.block)))) log) own.0 j,
          x.bears ∙ ap (λ n. Some (keys.ProducerSend n x.sequence)) own.0,
        )
