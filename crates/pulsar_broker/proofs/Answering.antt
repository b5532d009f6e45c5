-- What is kept as a frame is answered: who is due, and who is listed.
use Rattle.std.proofs.Common.{◌≡◌, ◌∙◌, sym, ap, refl, subst, ℕ, ℤ, ◌+◌, ◌<◌, ◌≤◌, ◌==◌, ◌&&◌, ◌||◌, not, nat_lt, Bool, true, false, cond, List, [], ◌∷◌, ◌++◌, bytes_eq, length, Option, Some, None, unwrap_or, arith}
use Rattle.std.proofs.lemmas.Bool.{eqb-true, false≢true, le-ltb, lt-ltb, ltb-false, ltb-true}
use Rattle.std.proofs.lemmas.Bool.Decides.{nat_tests}
use Rattle.std.proofs.lemmas.Slice.Eq.{bytes_eq-Decides}
use Rattle.std.specs.List.Sorted.{IsStrictlySortedBy}
use Rattle.std.specs.Ordering.{nat_cmp}
use Rattle.pulsar_frame.specs.Payload.{PayloadValues}
use Rattle.std.proofs.lemmas.List.{append-nil, append_assoc}
use Rattle.std.proofs.lemmas.List.Concat.{flat_map-append}
use Rattle.std.specs.List.{AllByRecursion, flat_map, range_with_len}
use Rattle.pulsar_frame.specs.Message.{MessageValues}
use Rattle.pulsar_broker.proofs.Turns.{all_served, due_alone}
use Rattle.pulsar_broker.specs.History.{bytes_for}
use Rattle.pulsar_broker.specs.declared.outbox.Outbox.{Outbox}
use Rattle.pulsar_broker.specs.declared.tables.Tables.{Tables}
use Rattle.std.specs.BTreeMap.{BTreeMap}
use Rattle.std.specs.Option.{is_some, option_map}
use Rattle.std.specs.declared.alloc.Global.{Global}
use Rattle.std.specs.declared.string.String.{String}
use Rattle.pulsar_broker.specs.Answers.{receipt}
use Rattle.pulsar_broker.specs.Asked.{Grants}
use Rattle.pulsar_broker.specs.declared.consumer.Consumer.{Consumer as Consumer'}
use Rattle.pulsar_broker.specs.declared.topic.Topic.{Topic as Topic'}
use Rattle.pulsar_broker.proofs.Serving.{set_same_at}
use Rattle.pulsar_broker.specs.Kept.{AreDue, AreListed, IsAnswered, IsTurned, consumers_in, seats_in, topics_in, IsKept, lists, owed_on, state_in, is_due, is_due_at, is_due_in, is_listed, is_on}
use Rattle.pulsar_broker.specs.State.{Consumer, Owed, Served, State, Turn, serve, serve_all, serve_consumer, serve_if, serving_of, answer, answer_send, granted_at, owed_to, granted_more, joined, joining, opened, set_at, set_at_pair, set_named, stored, with_consumer, with_producer, with_topic}
use Rattle.pulsar_broker.proofs.Due.{still_done_at}

pub nobody_due : (s : State) → ((seat : ℕ) → is_due_in s seat ≡ false) → AreDue [] s
unfolding IsStrictlySortedBy
nobody_due s served = record { others = λ seat h. served seat; ordered = tt; taken = λ seat h. absurd (false≢true h) }

own : (k : ℕ) → (k == k) ≡ true
own k = grind (arith, nat_tests)

differs : (a b : ℕ) → (a == b) ≡ false → (b == a) ≡ false
differs a b h = grind (arith, nat_tests)

some_seat : (o : Option Consumer) (b : Bool) → (c : Consumer) → o ≡ Some c → (b ≡ false → o ≡ None) → b ≡ true
some_seat o true c is none = refl
some_seat o false c is none = absurd (some_none c (sym is ∙ none refl))
  where
    some_none : (x : Consumer) → ◌≡◌ {A = Option Consumer} (Some x) None → ⊥
    some_none x e = absurd cc

-- A CONSUMER IS GRANTED MORE

module _ (lists : List ℕ → ℕ → Bool) (s : State) (seat permits : ℕ) (c : Consumer) (found : s.consumers seat ≡ Some c) where
  granted : State
  granted = with_consumer seat (Some (granted_more permits c)) s

  pub granted_due : ((k : ℕ) → is_due_in s k ≡ false) → AreListed lists s → AreDue (seat ∷ []) (with_consumer seat (Some (granted_more permits c)) s)
  unfolding IsStrictlySortedBy
  granted_due served right = record {
    others = λ k h. by k (k == seat) refl h;
    ordered = (tt, tt);
    taken = λ k h. some_seat (s.consumers k) (nat_lt k s.seats) c (ap s.consumers (sym (eqb-true seat k (only k (seat == k) h))) ∙ found) (right.seated k);
  }
    where
      only : (k : ℕ) (b : Bool) → (b || false) ≡ true → b ≡ true
      only k true h = refl
      only k false h = absurd (false≢true h)

      by : (k : ℕ) (b : Bool) → (k == seat) ≡ b → ((seat == k) || false) ≡ false → is_due_at (cond b (Some (granted_more permits c)) (s.consumers k)) s.topics ≡ false
      by k true e h = absurd (false≢true (sym h ∙ ap (λ x. x || false) (ap (λ n. seat == n) (eqb-true k seat e) ∙ own seat)))
      by k false e h = served k

  pub granted_right : AreListed lists s → AreListed lists (with_consumer seat (Some (granted_more permits c)) s)
  granted_right right = record {
    listed = λ name k. right.listed name k ∙ sym (by name k (k == seat) refl);
    seated = λ k h. none k (k == seat) refl (right.seated k h);
  }
    where
      by : (name : List ℕ) (k : ℕ) (b : Bool) → (k == seat) ≡ b → is_on name (cond b (Some (granted_more permits c)) (s.consumers k)) ≡ is_on name (s.consumers k)
      by name k true e = sym (ap (is_on name) (ap s.consumers (eqb-true k seat e) ∙ found))
      by name k false e = refl

      none : (k : ℕ) (b : Bool) → (k == seat) ≡ b → s.consumers k ≡ None → cond b (Some (granted_more permits c)) (s.consumers k) ≡ None
      none k true e h = absurd (false≢true (some_seat (s.consumers k) false c (ap s.consumers (eqb-true k seat e) ∙ found) (λ x. h)))
      none k false e h = h

-- A CONSUMER LEAVES

module _ (lists new : List ℕ → ℕ → Bool) (s : State) (seat : ℕ) (c : Consumer) (seat_of : ℕ → ℕ → Option ℕ) (found : s.consumers seat ≡ Some c)
    (is : (name : List ℕ) (k : ℕ) → new name k ≡ (lists name k && not (bytes_eq c.topic name && (k == seat)))) where
  abbrev pub behind_it : State
  behind_it = record s { consumers = set_at seat None s.consumers; seat_of = seat_of }

  pub left_served : ((k : ℕ) → is_due_in s k ≡ false) → (k : ℕ) → is_due_in behind_it k ≡ false
  left_served served k = by (k == seat)
    where
      by : (b : Bool) → is_due_at (cond b None (s.consumers k)) s.topics ≡ false
      by true = refl
      by false = served k

  pub left_right : AreListed lists s → AreListed new behind_it
  left_right right = record {
    listed = λ name k. is name k ∙ ap (λ b. b && not (bytes_eq c.topic name && (k == seat))) (right.listed name k) ∙ by name k (k == seat) refl;
    seated = λ k h. none k (k == seat) (right.seated k h);
  }
    where
      none : (k : ℕ) (b : Bool) → s.consumers k ≡ None → cond b None (s.consumers k) ≡ None
      none k true h = refl
      none k false h = h

      gone : (b : Bool) → (b && not (b && true)) ≡ false
      gone true = refl
      gone false = refl

      stays : (x b : Bool) → (x && not (b && false)) ≡ x
      stays true true = refl
      stays true false = refl
      stays false b = refl

      by : (name : List ℕ) (k : ℕ) (b : Bool) → (k == seat) ≡ b →
          (is_on name (s.consumers k) && not (bytes_eq c.topic name && b)) ≡ is_on name (cond b None (s.consumers k))
      by name k true e = ap (λ o. is_on name o && not (bytes_eq c.topic name && true)) (ap s.consumers (eqb-true k seat e) ∙ found) ∙ gone (bytes_eq c.topic name)
      by name k false e = stays (is_on name (s.consumers k)) (bytes_eq c.topic name)

-- A CONSUMER TAKES A SEAT

module _ (lists new : List ℕ → ℕ → Bool) (s : State) (link number : ℕ) (topic subscription : List ℕ) (position : Option ℤ)
    (is : (name : List ℕ) (k : ℕ) → new name k ≡ (lists name k || (bytes_eq topic name && (k == s.seats)))) where
  start_at : (o : Option ℕ) (start : ℕ) → unwrap_or o 0 ≤ unwrap_or o start
  start_at None start = omega arith
  start_at (Some n) start = omega arith

  pub joined_served : ((k : ℕ) → is_due_in s k ≡ false) → (k : ℕ) → is_due_in (joined link number topic subscription position s) k ≡ false
  joined_served served k = by (k == s.seats)
    where
      by : (b : Bool) → is_due_at (cond b (Some (joining link number topic subscription)) (s.consumers k)) (set_named topic (opened subscription position (s.topics topic)) s.topics) ≡ false
      by true = refl
      by false = still_done_at (s.consumers k) s.topics topic subscription _ (start_at ((s.topics topic).cursors subscription) _) (served k)

  pub joined_right : AreListed lists s → AreListed new (joined link number topic subscription position s)
  joined_right right = record {
    listed = λ name k. is name k ∙ ap (λ b. b || (bytes_eq topic name && (k == s.seats))) (right.listed name k) ∙ by name k (k == s.seats) refl;
    seated = λ k h. none k (k == s.seats) refl h;
  }
    where
      adds : (x : Bool) → (false || (x && true)) ≡ x
      adds true = refl
      adds false = refl

      stays : (x b : Bool) → (x || (b && false)) ≡ x
      stays true b = refl
      stays false true = refl
      stays false false = refl

      free : s.consumers s.seats ≡ None
      free = right.seated s.seats (le-ltb s.seats s.seats (omega arith))

      by : (name : List ℕ) (k : ℕ) (b : Bool) → (k == s.seats) ≡ b →
          (is_on name (s.consumers k) || (bytes_eq topic name && b)) ≡ is_on name (cond b (Some (joining link number topic subscription)) (s.consumers k))
      by name k true e = ap (λ o. is_on name o || (bytes_eq topic name && true)) (ap s.consumers (eqb-true k s.seats e) ∙ free) ∙ adds (bytes_eq topic name)
      by name k false e = stays (is_on name (s.consumers k)) (bytes_eq topic name)

      none : (k : ℕ) (b : Bool) → (k == s.seats) ≡ b → nat_lt k (s.seats + 1) ≡ false → cond b (Some (joining link number topic subscription)) (s.consumers k) ≡ None
      none k true e h = absurd (false≢true (sym h ∙ lt-ltb k (s.seats + 1) (let same = eqb-true k s.seats e in omega (arith, same))))
      none k false e h = right.seated k (le-ltb k s.seats (let more = ltb-false k (s.seats + 1) h in omega (arith, more)))

-- A MESSAGE IS STORED

module _ (lists : List ℕ → ℕ → Bool) (s : State) (topic : List ℕ) (payload : PayloadValues) (due : List ℕ) (has : (k : ℕ) → is_listed k due ≡ lists topic k) where
  swapped : (a b : List ℕ) → bytes_eq a b ≡ false → bytes_eq b a ≡ false
  swapped a b h = by (bytes_eq b a) refl
    where
      by : (x : Bool) → bytes_eq b a ≡ x → x ≡ false
      by true e = absurd (false≢true (sym h ∙ (bytes_eq-Decides a b).1 (sym ((bytes_eq-Decides b a).0 e))))
      by false e = refl

  elsewhere : (o : Option Consumer) → is_on topic o ≡ false → is_due_at o s.topics ≡ false → is_due_at o (set_named topic (stored payload (s.topics topic)) s.topics) ≡ false
  elsewhere None on h = refl
  elsewhere (Some c) on h = ap (λ b. is_due c (cond b (stored payload (s.topics topic)) (s.topics c.topic))) (swapped c.topic topic on) ∙ h

  there : (o : Option Consumer) (b : Bool) → is_on topic o ≡ true → (b ≡ false → o ≡ None) → b ≡ true
  there None b on none = absurd (false≢true on)
  there (Some c) b on none = some_seat (Some c) b c refl none

  pub stored_due : ((k : ℕ) → is_due_in s k ≡ false) → IsStrictlySortedBy nat_cmp due → AreListed lists s → AreDue due (with_topic topic (stored payload (s.topics topic)) s)
  stored_due served sorted right = record {
    others = λ k h. elsewhere (s.consumers k) (sym (right.listed topic k) ∙ sym (has k) ∙ h) (served k);
    ordered = sorted;
    taken = λ k h. there (s.consumers k) (nat_lt k s.seats) (sym (right.listed topic k) ∙ sym (has k) ∙ h) (right.seated k);
  }

-- WHAT A CALL HAS ANSWERED

pub one_frame : (before after : ℕ → List ℕ) (o : Owed) → ((l : ℕ) → after l ≡ before l ++ bytes_for l o) → (l : ℕ) → after l ≡ before l ++ flat_map (bytes_for l) (o ∷ [])
one_frame before after o is l = is l ∙ ap (λ xs. before l ++ xs) (sym (append-nil (bytes_for l o)))

-- nobody is due behind it
pub answered_so : (turn : Turn) (old new : Tables) (before after : Outbox) (seats : List ℕ) → seats ≡ [] → state_in new ≡ turn.state →
    ((l : ℕ) → owed_on after l ≡ owed_on before l ++ flat_map (bytes_for l) turn.given) → (IsKept old → IsKept new) → IsAnswered turn old new before after seats
answered_so turn old new before after seats none state given kept =
    record {
      state = state;
      given = given;
      due = λ h. subst (λ xs. AreDue xs (state_in new)) (sym none) (nobody_due (state_in new) (kept h).served);
      listed = λ h. (kept h).listed;
    }

-- producers are others, and all else is as it was
pub producers_set : (s : State) (link number : ℕ) (topic : Option (List ℕ)) (producers : ℕ → ℕ → Option (List ℕ)) →
    ((l n : ℕ) → producers l n ≡ set_at_pair link number topic s.producers l n) → record s { producers = producers } ≡ with_producer link number topic s
producers_set s link number topic producers is i = record s { producers = λ l n. is l n i }

-- one has subscribed
pub joined_kept : (old new : Tables) (link number : ℕ) (topic subscription : List ℕ) (position : Option ℤ) →
    state_in new ≡ joined link number topic subscription position (state_in old) →
    ((name : List ℕ) (k : ℕ) → lists new.topics name k ≡ (lists old.topics name k || (bytes_eq topic name && (k == old.seats)))) →
    IsKept old → IsKept new
joined_kept old new link number topic subscription position is listed h =
    record {
      served = λ k. ap (λ x. is_due_in x k) is ∙ joined_served (lists old.topics) (lists new.topics) (state_in old) link number topic subscription position listed h.served k;
      listed = subst (AreListed (lists new.topics)) (sym is)
          (joined_right (lists old.topics) (lists new.topics) (state_in old) link number topic subscription position listed h.listed);
    }

-- nothing is given, and nothing changes
pub unanswered : (turn : Turn) (t : Tables) (out : Outbox) (seats : List ℕ) → seats ≡ [] → turn ≡ record { state = state_in t; given = [] } → IsAnswered turn t t out out seats
unanswered turn t out seats none is =
    answered_so turn t t out out seats none (sym (ap (λ (x : Turn). x.state) is))
    (λ l. sym (append-nil (owed_on out l)) ∙ sym (ap (λ (x : Turn). owed_on out l ++ flat_map (bytes_for l) x.given) is)) (λ h. h)

-- a message was stored
pub sent_so : (old : Tables) (topics : BTreeMap (String Global) Topic') (link producer sequence place : ℕ) (topic : List ℕ) (payload : PayloadValues) (before after : Outbox) (seats : List ℕ) →
    place ≡ length (topics_in old.topics topic).messages →
    ((m : List ℕ) → topics_in topics m ≡ set_named topic (stored payload (topics_in old.topics topic)) (topics_in old.topics) m) →
    ((m : List ℕ) (k : ℕ) → lists topics m k ≡ lists old.topics m k) →
    ((k : ℕ) → is_listed k seats ≡ lists old.topics topic k) → IsStrictlySortedBy nat_cmp seats →
    ((l : ℕ) → owed_on after l ≡ owed_on before l ++ bytes_for l (owed_to link (receipt producer sequence place))) →
    IsAnswered (answer_send link producer sequence (Some payload) (Some topic) (state_in old)) old (record old { topics = topics }) before after seats
sent_so old topics link producer sequence place topic payload before after seats at is listed has sorted gives =
    record {
      state = state;
      given = one_frame (owed_on before) (owed_on after) (owed_to link (receipt producer sequence (length (topics_in old.topics topic).messages)))
          (λ l. gives l ∙ ap (λ n. owed_on before l ++ bytes_for l (owed_to link (receipt producer sequence n))) at);
      due = λ h. subst (AreDue seats) (sym state) (stored_due (lists old.topics) (state_in old) topic payload seats has h.served sorted h.listed);
      listed = λ h. record { listed = λ m k. listed m k ∙ h.listed.listed m k; seated = h.listed.seated };
    }
  where
    state : state_in (record old { topics = topics }) ≡ with_topic topic (stored payload (topics_in old.topics topic)) (state_in old)
    state i = record (state_in old) { topics = λ m. is m i }

-- permits were granted to whoever has the seat
module _ (old : Tables) (consumers : BTreeMap ℕ Consumer') (url : List ℕ) (link number permits seat : ℕ) (payload : Option PayloadValues) (out : Outbox) (seats : List ℕ)
    (at : seats_in old.seat_of link number ≡ Some seat)
    (is : (k : ℕ) → consumers_in consumers k ≡ set_at seat (option_map (granted_more permits) (consumers_in old.consumers seat)) (consumers_in old.consumers) k) where
  granted_state : state_in (record old { consumers = consumers }) ≡ granted_at permits (seats_in old.seat_of link number) (state_in old)
  granted_state = (λ i. record (state_in old) { consumers = λ k. is k i }) ∙ sym (ap (λ o. granted_at permits o (state_in old)) at)

  pub granted_so : (o : Option Consumer) → consumers_in old.consumers seat ≡ o → is_some o ≡ true → seats ≡ seat ∷ [] →
      IsAnswered (answer url link payload (Grants number permits) (state_in old)) old (record old { consumers = consumers }) out out seats
  granted_so None found there one = absurd (false≢true there)
  granted_so (Some c) found there one =
      record {
        state = granted_state;
        given = λ l. sym (append-nil (owed_on out l));
        due = λ h. subst (λ xs. AreDue xs (state_in (record old { consumers = consumers }))) (sym one)
            (subst (AreDue (seat ∷ [])) (sym so) (granted_due (lists old.topics) (state_in old) seat permits c found h.served h.listed));
        listed = λ h. subst (AreListed (lists old.topics)) (sym so) (granted_right (lists old.topics) (state_in old) seat permits c found h.listed);
      }
    where
      so : state_in (record old { consumers = consumers }) ≡ with_consumer seat (Some (granted_more permits c)) (state_in old)
      so = (λ i. record (state_in old) { consumers = λ k. is k i }) ∙ ap (λ x. with_consumer seat (option_map (granted_more permits) x) (state_in old)) found

  pub granted_nobody : (o : Option Consumer) → consumers_in old.consumers seat ≡ o → is_some o ≡ false → seats ≡ [] →
      IsAnswered (answer url link payload (Grants number permits) (state_in old)) old (record old { consumers = consumers }) out out seats
  granted_nobody (Some c) found there none = absurd (false≢true (sym there))
  granted_nobody None found there none =
      answered_so (answer url link payload (Grants number permits) (state_in old)) old (record old { consumers = consumers }) out out seats none granted_state (λ l. sym (append-nil (owed_on out l)))
      (λ h. record { served = λ k. ap (λ x. is_due_in x k) so ∙ h.served k; listed = subst (AreListed (lists old.topics)) (sym so) h.listed })
    where
      so : state_in (record old { consumers = consumers }) ≡ state_in old
      so = (λ i. record (state_in old) { consumers = λ k. is k i }) ∙ ap (λ x. with_consumer seat (option_map (granted_more permits) x) (state_in old)) found
          ∙ ap (λ f. record (state_in old) { consumers = f }) (set_same_at seat None (consumers_in old.consumers) found)

-- no consumer has the number
pub granted_none : (old : Tables) (url : List ℕ) (link number permits : ℕ) (payload : Option PayloadValues) (out : Outbox) (seats : List ℕ) → seats_in old.seat_of link number ≡ None → seats ≡ [] →
    IsAnswered (answer url link payload (Grants number permits) (state_in old)) old old out out seats
granted_none old url link number permits payload out seats e none =
    unanswered (answer url link payload (Grants number permits) (state_in old)) old out seats none (ap (λ o. record { state = granted_at permits o (state_in old); given = [] }) e)

-- A FRAME WAS ANSWERED, AND THE CONSUMERS WERE SERVED

serve_keeps : (seat : ℕ) (s : State) → ((serve seat s).state.seats ≡ s.seats) × ((k : ℕ) (name : List ℕ) → is_on name ((serve seat s).state.consumers k) ≡ is_on name (s.consumers k))
    × ((k : ℕ) → s.consumers k ≡ None → (serve seat s).state.consumers k ≡ None)
serve_keeps seat s = by (s.consumers seat) refl
  where
    on_it : (o : Option Consumer) (k : ℕ) (c new : Consumer) → s.consumers seat ≡ Some c → new.topic ≡ c.topic → (b : Bool) → (k == seat) ≡ b → (name : List ℕ) → is_on name (cond b (Some new) (s.consumers k)) ≡ is_on name (s.consumers k)
    on_it o k c new found topic true e name = ap (λ t. bytes_eq t name) topic ∙ sym (ap (is_on name) (ap s.consumers (eqb-true k seat e) ∙ found))
    on_it o k c new found topic false e name = refl

    none_at : (k : ℕ) (c new : Consumer) → s.consumers seat ≡ Some c → (b : Bool) → (k == seat) ≡ b → s.consumers k ≡ None → cond b (Some new) (s.consumers k) ≡ None
    none_at k c new found true e h = absurd (false≢true (some_seat (s.consumers k) false c (ap s.consumers (eqb-true k seat e) ∙ found) (λ x. h)))
    none_at k c new found false e h = h

    served : (c : Consumer) (r : Served) (ms : List MessageValues) → s.consumers seat ≡ Some c →
        ((serve_if seat c r ms s).state.seats ≡ s.seats) × ((k : ℕ) (name : List ℕ) → is_on name ((serve_if seat c r ms s).state.consumers k) ≡ is_on name (s.consumers k))
        × ((k : ℕ) → s.consumers k ≡ None → (serve_if seat c r ms s).state.consumers k ≡ None)
    served c r [] found = (refl, λ k name. refl, λ k h. h)
    served c r (m ∷ ms) found = (refl, λ k name. on_it None k c (record c { spent = r.spent }) found refl (k == seat) refl name, λ k h. none_at k c (record c { spent = r.spent }) found (k == seat) refl h)

    by : (o : Option Consumer) → s.consumers seat ≡ o →
        ((serve_consumer seat o s).state.seats ≡ s.seats) × ((k : ℕ) (name : List ℕ) → is_on name ((serve_consumer seat o s).state.consumers k) ≡ is_on name (s.consumers k))
        × ((k : ℕ) → s.consumers k ≡ None → (serve_consumer seat o s).state.consumers k ≡ None)
    by None found = (refl, λ k name. refl, λ k h. h)
    by (Some c) found = served c (serving_of c (s.topics c.topic)) (serving_of c (s.topics c.topic)).messages found

-- those who are listed stay so
pub serving_listed : (lists : List ℕ → ℕ → Bool) (seats : List ℕ) (s : State) → AreListed lists s → AreListed lists (serve_all seats s).state
serving_listed lists [] s h = h
serving_listed lists (seat ∷ seats) s h =
    let keeps = serve_keeps seat s in
    serving_listed lists seats (serve seat s).state (record {
      listed = λ name k. h.listed name k ∙ sym (keeps.1 k name);
      seated = λ k e. keeps.2 k (h.seated k (sym (ap (λ n. nat_lt k n) keeps.0) ∙ e));
    })

listed_below : (n : ℕ) (due : List ℕ) → ((seat : ℕ) → is_listed seat due ≡ true → nat_lt seat n ≡ true) → AllByRecursion (λ k. (0 ≤ k) × (k < 0 + n)) due
listed_below n [] h = tt
listed_below n (k ∷ ks) h =
    ((omega arith, let lt = ltb-true k n (h k (ap (λ b. b || is_listed k ks) (own k))) in omega (arith, lt)), listed_below n ks (λ seat e. h seat (rest seat (k == seat) e)))
  where
    rest : (seat : ℕ) (b : Bool) → is_listed seat ks ≡ true → (b || is_listed seat ks) ≡ true
    rest seat true e = refl
    rest seat false e = e

-- all of it
pub turned : (t answered : Turn) (old middle new : Tables) (before between after : Outbox) (due : List ℕ) →
    IsAnswered answered old middle before between due →
    state_in new ≡ (serve_all due (state_in middle)).state →
    ((l : ℕ) → owed_on after l ≡ owed_on between l ++ flat_map (bytes_for l) (serve_all due (state_in middle)).given) →
    ((name : List ℕ) (k : ℕ) → lists new.topics name k ≡ lists middle.topics name k) →
    t ≡ record { state = (serve_all (range_with_len 0 answered.state.seats) answered.state).state; given = answered.given ++ (serve_all (range_with_len 0 answered.state.seats) answered.state).given } →
    IsKept old → IsTurned t old new before after
turned t answered old middle new before between after due is state given listed whole h =
    record {
      state = state ∙ sym (ap (λ (x : Turn). x.state) all) ∙ sym (ap (λ (x : Turn). x.state) whole);
      given = λ l. given l ∙ ap (λ xs. xs ++ flat_map (bytes_for l) (serve_all due (state_in middle)).given) (is.given l)
          ∙ append_assoc (owed_on before l) (flat_map (bytes_for l) answered.given) (flat_map (bytes_for l) (serve_all due (state_in middle)).given)
          ∙ ap (λ xs. owed_on before l ++ xs) (sym (flat_map-append (bytes_for l) answered.given (serve_all due (state_in middle)).given)
          ∙ ap (λ (x : Turn). flat_map (bytes_for l) (answered.given ++ x.given)) (sym all))
          ∙ sym (ap (λ (x : Turn). owed_on before l ++ flat_map (bytes_for l) x.given) whole);
      kept = record {
        served = λ k. ap (λ x. is_due_in x k) state ∙ all_served due (state_in middle) may.others k;
        listed = record {
          listed = λ name k. listed name k ∙ right.listed name k ∙ ap (λ (x : State). is_on name (x.consumers k)) (sym state);
          seated = λ k e. ap (λ (x : State). x.consumers k) state ∙ right.seated k (sym (ap (λ (x : State). nat_lt k x.seats) state) ∙ e);
        };
      };
    }
  where
    may : AreDue due (state_in middle)
    may = is.due h

    right : AreListed (lists middle.topics) (serve_all due (state_in middle)).state
    right = serving_listed (lists middle.topics) due (state_in middle) (is.listed h)

    all : serve_all (range_with_len 0 answered.state.seats) answered.state ≡ serve_all due (state_in middle)
    all = ap (λ (x : State). serve_all (range_with_len 0 x.seats) x) (sym is.state)
        ∙ due_alone (state_in middle).seats 0 due (state_in middle) (listed_below (state_in middle).seats due may.taken) may.ordered may.others
