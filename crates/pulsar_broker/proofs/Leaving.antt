-- Who leaves with a link.
use Rattle.std.proofs.Common.{◌≡◌, ◌∙◌, inl, inr, sym, ap, refl, subst, ◌⊎◌, ℕ, ℤ, ◌+◌, ◌==◌, ◌&&◌, nat_lt, Bool, true, false, cond, List, [], ◌∷◌, Option, Some, None, arith}
use Rattle.std.proofs.lemmas.Bool.{eqb-true, false≢true, le-ltb, lt-ltb, ltb-false, ltb-true}
use Rattle.std.proofs.lemmas.Bool.Decides.{nat_tests}
use Rattle.std.specs.List.{range_with_len}
use Rattle.std.specs.Option.{option_map}
use Rattle.pulsar_frame.specs.Message.{MessageValues}
use Rattle.pulsar_frame.specs.Payload.{PayloadValues}
use Rattle.pulsar_broker.specs.Asked.{Asked, Connects, Pings, CountsPartitions, LooksUp, MakesProducer, Sends, Subscribes, Grants, Acknowledges, ClosesProducer, ClosesConsumer, AsksElse, SaysElse, asked}
use Rattle.pulsar_broker.specs.History.{Act, Fed, Taken, Ended, ended_by, state, stream, turns}
use Rattle.pulsar_broker.specs.Kept.{AreNamed, IsNamed, name_of, name_of_another, names}
use Rattle.pulsar_broker.specs.Laws.{EndKeepsTopics, EndsAsIfClosed, close_each}
use Rattle.pulsar_broker.specs.State.{Consumer, Served, State, answer, answer_send, closed, granted_at, granted_more, joined, joining, leaves_seat, of_another, serve, serve_all, serve_consumer, serve_if, serving_of, set_at, set_at_pair, turn, with_producer, without, without_link}

-- WHAT LINKS HAVE BY NUMBER

-- what changes of a link does not count without it
pub without_set : {A : Type 0} (link number : ℕ) (x : Option A) (f g : ℕ → ℕ → Option A) → ((l n : ℕ) → g l n ≡ set_at_pair link number x f l n) →
    (l n : ℕ) → without_link link g l n ≡ without_link link f l n
without_set link number x f g is l n = by (l == link) refl
  where
    by : (b : Bool) → (l == link) ≡ b → cond b None (g l n) ≡ cond b None (f l n)
    by true e = refl
    by false e = is l n ∙ ap (λ b. cond (b && (n == number)) x (f l n)) e

-- and where it has nothing, nothing is left out
pub without_none : {A : Type 0} (link : ℕ) (f : ℕ → ℕ → Option A) → ((n : ℕ) → f link n ≡ None) → (l n : ℕ) → without_link link f l n ≡ f l n
without_none link f none l n = by (l == link) refl
  where
    by : (b : Bool) → (l == link) ≡ b → cond b None (f l n) ≡ f l n
    by true e = sym (ap (λ k. f k n) (eqb-true l link e) ∙ none n)
    by false e = refl

-- ENDING A LINK, STEP BY STEP

-- a producer that was closed before
pub produced_before : (link number : ℕ) (topic : Option (List ℕ)) (s : State) → without link (with_producer link number topic s) ≡ without link s
produced_before link number topic s i = record (without link s) { producers = λ l n. without_set link number topic s.producers (set_at_pair link number topic s.producers) (λ j k. refl) l n i }

nobody_else : (link : ℕ) (o : Option Consumer) → name_of_another link (option_map name_of o) ≡ None → of_another link o ≡ None
nobody_else link None h = refl
nobody_else link (Some c) h = by (c.link == link) h
  where
    by : (b : Bool) → cond b None (Some (name_of c)) ≡ None → cond b None (Some c) ≡ None
    by true e = refl
    by false e = absurd cc

-- a consumer that was closed before
pub closed_before : (link number : ℕ) (s : State) → IsNamed s → without link (closed link number s) ≡ without link s
closed_before link number s named = by (s.seat_of link number) refl
  where
    gone : (seat k : ℕ) → s.seat_of link number ≡ Some seat → (b : Bool) → (k == seat) ≡ b → of_another link (cond b None (s.consumers k)) ≡ of_another link (s.consumers k)
    gone seat k at true e = sym (nobody_else link (s.consumers k) (ap (λ j. name_of_another link (names s j)) (eqb-true k seat e) ∙ named.own link number seat at))
    gone seat k at false e = refl

    by : (o : Option ℕ) → s.seat_of link number ≡ o → without link (leaves_seat link number o s) ≡ without link s
    by None at = refl
    by (Some seat) at = λ i.
        record (without link s) {
          consumers = λ k. gone seat k at (k == seat) refl i;
          seat_of = λ l n. without_set link number None s.seat_of (set_at_pair link number None s.seat_of) (λ j k. refl) l n i;
        }

-- a link that has nothing
pub without_nothing : (link : ℕ) (s : State) → IsNamed s → ((n : ℕ) → s.producers link n ≡ None) → ((n : ℕ) → s.seat_of link n ≡ None) → without link s ≡ s
without_nothing link s named producers seats i =
    record s {
      producers = λ l n. without_none link s.producers producers l n i;
      consumers = λ k. stays k (s.consumers k) refl i;
      seat_of = λ l n. without_none link s.seat_of seats l n i;
    }
  where
    stays : (k : ℕ) (o : Option Consumer) → s.consumers k ≡ o → of_another link o ≡ o
    stays k None at = refl
    stays k (Some c) at = by (c.link == link) refl
      where
        none_some : (seat : ℕ) → ◌≡◌ {A = Option ℕ} None (Some seat) → ⊥
        none_some seat e = absurd cc

        by : (b : Bool) → (c.link == link) ≡ b → cond b None (Some c) ≡ Some c
        by true e =
            absurd (none_some k (sym (seats c.number) ∙ sym (ap (λ l. s.seat_of l c.number) (eqb-true c.link link e))
            ∙ named.found k c.link c.number (ap (option_map name_of) at)))
        by false e = refl

-- EACH CONSUMER IS FOUND BY ITS NAME

some_none : {A : Type 0} (x : A) → ◌≡◌ {A = Option A} None (Some x) → ⊥
some_none x e = absurd cc

own_seat : (k : ℕ) → (k == k) ≡ true
own_seat k = grind (arith, nat_tests)

inside : {A : Type 0} (x y : A) → ◌≡◌ {A = Option A} (Some x) (Some y) → x ≡ y
inside x y e = cc

named_same : (f g : ℕ → Option (ℕ × ℕ)) (seats : ℕ) (seat_of : ℕ → ℕ → Option ℕ) → ((k : ℕ) → g k ≡ f k) → AreNamed f seats seat_of → AreNamed g seats seat_of
named_same f g seats seat_of is named = subst (λ (x : ℕ → Option (ℕ × ℕ)). AreNamed x seats seat_of) (λ i k. sym (is k) i) named

-- a consumer gives way to one of its name
renamed : (s : State) (seat : ℕ) (o : Option Consumer) → option_map name_of o ≡ names s seat → (k : ℕ) → option_map name_of (set_at seat o s.consumers k) ≡ names s k
renamed s seat o same k = by (k == seat) refl
  where
    by : (b : Bool) → (k == seat) ≡ b → option_map name_of (cond b o (s.consumers k)) ≡ names s k
    by true e = same ∙ sym (ap (names s) (eqb-true k seat e))
    by false e = refl

-- a consumer leaves
module _ (f : ℕ → Option (ℕ × ℕ)) (seats : ℕ) (seat_of : ℕ → ℕ → Option ℕ) (link number seat : ℕ) (at : seat_of link number ≡ Some seat) where
  abbrev left_names : ℕ → Option (ℕ × ℕ)
  left_names k = cond (k == seat) None (f k)

  abbrev left_seats : ℕ → ℕ → Option ℕ
  left_seats = set_at_pair link number None seat_of

  still : (l n k : ℕ) (b : Bool) → cond b None (seat_of l n) ≡ Some k → seat_of l n ≡ Some k
  still l n k true e = absurd (some_none k e)
  still l n k false e = e

  left_named : AreNamed f seats seat_of → AreNamed left_names seats left_seats
  left_named named = record {
    free = λ k h. free k (k == seat) (named.free k h);
    found = λ k l n. found k l n (k == seat) refl;
    own = λ l n k h. own l k (k == seat) (named.own l n k (still l n k ((l == link) && (n == number)) h));
    taken = λ l n k h. named.taken l n k (still l n k ((l == link) && (n == number)) h);
  }
    where
      free : (k : ℕ) (b : Bool) → f k ≡ None → cond b None (f k) ≡ None
      free k true h = refl
      free k false h = h

      own : (l k : ℕ) (b : Bool) → name_of_another l (f k) ≡ None → name_of_another l (cond b None (f k)) ≡ None
      own l k true h = refl
      own l k false h = h

      there : (k l n : ℕ) → (k == seat) ≡ false → seat_of l n ≡ Some k → (a b : Bool) → (l == link) ≡ a → (n == number) ≡ b → cond (a && b) None (seat_of l n) ≡ Some k
      there k l n differ h false b ea eb = h
      there k l n differ h true false ea eb = h
      there k l n differ h true true ea eb =
          let same : seat_of l n ≡ Some seat = ap (λ j. seat_of j n) (eqb-true l link ea) ∙ ap (seat_of link) (eqb-true n number eb) ∙ at in
          absurd (false≢true (sym differ ∙ ap (λ j. j == seat) (inside k seat (sym h ∙ same)) ∙ own_seat seat))

      found : (k l n : ℕ) (b : Bool) → (k == seat) ≡ b → cond b None (f k) ≡ Some (l, n) → left_seats l n ≡ Some k
      found k l n true e h = absurd (some_none (l, n) h)
      found k l n false e h = there k l n e (named.found k l n h) (l == link) (n == number) refl refl

left_name : (k : ℕ) (b : Bool) (o : Option Consumer) → option_map name_of (cond b None o) ≡ cond b None (option_map name_of o)
left_name k true o = refl
left_name k false o = refl

pub closed_named : (link number : ℕ) (s : State) → IsNamed s → IsNamed (closed link number s)
closed_named link number s named = by (s.seat_of link number) refl
  where
    by : (o : Option ℕ) → s.seat_of link number ≡ o → IsNamed (leaves_seat link number o s)
    by None at = named
    by (Some seat) at =
        named_same (left_names (names s) s.seats s.seat_of link number seat at) (names (leaves_seat link number (Some seat) s)) s.seats (set_at_pair link number None s.seat_of)
        (λ k. left_name k (k == seat) (s.consumers k)) (left_named (names s) s.seats s.seat_of link number seat at named)

closed_none : (link number : ℕ) (s : State) → (closed link number s).seat_of link number ≡ None
closed_none link number s = by (s.seat_of link number) refl
  where
    by : (o : Option ℕ) → s.seat_of link number ≡ o → (leaves_seat link number o s).seat_of link number ≡ None
    by None at = at
    by (Some seat) at = ap (λ b. cond (b && (number == number)) None (s.seat_of link number)) (own_seat link) ∙ ap (λ b. cond b None (s.seat_of link number)) (own_seat number)

pub closed_producers : (link number : ℕ) (s : State) → (closed link number s).producers ≡ s.producers
closed_producers link number s = by (s.seat_of link number)
  where
    by : (o : Option ℕ) → (leaves_seat link number o s).producers ≡ s.producers
    by None = refl
    by (Some seat) = refl

-- a consumer takes a seat
module _ (f : ℕ → Option (ℕ × ℕ)) (seats : ℕ) (seat_of : ℕ → ℕ → Option ℕ) (link number : ℕ) (nobody : seat_of link number ≡ None) where
  abbrev joined_names : ℕ → Option (ℕ × ℕ)
  joined_names k = cond (k == seats) (Some (link, number)) (f k)

  abbrev joined_seats : ℕ → ℕ → Option ℕ
  joined_seats = set_at_pair link number (Some seats) seat_of

  -- a name and a seat stand for each other as before, or they are the new ones
  is_either : (l n k : ℕ) → joined_seats l n ≡ Some k → ((l ≡ link) × (k ≡ seats)) ⊎ (seat_of l n ≡ Some k)
  is_either l n k = by (l == link) (n == number) refl
    where
      by : (a b : Bool) → (l == link) ≡ a → cond (a && b) (Some seats) (seat_of l n) ≡ Some k → ((l ≡ link) × (k ≡ seats)) ⊎ (seat_of l n ≡ Some k)
      by true true e h = inl (eqb-true l link e, sym (inside seats k h))
      by true false e h = inr h
      by false b e h = inr h

  below : (k : ℕ) → nat_lt k seats ≡ true → ((k == seats) ≡ false) × (nat_lt k (seats + 1) ≡ true)
  below k h = (grind (arith, nat_tests, h), lt-ltb k (seats + 1) (let lt = ltb-true k seats h in omega (arith, lt)))

  joined_named : AreNamed f seats seat_of → AreNamed joined_names (seats + 1) joined_seats
  joined_named named = record {
    free = λ k h. free k (k == seats) refl h;
    found = λ k l n. found k l n (k == seats) refl;
    own = λ l n k h. elim (is_either l n k h) [ inl e ↦ own_new l k e.0 e.1 | inr e ↦ own_old l n k e ];
    taken = λ l n k h. elim (is_either l n k h) [ inl e ↦ at_end k e.1 | inr e ↦ (below k (named.taken l n k e)).1 ];
  }
    where
      free : (k : ℕ) (b : Bool) → (k == seats) ≡ b → nat_lt k (seats + 1) ≡ false → cond b (Some (link, number)) (f k) ≡ None
      free k true e h = absurd (false≢true (sym h ∙ lt-ltb k (seats + 1) (let same = eqb-true k seats e in omega (arith, same))))
      free k false e h = named.free k (le-ltb k seats (let more = ltb-false k (seats + 1) h in omega (arith, more)))

      at_end : (k : ℕ) → k ≡ seats → nat_lt k (seats + 1) ≡ true
      at_end k e = lt-ltb k (seats + 1) (omega (arith, e))

      own_new : (l k : ℕ) → l ≡ link → k ≡ seats → name_of_another l (joined_names k) ≡ None
      own_new l k el ek =
          ap (λ j. name_of_another l (cond (j == seats) (Some (link, number)) (f k))) ek
          ∙ ap (λ b. name_of_another l (cond b (Some (link, number)) (f k))) (own_seat seats)
          ∙ ap (λ j. cond (link == j) None (Some (link, number))) el
          ∙ ap (λ b. cond b None (Some (link, number))) (own_seat link)

      own_old : (l n k : ℕ) → seat_of l n ≡ Some k → name_of_another l (joined_names k) ≡ None
      own_old l n k e = ap (λ b. name_of_another l (cond b (Some (link, number)) (f k))) (below k (named.taken l n k e)).0 ∙ named.own l n k e

      new_seat : (k : ℕ) → k ≡ seats → joined_seats link number ≡ Some k
      new_seat k e =
          ap (λ b. cond (b && (number == number)) (Some seats) (seat_of link number)) (own_seat link)
          ∙ ap (λ b. cond b (Some seats) (seat_of link number)) (own_seat number)
          ∙ ap Some (sym e)

      there : (k l n : ℕ) → seat_of l n ≡ Some k → (a b : Bool) → (l == link) ≡ a → (n == number) ≡ b → cond (a && b) (Some seats) (seat_of l n) ≡ Some k
      there k l n h false b ea eb = h
      there k l n h true false ea eb = h
      there k l n h true true ea eb = absurd (some_none k (sym (ap (λ j. seat_of j n) (eqb-true l link ea) ∙ ap (seat_of link) (eqb-true n number eb) ∙ nobody) ∙ h))

      found : (k l n : ℕ) (b : Bool) → (k == seats) ≡ b → cond b (Some (link, number)) (f k) ≡ Some (l, n) → joined_seats l n ≡ Some k
      found k l n true e h = subst (λ (p : ℕ × ℕ). joined_seats p.0 p.1 ≡ Some k) (inside (link, number) (l, n) h) (new_seat k (eqb-true k seats e))
      found k l n false e h = there k l n (named.found k l n h) (l == link) (n == number) refl refl

joins_named : (link number : ℕ) (topic subscription : List ℕ) (position : Option ℤ) (s : State) → s.seat_of link number ≡ None → IsNamed s → IsNamed (joined link number topic subscription position s)
joins_named link number topic subscription position s nobody named =
    named_same (joined_names (names s) s.seats s.seat_of link number nobody) (names (joined link number topic subscription position s)) (s.seats + 1) (set_at_pair link number (Some s.seats) s.seat_of)
    (λ k. by k (k == s.seats)) (joined_named (names s) s.seats s.seat_of link number nobody named)
  where
    by : (k : ℕ) (b : Bool) → option_map name_of (cond b (Some (joining link number topic subscription)) (s.consumers k)) ≡ cond b (Some (link, number)) (names s k)
    by k true = refl
    by k false = refl

-- permits are granted
granted_named : (permits : ℕ) (o : Option ℕ) (s : State) → IsNamed s → IsNamed (granted_at permits o s)
granted_named permits None s named = named
granted_named permits (Some seat) s named =
    named_same (names s) (names (granted_at permits (Some seat) s)) s.seats s.seat_of (renamed s seat (option_map (granted_more permits) (s.consumers seat)) (by (s.consumers seat))) named
  where
    by : (o : Option Consumer) → option_map name_of (option_map (granted_more permits) o) ≡ option_map name_of o
    by None = refl
    by (Some c) = refl

-- consumers are served
served_named : (seat : ℕ) (s : State) → IsNamed s → IsNamed (serve seat s).state
served_named seat s named = by (s.consumers seat) refl
  where
    so : (c : Consumer) (r : Served) (ms : List MessageValues) → s.consumers seat ≡ Some c → IsNamed (serve_if seat c r ms s).state
    so c r [] at = named
    so c r (m ∷ ms) at =
        named_same (names s) (names (serve_if seat c r (m ∷ ms) s).state) s.seats s.seat_of (renamed s seat (Some (record c { spent = r.spent })) (sym (ap (option_map name_of) at))) named

    by : (o : Option Consumer) → s.consumers seat ≡ o → IsNamed (serve_consumer seat o s).state
    by None at = named
    by (Some c) at = so c (serving_of c (s.topics c.topic)) (serving_of c (s.topics c.topic)).messages at

all_named : (seats : List ℕ) (s : State) → IsNamed s → IsNamed (serve_all seats s).state
all_named [] s named = named
all_named (seat ∷ seats) s named = all_named seats (serve seat s).state (served_named seat s named)

-- a frame is answered
sent_named : (link producer sequence : ℕ) (payload : Option PayloadValues) (topic : Option (List ℕ)) (s : State) → IsNamed s → IsNamed (answer_send link producer sequence payload topic s).state
sent_named link producer sequence None topic s named = named
sent_named link producer sequence (Some p) None s named = named
sent_named link producer sequence (Some p) (Some topic) s named = named

answered_named : (url : List ℕ) (link : ℕ) (payload : Option PayloadValues) (a : Asked) (s : State) → IsNamed s → IsNamed (answer url link payload a s).state
answered_named url link payload Connects s named = named
answered_named url link payload Pings s named = named
answered_named url link payload (CountsPartitions request) s named = named
answered_named url link payload (LooksUp request) s named = named
answered_named url link payload (MakesProducer topic producer request given) s named = named
answered_named url link payload (Sends producer sequence) s named = sent_named link producer sequence payload (s.producers link producer) s named
answered_named url link payload (Subscribes topic subscription consumer request position) s named =
    joins_named link consumer topic subscription position (closed link consumer s) (closed_none link consumer s) (closed_named link consumer s named)
answered_named url link payload (Grants consumer permits) s named = granted_named permits (s.seat_of link consumer) s named
answered_named url link payload Acknowledges s named = named
answered_named url link payload (ClosesProducer producer request) s named = named
answered_named url link payload (ClosesConsumer consumer request) s named = closed_named link consumer s named
answered_named url link payload (AsksElse request) s named = named
answered_named url link payload SaysElse s named = named

turned_named : (url : List ℕ) (link : ℕ) (m : MessageValues) (s : State) → IsNamed s → IsNamed (turn url link m s).state
unfolding turn
turned_named url link m s named =
    let t = (answer url link m.payload (asked m.command.body) s).state in
    all_named (range_with_len 0 t.seats) t (answered_named url link m.payload (asked m.command.body) s named)

all_turned : (url : List ℕ) (link : ℕ) (ms : List MessageValues) (s : State) → IsNamed s → IsNamed (turns url link ms s).state
all_turned url link [] s named = named
all_turned url link (m ∷ ms) s named = all_turned url link ms (turn url link m s).state (turned_named url link m s named)

-- a link ends
module _ (f : ℕ → Option (ℕ × ℕ)) (seats : ℕ) (seat_of : ℕ → ℕ → Option ℕ) (link : ℕ) where
  was : (l n k : ℕ) (b : Bool) → cond b None (seat_of l n) ≡ Some k → seat_of l n ≡ Some k
  was l n k true e = absurd (some_none k e)
  was l n k false e = e

  ended_named : AreNamed f seats seat_of → AreNamed (λ k. name_of_another link (f k)) seats (without_link link seat_of)
  ended_named named = record {
    free = λ k h. ap (name_of_another link) (named.free k h);
    found = λ k l n. found k l n (f k) refl;
    own = λ l n k h. own l (f k) (named.own l n k (was l n k (l == link) h));
    taken = λ l n k h. named.taken l n k (was l n k (l == link) h);
  }
    where
      own_by : (l : ℕ) (p : ℕ × ℕ) (b : Bool) → name_of_another l (Some p) ≡ None → name_of_another l (cond b None (Some p)) ≡ None
      own_by l p true h = refl
      own_by l p false h = h

      own : (l : ℕ) (o : Option (ℕ × ℕ)) → name_of_another l o ≡ None → name_of_another l (name_of_another link o) ≡ None
      own l None h = refl
      own l (Some p) h = own_by l p (p.0 == link) h

      found_by : (k l n : ℕ) (p : ℕ × ℕ) (b : Bool) → (p.0 == link) ≡ b → f k ≡ Some p → cond b None (Some p) ≡ Some (l, n) → without_link link seat_of l n ≡ Some k
      found_by k l n p true e at h = absurd (some_none (l, n) h)
      found_by k l n p false e at h =
          subst (λ (q : ℕ × ℕ). without_link link seat_of q.0 q.1 ≡ Some k) (inside p (l, n) h)
          (ap (λ b. cond b None (seat_of p.0 p.1)) e ∙ named.found k p.0 p.1 at)

      found : (k l n : ℕ) (o : Option (ℕ × ℕ)) → f k ≡ o → name_of_another link o ≡ Some (l, n) → without_link link seat_of l n ≡ Some k
      found k l n None at h = absurd (some_none (l, n) h)
      found k l n (Some p) at h = found_by k l n p (p.0 == link) refl at h

without_named : (link : ℕ) (s : State) → IsNamed s → IsNamed (without link s)
without_named link s named =
    named_same (λ k. name_of_another link (names s k)) (names (without link s)) s.seats (without_link link s.seat_of) (λ k. of_it (s.consumers k)) (ended_named (names s) s.seats s.seat_of link named)
  where
    by : (c : Consumer) (b : Bool) → option_map name_of (cond b None (Some c)) ≡ cond b None (Some (name_of c))
    by c true = refl
    by c false = refl

    of_it : (o : Option Consumer) → option_map name_of (of_another link o) ≡ name_of_another link (option_map name_of o)
    of_it None = refl
    of_it (Some c) = by c (c.link == link)

pub history_named : (url : List ℕ) (h : List Act) → IsNamed (state url h)
unfolding state
history_named url [] = record { free = λ k h. refl; found = λ k l n h. absurd (some_none (l, n) h); own = λ l n k h. absurd (some_none k h); taken = λ l n k h. absurd (some_none k h) }
history_named url (Fed link piece ∷ h) = all_turned url link (ended_by piece (stream link h)) (state url h) (history_named url h)
history_named url (Taken link ∷ h) = history_named url h
history_named url (Ended link ∷ h) = without_named link (state url h) (history_named url h)

-- AS IF EACH HAD BEEN CLOSED

closing : (link : ℕ) (numbers : List ℕ) (s : State) → IsNamed s → IsNamed (close_each link numbers s) × (without link (close_each link numbers s) ≡ without link s)
closing link [] s named = (named, refl)
closing link (n ∷ ns) s named =
    let without_it = with_producer link n None s in
    let others = closing link ns (closed link n without_it) (closed_named link n without_it named) in
    (others.0, others.1 ∙ closed_before link n without_it named ∙ produced_before link n None s)

pub ends_closed : EndsAsIfClosed
unfolding state
ends_closed url h link numbers none =
    let s = state url h in
    let done = closing link numbers s (history_named url h) in
    sym done.1 ∙ without_nothing link (close_each link numbers s) done.0 (λ n. (none n).0) (λ n. (none n).1)

pub end_keeps_topics : EndKeepsTopics
unfolding state
end_keeps_topics url h link = refl
