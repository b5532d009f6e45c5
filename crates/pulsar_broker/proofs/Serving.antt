-- What one consumer is served, and who is due behind it.
use Rattle.std.proofs.Common.{◌≡◌, ◌≢◌, ◌∙◌, ◌⊎◌, inl, inr, sym, ap, refl, ℕ, suc, ◌+◌, ◌<◌, ◌≤◌, ◌==◌, ◌&&◌, nat_lt, Bool, true, false, cond, List, [], ◌∷◌, ◌++◌, bytes_eq, length, drop, map, Option, Some, None, unwrap_or, arith, length-drop}
use Rattle.std.proofs.lemmas.Bool.{cases_Bool, eqb-true, ltb-false, le-ltb, lt-ltb}
use Rattle.std.proofs.lemmas.List.{append-nil, append_assoc}
use Rattle.std.specs.List.{flat_map}
use Rattle.pulsar_broker.specs.History.{bytes_for}
use Rattle.std.proofs.lemmas.Slice.Eq.{bytes_eq-Decides}
use Rattle.pulsar_frame.specs.Message.{MessageValues}
use Rattle.pulsar_frame.specs.Payload.{PayloadValues}
use Rattle.pulsar_broker.specs.Answers.{delivery}
use Rattle.pulsar_broker.specs.State.{Consumer, Owed, Served, State, Topic, nothing_served, owed_to, passed, serve, serve_consumer, serve_if, served_first, serving, serving_of, set_at, set_named, weight, with_consumer, with_cursor, with_topic}
use Rattle.pulsar_broker.specs.Kept.{is_due_at, topic_behind, topic_passed}

-- ONE CONSUMER

-- its permits or the messages have come to an end
abbrev pub IsAtEnd : (granted end : ℕ) → Served → Type 0
IsAtEnd granted end r = (granted ≤ r.spent) ⊎ (r.cursor ≡ end)

to_end_by : (n g s c : ℕ) (p : PayloadValues) (k : ℕ) (others : Served) → IsAtEnd g (c + 1 + k) others → (b : Bool) → nat_lt s g ≡ b →
    IsAtEnd g (c + suc k) (cond b (served_first (delivery n c p) others) (nothing_served s c))
to_end_by n g s c p k others (inl h) true e = inl h
to_end_by n g s c p k others (inr h) true e = inr (omega (arith, h))
to_end_by n g s c p k others h false e = inl (ltb-false s g e)

pub served_to_end : (n g s c : ℕ) (ps : List PayloadValues) → IsAtEnd g (c + length ps) (serving n g s c ps)
served_to_end n g s c [] = inr (omega arith)
served_to_end n g s c (p ∷ ps) =
    to_end_by n g s c p (length ps) (serving n g (s + weight p) (c + 1) ps) (served_to_end n g (s + weight p) (c + 1) ps) (nat_lt s g) refl

-- the cursor goes forward by as many messages as are served
forward_by : (n s c : ℕ) (p : PayloadValues) (others : Served) → others.cursor ≡ c + 1 + length others.messages → (b : Bool) →
    (cond b (served_first (delivery n c p) others) (nothing_served s c)).cursor
    ≡ c + length (cond b (served_first (delivery n c p) others) (nothing_served s c)).messages
forward_by n s c p others h true = omega (arith, h)
forward_by n s c p others h false = omega arith

pub served_forward : (n g s c : ℕ) (ps : List PayloadValues) → (serving n g s c ps).cursor ≡ c + length (serving n g s c ps).messages
served_forward n g s c [] = omega arith
served_forward n g s c (p ∷ ps) =
    forward_by n s c p (serving n g (s + weight p) (c + 1) ps) (served_forward n g (s + weight p) (c + 1) ps) (nat_lt s g)

-- nothing is served where there are no permits, or no messages
abbrev pub IsNothing : (granted spent count : ℕ) → Type 0
IsNothing granted spent count = (granted ≤ spent) ⊎ (count ≡ 0)

pub none_served : (n g s c : ℕ) (ps : List PayloadValues) → IsNothing g s (length ps) → serving n g s c ps ≡ nothing_served s c
none_served n g s c [] h = refl
none_served n g s c (p ∷ ps) (inl h) = ap (λ b. cond b (served_first (delivery n c p) (serving n g (s + weight p) (c + 1) ps)) (nothing_served s c)) (le-ltb s g h)
none_served n g s c (p ∷ ps) (inr h) = absurd (omega (arith, h))

-- where no message is served, no permits are spent
pub unspent : (n g s c : ℕ) (ps : List PayloadValues) → (serving n g s c ps).messages ≡ [] → (serving n g s c ps).spent ≡ s
unspent n g s c [] h = refl
unspent n g s c (p ∷ ps) h = by (nat_lt s g) h
  where
    by : (b : Bool) → (cond b (served_first (delivery n c p) (serving n g (s + weight p) (c + 1) ps)) (nothing_served s c)).messages ≡ [] →
        (cond b (served_first (delivery n c p) (serving n g (s + weight p) (c + 1) ps)) (nothing_served s c)).spent ≡ s
    by true e = absurd cc
    by false e = refl

-- WHO IS DUE

same_text : (name : List ℕ) → bytes_eq name name ≡ true
same_text name = (bytes_eq-Decides name name).1 refl

pub named_so : {A : Type 0} (name : List ℕ) (x : A) (f : List ℕ → A) → set_named name x f name ≡ x
named_so name x f = ap (λ b. cond b x (f name)) (same_text name)

pub both_false : (a b c d : ℕ) → (b ≤ a) ⊎ (d ≤ c) → (nat_lt a b && nat_lt c d) ≡ false
both_false a b c d (inl h) = ap (λ x. x && nat_lt c d) (le-ltb a b h)
both_false a b c d (inr h) = ap (λ y. nat_lt a b && y) (le-ltb c d h) ∙ elim (cases_Bool (nat_lt a b)) [ inl y ↦ ap (λ x. x && false) y | inr n ↦ ap (λ x. x && false) n ]

pub one_false : (a b c d : ℕ) → (nat_lt a b && nat_lt c d) ≡ false → (b ≤ a) ⊎ (d ≤ c)
one_false a b c d h = by (nat_lt a b) refl h
  where
    by : (x : Bool) → nat_lt a b ≡ x → (x && nat_lt c d) ≡ false → (b ≤ a) ⊎ (d ≤ c)
    by true e g = inr (ltb-false c d g)
    by false e g = inl (ltb-false a b e)

-- whoever is not due is served nothing
pub not_due : (seat : ℕ) (o : Option Consumer) (s : State) → is_due_at o s.topics ≡ false → serve_consumer seat o s ≡ record { state = s; given = [] }
not_due seat None s h = refl
not_due seat (Some c) s h =
    ap (λ (r : Served). serve_if seat c r r.messages s) (none_served c.number c.granted c.spent cursor (drop cursor t.messages) nothing)
  where
    t : Topic
    t = s.topics c.topic

    cursor : ℕ
    cursor = passed c.subscription t

    nothing : IsNothing c.granted c.spent (length (drop cursor t.messages))
    nothing = elim (one_false c.spent c.granted cursor (length t.messages) h) [ inl g ↦ inl g | inr g ↦ inr (let l = length-drop cursor t.messages in omega (arith, l)) ]

-- WHILE ONE CONSUMER IS SERVED

-- what is owed to each link so far, and what will be behind these frames
abbrev pub owed_behind : (given : ℕ → List ℕ) → List Owed → ℕ → List ℕ
owed_behind given frames l = given l ++ flat_map (bytes_for l) frames

-- What is served from here on, behind what was given, is what was to be served from the start on.
pub record IsServing (link number granted : ℕ) (spent place : ℕ) (ps : List PayloadValues) (now : ℕ → List ℕ) (whole : Served) (before : ℕ → List ℕ) : Type 0 where
  pub cursor : (serving number granted spent place ps).cursor ≡ whole.cursor
  pub costs : (serving number granted spent place ps).spent ≡ whole.spent
  pub given : (l : ℕ) → owed_behind now (map (owed_to link) (serving number granted spent place ps).messages) l ≡ owed_behind before (map (owed_to link) whole.messages) l

-- one more is given
pub serving_more : (link number granted spent cursor : ℕ) (p : PayloadValues) (ps : List PayloadValues) (given new : ℕ → List ℕ) (whole : Served) (before : ℕ → List ℕ) →
    spent < granted → ((l : ℕ) → new l ≡ given l ++ bytes_for l (owed_to link (delivery number cursor p))) →
    IsServing link number granted spent cursor (p ∷ ps) given whole before →
    IsServing link number granted (spent + weight p) (cursor + 1) ps new whole before
serving_more link number granted spent cursor p ps given new whole before lt gives is =
    record {
      cursor = ap (λ (r : Served). r.cursor) (sym here) ∙ is.cursor;
      costs = ap (λ (r : Served). r.spent) (sym here) ∙ is.costs;
      given = λ l.
          ap (λ xs. xs ++ flat_map (bytes_for l) (map (owed_to link) others.messages)) (gives l)
          ∙ append_assoc (given l) (bytes_for l (owed_to link (delivery number cursor p))) (flat_map (bytes_for l) (map (owed_to link) others.messages))
          ∙ sym (ap (λ (r : Served). given l ++ flat_map (bytes_for l) (map (owed_to link) r.messages)) here)
          ∙ is.given l;
    }
  where
    others : Served
    others = serving number granted (spent + weight p) (cursor + 1) ps

    here : serving number granted spent cursor (p ∷ ps) ≡ served_first (delivery number cursor p) others
    here = ap (λ b. cond b (served_first (delivery number cursor p) others) (nothing_served spent cursor)) (lt-ltb spent granted lt)

-- nothing more is given
pub serving_done : (link number granted spent cursor : ℕ) (ps : List PayloadValues) (given : ℕ → List ℕ) (whole : Served) (before : ℕ → List ℕ) →
    IsNothing granted spent (length ps) →
    IsServing link number granted spent cursor ps given whole before →
    (cursor ≡ whole.cursor) × (spent ≡ whole.spent) × ((l : ℕ) → given l ≡ owed_behind before (map (owed_to link) whole.messages) l)
serving_done link number granted spent cursor ps given whole before end is = (
  ap (λ (r : Served). r.cursor) (sym here) ∙ is.cursor,
  ap (λ (r : Served). r.spent) (sym here) ∙ is.costs,
  λ l. sym (append-nil (given l)) ∙ sym (ap (λ (r : Served). given l ++ flat_map (bytes_for l) (map (owed_to link) r.messages)) here) ∙ is.given l,
)
  where
    here : serving number granted spent cursor ps ≡ nothing_served spent cursor
    here = none_served number granted spent cursor ps end

-- TEXTS AS KEYS

-- what is set to what was there
pub set_same : {A : Type 0} (name : List ℕ) (x : A) (f : List ℕ → A) → f name ≡ x → set_named name x f ≡ f
set_same name x f is i m = by (bytes_eq name m) refl i
  where
    by : (b : Bool) → bytes_eq name m ≡ b → cond b x (f m) ≡ f m
    by true e = sym is ∙ ap f ((bytes_eq-Decides name m).0 e)
    by false e = refl

-- a cursor that is there stays
pub opened_there : (subscription : List ℕ) (cursor start : ℕ) (t : Topic) → t.cursors subscription ≡ Some cursor → with_cursor subscription (unwrap_or (t.cursors subscription) start) t ≡ t
opened_there subscription cursor start t is i =
    record { messages = t.messages; cursors = (ap (λ o. set_named subscription (Some (unwrap_or o start)) t.cursors) is ∙ set_same subscription (Some cursor) t.cursors is) i }

-- a topic by its cursors, one of which was set
pub cursor_set : (t : Topic) (subscription : List ℕ) (cursor : ℕ) (new : List ℕ → Option ℕ) → ((s : List ℕ) → new s ≡ set_named subscription (Some cursor) t.cursors s) →
    ◌≡◌ {A = Topic} (record { messages = t.messages; cursors = new }) (with_cursor subscription cursor t)
cursor_set t subscription cursor new is i = record { messages = t.messages; cursors = λ s. is s i }

-- the topic behind a serving, by whether the cursor has gone forward
pub stays_behind : (c : Consumer) (r : Served) (start : ℕ) (t : Topic) → r.cursor ≡ start + length r.messages → r.cursor ≡ start → topic_behind c r t ≡ t
stays_behind c r start t forward same = by r.messages forward
  where
    by : (ms : List MessageValues) → r.cursor ≡ start + length ms → topic_passed c r.cursor ms t ≡ t
    by [] e = refl
    by (m ∷ ms) e = absurd (omega (arith, e, same))

pub goes_behind : (c : Consumer) (r : Served) (start : ℕ) (t : Topic) → r.cursor ≡ start + length r.messages → r.cursor ≢ start → topic_behind c r t ≡ with_cursor c.subscription r.cursor t
goes_behind c r start t forward other = by r.messages forward
  where
    by : (ms : List MessageValues) → r.cursor ≡ start + length ms → topic_passed c r.cursor ms t ≡ with_cursor c.subscription r.cursor t
    by [] e = absurd (other (omega (arith, e)))
    by (m ∷ ms) e = refl

-- THE STATE BEHIND A SERVING

pub set_same_at : {A : Type 0} (key : ℕ) (x : A) (f : ℕ → A) → f key ≡ x → set_at key x f ≡ f
set_same_at key x f is i k = by (k == key) refl i
  where
    by : (b : Bool) → (k == key) ≡ b → cond b x (f k) ≡ f k
    by true e = sym is ∙ sym (ap f (eqb-true k key e))
    by false e = refl

-- what is kept where the consumer of a seat has spent what it was served, and the cursor has passed that
abbrev pub kept_behind : (seat : ℕ) → Consumer → Served → State → State
kept_behind seat c r s =
    with_topic c.topic (topic_behind c r (s.topics c.topic)) (with_consumer seat (Some (record c { spent = r.spent })) s)

-- it is that, by its parts
pub put_behind : (seat : ℕ) (c : Consumer) (s : State) (consumers : ℕ → Option Consumer) (topics : List ℕ → Topic) →
    let r = serving_of c (s.topics c.topic) in
    ((k : ℕ) → consumers k ≡ set_at seat (Some (record c { spent = r.spent })) s.consumers k) →
    ((name : List ℕ) → topics name ≡ set_named c.topic (topic_behind c r (s.topics c.topic)) s.topics name) →
    record s { consumers = consumers; topics = topics } ≡ kept_behind seat c r s
put_behind seat c s consumers topics is are i = record s { consumers = λ k. is k i; topics = λ name. are name i }

behind_by : (seat : ℕ) (c : Consumer) (s : State) (r : Served) (ms : List MessageValues) → (ms ≡ [] → r.spent ≡ c.spent) → s.consumers seat ≡ Some c →
    with_topic c.topic (topic_passed c r.cursor ms (s.topics c.topic)) (with_consumer seat (Some (record c { spent = r.spent })) s) ≡ (serve_if seat c r ms s).state
behind_by seat c s r [] same is =
    ap (λ f. record s { consumers = f; topics = set_named c.topic (s.topics c.topic) s.topics }) (ap (λ n. set_at seat (Some (record c { spent = n })) s.consumers) (same refl) ∙ set_same_at seat (Some c) s.consumers is)
    ∙ ap (λ f. record s { topics = f }) (set_same c.topic (s.topics c.topic) s.topics refl)
behind_by seat c s r (m ∷ ms) same is = refl

pub is_behind : (seat : ℕ) (c : Consumer) (s : State) → s.consumers seat ≡ Some c → kept_behind seat c (serving_of c (s.topics c.topic)) s ≡ (serve seat s).state
is_behind seat c s is =
    let t = s.topics c.topic in
    let r = serving_of c t in
    behind_by seat c s r r.messages (unspent c.number c.granted c.spent (passed c.subscription t) (drop (passed c.subscription t) t.messages)) is
    ∙ sym (ap (λ (o : Option Consumer). (serve_consumer seat o s).state) is)
