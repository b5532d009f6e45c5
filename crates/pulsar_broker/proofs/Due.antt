-- Whoever was served is not due, and nobody becomes due by it.
use Rattle.std.proofs.Common.{◌≡◌, ◌∙◌, inl, inr, sym, ap, refl, subst, ℕ, ◌+◌, ◌≤◌, ◌==◌, ◌&&◌, nat_lt, Bool, true, false, cond, List, [], ◌∷◌, bytes_eq, length, drop, Option, Some, None, unwrap_or, arith, length-drop}
use Rattle.std.proofs.lemmas.Bool.{eqb-true}
use Rattle.std.proofs.lemmas.Bool.Decides.{nat_tests}
use Rattle.std.proofs.lemmas.Slice.Eq.{bytes_eq-Decides}
use Rattle.pulsar_frame.specs.Message.{MessageValues}
use Rattle.pulsar_broker.specs.Kept.{is_due, is_due_at, is_due_in}
use Rattle.pulsar_broker.specs.State.{Consumer, Served, State, Topic, passed, serve, serve_consumer, serve_if, serving_of, set_named, with_cursor}
use Rattle.pulsar_broker.proofs.Serving.{IsAtEnd, both_false, named_so, one_false, served_forward, served_to_end, unspent}

end_of : (c : Consumer) (t : Topic) → IsAtEnd c.granted (passed c.subscription t + length (drop (passed c.subscription t) t.messages)) (serving_of c t)
end_of c t = served_to_end c.number c.granted c.spent (passed c.subscription t) (drop (passed c.subscription t) t.messages)

pub forward_of : (c : Consumer) (t : Topic) → (serving_of c t).cursor ≡ passed c.subscription t + length (serving_of c t).messages
forward_of c t = served_forward c.number c.granted c.spent (passed c.subscription t) (drop (passed c.subscription t) t.messages)

-- behind its serving it has no permits, or its topic no message for it
is_done : (c : Consumer) (t : Topic) → (nat_lt (serving_of c t).spent c.granted && nat_lt (serving_of c t).cursor (length t.messages)) ≡ false
is_done c t =
    let l = length-drop (passed c.subscription t) t.messages in
    both_false (serving_of c t).spent c.granted (serving_of c t).cursor (length t.messages)
    (elim (end_of c t) [ inl h ↦ inl h | inr h ↦ inr (omega (arith, h, l)) ])

-- where it was served nothing
is_done_unserved : (c : Consumer) (t : Topic) → (serving_of c t).messages ≡ [] → is_due c t ≡ false
is_done_unserved c t none =
    let spent : (serving_of c t).spent ≡ c.spent = unspent c.number c.granted c.spent (passed c.subscription t) (drop (passed c.subscription t) t.messages) none in
    let at : (serving_of c t).cursor ≡ passed c.subscription t = let f = forward_of c t in let l = ap (λ (ms : List MessageValues). length ms) none in omega (arith, f, l) in
    sym (ap (λ n. nat_lt n c.granted && nat_lt (serving_of c t).cursor (length t.messages)) spent
    ∙ ap (λ n. nat_lt c.spent c.granted && nat_lt n (length t.messages)) at)
    ∙ is_done c t

-- and where it was served
is_done_served : (c : Consumer) (topics : List ℕ → Topic) (r : Served) → r ≡ serving_of c (topics c.topic) →
    is_due (record c { spent = r.spent }) (set_named c.topic (with_cursor c.subscription r.cursor (topics c.topic)) topics c.topic) ≡ false
is_done_served c topics r is =
    ap (is_due (record c { spent = r.spent })) (named_so c.topic (with_cursor c.subscription r.cursor (topics c.topic)) topics)
    ∙ ap (λ o. nat_lt r.spent c.granted && nat_lt (unwrap_or o 0) (length (topics c.topic).messages)) (named_so c.subscription (Some r.cursor) (topics c.topic).cursors)
    ∙ ap (λ (x : Served). nat_lt x.spent c.granted && nat_lt x.cursor (length (topics c.topic).messages)) is
    ∙ is_done c (topics c.topic)

-- no cursor goes back
passed_forward : (subscription other : List ℕ) (cursor : ℕ) (t : Topic) → passed subscription t ≤ cursor → passed other t ≤ passed other (with_cursor subscription cursor t)
passed_forward subscription other cursor t le = by (bytes_eq subscription other) refl
  where
    by : (b : Bool) → bytes_eq subscription other ≡ b → passed other t ≤ unwrap_or (cond b (Some cursor) (t.cursors other)) 0
    by true e = subst (λ s. passed s t ≤ cursor) ((bytes_eq-Decides subscription other).0 e) le
    by false e = omega arith

-- nobody becomes due where a cursor goes forward
still_done : (d : Consumer) (t : Topic) (subscription : List ℕ) (cursor : ℕ) → passed subscription t ≤ cursor → is_due d t ≡ false → is_due d (with_cursor subscription cursor t) ≡ false
still_done d t subscription cursor le h =
    let more = passed_forward subscription d.subscription cursor t le in
    both_false d.spent d.granted (passed d.subscription (with_cursor subscription cursor t)) (length t.messages)
    (elim (one_false d.spent d.granted (passed d.subscription t) (length t.messages) h) [ inl g ↦ inl g | inr g ↦ inr (omega (arith, g, more)) ])

pub still_done_at : (o : Option Consumer) (topics : List ℕ → Topic) (name subscription : List ℕ) (cursor : ℕ) → passed subscription (topics name) ≤ cursor → is_due_at o topics ≡ false →
    is_due_at o (set_named name (with_cursor subscription cursor (topics name)) topics) ≡ false
still_done_at None topics name subscription cursor le h = refl
still_done_at (Some d) topics name subscription cursor le h = by (bytes_eq name d.topic) refl
  where
    by : (b : Bool) → bytes_eq name d.topic ≡ b → is_due d (cond b (with_cursor subscription cursor (topics name)) (topics d.topic)) ≡ false
    by true e =
        let same : name ≡ d.topic = (bytes_eq-Decides name d.topic).0 e in
        still_done d (topics name) subscription cursor le (ap (λ m. is_due d (topics m)) same ∙ h)
    by false e = h

-- THE STATE

le_of : (a b n : ℕ) → b ≡ a + n → a ≤ b
le_of a b n e = omega (arith, e)

sated_if : (seat : ℕ) (c : Consumer) (s : State) (r : Served) → r ≡ serving_of c (s.topics c.topic) → (ms : List MessageValues) → (ms ≡ [] → (serving_of c (s.topics c.topic)).messages ≡ []) →
    s.consumers seat ≡ Some c → is_due_in (serve_if seat c r ms s).state seat ≡ false
sated_if seat c s r is [] none at = ap (λ o. is_due_at o s.topics) at ∙ is_done_unserved c (s.topics c.topic) (none refl)
sated_if seat c s r is (m ∷ ms) none at =
    ap (λ b. is_due_at (cond b (Some (record c { spent = r.spent })) (s.consumers seat)) (set_named c.topic (with_cursor c.subscription r.cursor (s.topics c.topic)) s.topics)) (own seat)
    ∙ is_done_served c s.topics r is
  where
    own : (k : ℕ) → (k == k) ≡ true
    own k = grind (arith, nat_tests)

sated_by : (seat : ℕ) (o : Option Consumer) (s : State) → s.consumers seat ≡ o → is_due_in (serve_consumer seat o s).state seat ≡ false
sated_by seat None s at = ap (λ o. is_due_at o s.topics) at
sated_by seat (Some c) s at = sated_if seat c s (serving_of c (s.topics c.topic)) refl (serving_of c (s.topics c.topic)).messages (λ e. e) at

-- whoever was served is not due
pub sated : (seat : ℕ) (s : State) → is_due_in (serve seat s).state seat ≡ false
sated seat s = sated_by seat (s.consumers seat) s refl

keeps_if : (seat other : ℕ) (c : Consumer) (s : State) (r : Served) → passed c.subscription (s.topics c.topic) ≤ r.cursor → (ms : List MessageValues) → (other == seat) ≡ false →
    is_due_in s other ≡ false → is_due_in (serve_if seat c r ms s).state other ≡ false
keeps_if seat other c s r le [] differ h = h
keeps_if seat other c s r le (m ∷ ms) differ h =
    ap (λ b. is_due_at (cond b (Some (record c { spent = r.spent })) (s.consumers other)) (set_named c.topic (with_cursor c.subscription r.cursor (s.topics c.topic)) s.topics)) differ
    ∙ still_done_at (s.consumers other) s.topics c.topic c.subscription r.cursor le h

keeps_by : (seat other : ℕ) (o : Option Consumer) (s : State) → (other == seat) ≡ false → is_due_in s other ≡ false → is_due_in (serve_consumer seat o s).state other ≡ false
keeps_by seat other None s differ h = h
keeps_by seat other (Some c) s differ h =
    let t = s.topics c.topic in
    keeps_if seat other c s (serving_of c t) (le_of (passed c.subscription t) (serving_of c t).cursor (length (serving_of c t).messages) (forward_of c t)) (serving_of c t).messages differ h

-- nobody becomes due where another is served
pub keeps_sated : (seat other : ℕ) (s : State) → is_due_in s other ≡ false → is_due_in (serve seat s).state other ≡ false
keeps_sated seat other s h = by (other == seat) refl
  where
    by : (b : Bool) → (other == seat) ≡ b → is_due_in (serve seat s).state other ≡ false
    by true e = subst (λ k. is_due_in (serve seat s).state k ≡ false) (sym (eqb-true other seat e)) (sated seat s)
    by false e = keeps_by seat other (s.consumers seat) s e h
