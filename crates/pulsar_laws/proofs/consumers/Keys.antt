-- Each consumer that was built has a key of its own.
use Rattle.std.proofs.Common.{◌≡◌, ◌⊎◌, ◌∙◌, ◌<◌, ◌≤◌, sym, ap, subst, ℕ, suc, List, [], ◌∷◌, ◌++◌, refl, arith, Bool, true, false, ◌&&◌, cond, Some, inl, inr}
use Rattle.pulsar_laws.proofs.ActWords.{Act, Answers, Call, Comes, Consumer, Does, Heard, is_same, lacks_tickets, Makes, Producer, shares, ticket_of, Verdict, Who}
use Rattle.pulsar_laws.proofs.RunWords.{Begins, begun_same, consumers_after, EndsOnce, Entry, may_call, Options, Then, view, View}
use Rattle.pulsar_consumer.specs.Topic.{Setup}
use Rattle.pulsar_consumer.proofs.Checking.{setup_is, setup_of}
use Rattle.pulsar_calls.specs.declared.act.Action.TheVariants.{TakeNumber}
use Rattle.pulsar_calls.specs.declared.act.Makes.TheVariants as makes
use Rattle.pulsar_calls.specs.declared.act.Part.TheVariants.{Calls}
use Rattle.pulsar_calls.specs.declared.content.Joining.{Joining}
use Rattle.pulsar_consumer_table.specs.Consumers.{Consumers, keyed}
use Rattle.pulsar_acts.specs.View.{consumers_listed, listed_as}
use Rattle.pulsar_laws.proofs.Cases.{none_some, some_is}
use Rattle.pulsar_laws.proofs.calls.Same.{same_who}
use Rattle.pulsar_laws.specs.ConsumerLaws.{KeysAreOwn, done_to, made_as, made_with}
use Rattle.pulsar_laws.proofs.consumers.Due.{called_rest, left_rest, numbered_rest}
use Rattle.pulsar_laws.proofs.consumers.Ended.{consumers_remain_lem, older_run}
use Rattle.pulsar_laws.proofs.consumers.Lone.{consumers_alone_lem}

-- THE KEY THAT IS DRAWN NEXT

abbrev next : View → ℕ
next v = v.consumers.next_key

same_least : {n m : ℕ} → m ≡ n → n ≤ m
same_least {n} {m} e = omega (arith, e)

listed_key : (who : Who) (cs : Consumers) → (listed_as who cs).next_key ≡ cs.next_key
listed_key (Call t) cs = refl
listed_key (Consumer n t) cs = refl
listed_key (Producer n) cs = refl

built_key : (who : Who) (x : Makes) (cs : Consumers) → cs.next_key ≤ (consumers_listed who x cs).next_key
built_key who (makes.Consumer j) cs =
    let e : (listed_as who (keyed cs)).next_key ≡ suc cs.next_key = listed_key who (keyed cs) in omega (arith, e)
built_key who (makes.RawConsumer l made) cs = same_least (listed_key who cs)
built_key who makes.Nothing cs = same_least refl
built_key who makes.Client cs = same_least refl
built_key who (makes.Producer b) cs = same_least refl

-- it never falls
key_on : (v : View) (a : Act) → next v ≤ (consumers_after v a).next_key
key_on v (Comes (Calls asked advice)) =
    same_least (ap (λ x. x.1) (called_rest (lacks_tickets v.calls.drawn (shares asked)) (may_call v.calls) asked v.consumers))
key_on v (Does who (TakeNumber wanted)) = same_least (ap (λ x. x.1) (numbered_rest (ticket_of who) wanted v.consumers))
key_on v (Answers who verdict) =
    let e : (consumers_after v (Answers who verdict)).next_key ≡ (consumers_listed who verdict.makes v.consumers).next_key =
    ap (λ x. x.1) (left_rest who (consumers_listed who verdict.makes v.consumers)) in
    let k = built_key who verdict.makes v.consumers in
    omega (arith, e, k)
key_on v a = same_least refl

-- and one that was drawn is behind it
key_drawn : (v : View) (who : Who) (verdict : Verdict) (j : Joining) → verdict.makes ≡ makes.Consumer j →
    (consumers_after v (Answers who verdict)).next_key ≡ suc (next v)
key_drawn v who verdict j e =
    ap (λ x. x.1) (left_rest who (consumers_listed who verdict.makes v.consumers))
    ∙ ap (λ x. (consumers_listed who x v.consumers).next_key) e
    ∙ listed_key who (keyed v.consumers)

-- HOW ONE WAS MADE: one that was built has a key below the next, and a raw one has none

abbrev IsKeyless : Setup → Type 0
IsKeyless s = (s.is_raw ≡ true) × (s.key ≡ 0)

abbrev IsKeyed : (next : ℕ) → Setup → Type 0
IsKeyed n s = IsKeyless s ⊎ ((s.is_raw ≡ false) × (0 < s.key) × (s.key < n))

-- one that a verdict makes gets the next
abbrev IsNew : (next : ℕ) → Makes → Setup → Type 0
IsNew n x s = IsKeyless s ⊎ ((j : Joining) × (x ≡ makes.Consumer j) × (s.is_raw ≡ false) × (s.key ≡ n))

made_new : (key : ℕ) (x : Makes) (s : Setup) → made_as key x ≡ Some s → IsNew key x s
made_new key (makes.Consumer j) s e =
    let k = some_is e in inr (j, refl, sym (ap (λ (y : Setup). y.is_raw) k), sym (ap (λ (y : Setup). y.key) k))
made_new key (makes.RawConsumer l m) s e = let k = some_is e in inl (sym (ap (λ (y : Setup). y.is_raw) k), sym (ap (λ (y : Setup). y.key) k))
made_new key makes.Nothing s e = absurd (none_some e)
made_new key makes.Client s e = absurd (none_some e)
made_new key (makes.Producer b) s e = absurd (none_some e)

module _ (o : Options) where
  begun_next : (e : Heard) (log : List Entry) → next (view o (Begins e ∷ log)) ≡ next (view o log)
  begun_next e log = begun_same next e (view o log) refl

  positive : (log : List Entry) → 0 < next (view o log)
  positive [] = omega arith
  positive (Begins e ∷ log) = let k = positive log in let same = begun_next e log in omega (arith, k, same)
  positive (Then a ∷ log) =
      let k = positive log in
      let m : next (view o log) ≤ next (view o (Then a ∷ log)) = key_on (view o log) a in
      omega (arith, k, m)

  keyed_more : (m n : ℕ) (s : Setup) → m ≤ n → IsKeyed m s → IsKeyed n s
  keyed_more m n s le (inl k) = inl k
  keyed_more m n s le (inr k) = let below = k.2 in inr (k.0, k.1, omega (arith, le, below))

  are_keyed : (t : ℕ) (log : List Entry) (s : Setup) → made_with o t log ≡ Some s → IsKeyed (next (view o log)) s
  are_keyed t [] s how = absurd (none_some how)
  are_keyed t (Begins e ∷ log) s how = subst (λ n. IsKeyed n s) (sym (begun_next e log)) (are_keyed t log s how)
  are_keyed t (Then (Answers who verdict) ∷ log) s how = by (is_same (Call t) who) (are_keyed t log s) how
    where
      v : View
      v = view o log

      after : ℕ
      after = next (view o (Then (Answers who verdict) ∷ log))

      new : IsNew (next v) verdict.makes s → IsKeyed after s
      new (inl k) = inl k
      new (inr (j, is, built, key)) =
          let pos = positive log in
          let more : after ≡ suc (next v) = key_drawn v who verdict j is in
          inr (built, omega (arith, pos, key), omega (arith, more, key))

      by : (b : Bool) → (made_with o t log ≡ Some s → IsKeyed (next v) s) → cond b (made_as (next v) verdict.makes) (made_with o t log) ≡ Some s →
          IsKeyed after s
      by true before e = new (made_new (next v) verdict.makes s e)
      by false before e = keyed_more (next v) after s (key_on v (Answers who verdict)) (before e)
  are_keyed t (Then a ∷ log) s how = keyed_more (next (view o log)) (next (view o (Then a ∷ log))) s (key_on (view o log) a) (are_keyed t log s how)

  -- a new one has another than those before
  apart : (n : ℕ) (x : Makes) (s r : Setup) → 0 < n → IsNew n x s → IsKeyed n r → (s.is_raw && r.is_raw) ≡ false → s.key ≡ r.key → ⊥
  apart n x s r pos (inl (raw, zero)) (inl (raw2, zero2)) one same = let f : true ≡ false = sym (λ i. raw i && raw2 i) ∙ one in cc
  apart n x s r pos (inl (raw, zero)) (inr (built, some, below)) one same = omega (arith, zero, some, same)
  apart n x s r pos (inr (j, is, built, key)) (inl (raw2, zero2)) one same = omega (arith, pos, key, zero2, same)
  apart n x s r pos (inr (j, is, built, key)) (inr (built2, some, below)) one same = omega (arith, key, below, same)

  swapped : (a b : Bool) → (a && b) ≡ false → (b && a) ≡ false
  swapped true true h = h
  swapped true false h = refl
  swapped false true h = refl
  swapped false false h = refl

  own : (t u : ℕ) (log : List Entry) (s r : Setup) → made_with o t log ≡ Some s → made_with o u log ≡ Some r → (s.is_raw && r.is_raw) ≡ false →
      s.key ≡ r.key → t ≡ u
  own t u [] s r how how2 one same = absurd (none_some how)
  own t u (Begins e ∷ log) s r how how2 one same = own t u log s r how how2 one same
  own t u (Then (Answers who verdict) ∷ log) s r how how2 one same =
      by (is_same (Call t) who) (is_same (Call u) who) refl refl (λ e f. own t u log s r e f one same) how how2
    where
      n : ℕ
      n = next (view o log)

      by : (b c : Bool) → is_same (Call t) who ≡ b → is_same (Call u) who ≡ c → (made_with o t log ≡ Some s → made_with o u log ≡ Some r → t ≡ u) →
          cond b (made_as n verdict.makes) (made_with o t log) ≡ Some s → cond c (made_as n verdict.makes) (made_with o u log) ≡ Some r → t ≡ u
      by true true b c before e f = let k : Call t ≡ Call u = same_who (Call t) who b ∙ sym (same_who (Call u) who c) in cc
      by true false b c before e f =
          absurd (apart n verdict.makes s r (positive log) (made_new n verdict.makes s e) (are_keyed u log r f) one same)
      by false true b c before e f =
          absurd (apart n verdict.makes r s (positive log) (made_new n verdict.makes r f) (are_keyed t log s e) (swapped s.is_raw r.is_raw one) (sym same))
      by false false b c before e f = before e f
  own t u (Then a ∷ log) s r how how2 one same = own t u log s r how how2 one same

pub keys_are_own_lem : EndsOnce → KeysAreOwn
keys_are_own_lem once o later older t u m n run is is2 one same =
    let all = consumers_remain_lem once o later older t m run is in
    let first = consumers_alone_lem once o older t m (older_run o later older run) is in
    let last = consumers_alone_lem once o (later ++ older) u n run is2 in
    let s : first.0 ≡ all.0 = some_is (sym first.1 ∙ all.4) in
    let mine : setup_of m.seen ≡ all.0 = ap setup_of first.2 ∙ setup_is first.0 (done_to o t older) ∙ s in
    let other : setup_of n.seen ≡ last.0 = ap setup_of last.2 ∙ setup_is last.0 (done_to o u (later ++ older)) in
    own o t u (later ++ older) all.0 last.0 all.3 last.1 (sym (λ i. (mine i).is_raw && (other i).is_raw) ∙ one)
    (sym (ap (λ x. x.key) mine) ∙ same ∙ ap (λ x. x.key) other)
