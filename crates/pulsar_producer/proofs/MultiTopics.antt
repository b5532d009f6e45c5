-- The topics of a producer of many topics: their order, and what a change leaves.
use Rattle.std.proofs.Common.{◌≡◌, ◌∙◌, sym, ap, refl, subst, ℕ, bytes_eq, Bool, true, false, cond, List, [], ◌∷◌, map, Option, Some, None}
use Rattle.std.proofs.lemmas.Map.Text.{is_eq-slice_cmp}
use Rattle.std.specs.Cmp.Lexicographic.{nat_list_cmp_total, bytes_decides, slice_cmp}
use Rattle.std.specs.Option.{is_some}
use Rattle.std.specs.Ordering.{is_eq, match_ordering, nat_cmp, ordering_reverse}
use Rattle.std.specs.declared.cmp.Ordering.{Ordering}
use Rattle.std.specs.declared.cmp.Ordering.TheVariants.{Less, Equal, Greater}
use Rattle.pulsar_messages.specs.Content.{ProducerMessageValues}
use Rattle.pulsar_producer.specs.MultiLaws.{AreBehind, Ascend, ThereUntilRemoved, TopicsAscend}
use Rattle.pulsar_producer.specs.MultiTopic.{Act, Takes, Passes, Hands, Joins, Removes, Seen, Topics, after, found, joined, names, removed, routed, seen, takes_in}
use Rattle.pulsar_producer.specs.Producer as producer
use Rattle.pulsar_outgoing.specs.declared.multi_topic.Taker.{Taker}

abbrev cmp : List ℕ → List ℕ → Ordering
cmp = slice_cmp nat_cmp

abbrev topics_of : Topics → List (List ℕ)
topics_of es = map (λ e. e.0) es

-- ORDER

behind_more : (t u : List ℕ) (us : List (List ℕ)) → cmp t u ≡ Less → AreBehind u us → AreBehind t us
behind_more t u [] lt all = tt
behind_more t u (x ∷ us) lt all = (nat_list_cmp_total.trans t u x lt all.0, behind_more t u us lt all.1)

behind_put : (t u : List ℕ) (p : producer.Seen) (es : Topics) → cmp t u ≡ Less → AreBehind t (topics_of es) → AreBehind t (topics_of (joined u p es))
behind_put t u p [] lt all = (lt, tt)
behind_put t u p (e ∷ es) lt all = by (cmp u e.0) (behind_put t u p es lt all.1)
  where
    by : (r : Ordering) → AreBehind t (topics_of (joined u p es)) →
        AreBehind t (topics_of (match_ordering r ((u, p) ∷ e ∷ es) ((e.0, p) ∷ es) (e ∷ joined u p es)))
    by Less more = (lt, all)
    by Equal more = all
    by Greater more = (all.0, more)

ascend_put : (t : List ℕ) (p : producer.Seen) (es : Topics) → Ascend (topics_of es) → Ascend (topics_of (joined t p es))
ascend_put t p [] all = (tt, tt)
ascend_put t p (e ∷ es) all = by (cmp t e.0) refl (ascend_put t p es all.1)
  where
    by : (r : Ordering) → cmp t e.0 ≡ r → Ascend (topics_of (joined t p es)) →
        Ascend (topics_of (match_ordering r ((t, p) ∷ e ∷ es) ((e.0, p) ∷ es) (e ∷ joined t p es)))
    by Less is more = ((is, behind_more t e.0 (topics_of es) is all.0), all)
    by Equal is more = all
    by Greater is more = (behind_put e.0 t p es (nat_list_cmp_total.antisymm e.0 t ∙ ap ordering_reverse is) all.0, more)

removed_behind : (t u : List ℕ) (es : Topics) → AreBehind t (topics_of es) → AreBehind t (topics_of (removed u es))
removed_behind t u [] all = tt
removed_behind t u (e ∷ es) all = by (bytes_eq u e.0) (removed_behind t u es all.1)
  where
    by : (b : Bool) → AreBehind t (topics_of (removed u es)) → AreBehind t (topics_of (cond b es (e ∷ removed u es)))
    by true more = all.1
    by false more = (all.0, more)

ascend_removed : (t : List ℕ) (es : Topics) → Ascend (topics_of es) → Ascend (topics_of (removed t es))
ascend_removed t [] all = tt
ascend_removed t (e ∷ es) all = by (bytes_eq t e.0) (ascend_removed t es all.1)
  where
    by : (b : Bool) → Ascend (topics_of (removed t es)) → Ascend (topics_of (cond b es (e ∷ removed t es)))
    by true more = all.1
    by false more = (removed_behind e.0 t es all.0, more)

routed_same : (t : List ℕ) (m : ProducerMessageValues) (es : Topics) → topics_of (routed t m es) ≡ topics_of es
routed_same t m [] = refl
routed_same t m (e ∷ es) = by (bytes_eq t e.0) (routed_same t m es)
  where
    by : (b : Bool) → topics_of (routed t m es) ≡ topics_of es → topics_of (cond b ((e.0, producer.after m e.1) ∷ es) (e ∷ routed t m es)) ≡ e.0 ∷ topics_of es
    by true more = refl
    by false more = ap (λ ts. e.0 ∷ ts) more

takes_topics : (o : Option Taker) (t : Taker) (v : Seen) → (takes_in o t v).topics ≡ v.topics
takes_topics None t v = refl
takes_topics (Some other) t v = refl

ascend_after : (act : Act) (v : Seen) → Ascend (names v) → Ascend (names (after act v))
ascend_after (Takes t) v all = subst (λ es. Ascend (topics_of es)) (sym (takes_topics v.holder t v)) all
ascend_after Passes v all = all
ascend_after (Hands t m) v all = subst Ascend (sym (routed_same t m v.topics)) all
ascend_after (Joins t p) v all = ascend_put t p v.topics all
ascend_after (Removes t) v all = ascend_removed t v.topics all

pub topics_ascend : TopicsAscend
topics_ascend name o [] = tt
topics_ascend name o (act ∷ h) = ascend_after act (seen name o h) (topics_ascend name o h)

-- WHICH ARE THERE

-- a text that is below another one differs from it
equal_is : (t u : List ℕ) (r : Ordering) → cmp t u ≡ r → bytes_eq t u ≡ is_eq r
equal_is t u r is = sym (is_eq-slice_cmp t u) ∙ ap is_eq is

-- a text that is the same as one is found where that is
same_text : (t u : List ℕ) → bytes_eq t u ≡ true → t ≡ u
same_text t u e = (bytes_decides t u).0 e

there : List ℕ → Topics → Bool
there t es = is_some (found t es)

there_put : (t u : List ℕ) (p : producer.Seen) (es : Topics) → is_some (found t (joined u p es)) ≡ cond (bytes_eq t u) true (is_some (found t es))
there_put t u p [] = by (bytes_eq t u)
  where
    by : (b : Bool) → is_some (cond b (Some p) None) ≡ cond b true false
    by true = refl
    by false = refl
there_put t u p (e ∷ es) = by (cmp u e.0) refl (there_put t u p es)
  where
    same : (b c : Bool) (q : Option producer.Seen) → b ≡ c → is_some (cond b (Some p) q) ≡ cond c true (is_some (cond b (Some e.1) q))
    same true true q is = refl
    same false false q is = refl
    same true false q is = absurd cc
    same false true q is = absurd cc

    first : (b : Bool) (q : Option producer.Seen) → is_some (cond b (Some p) q) ≡ cond b true (is_some q)
    first true q = refl
    first false q = refl

    later : (b c : Bool) (q r : Option producer.Seen) → is_some q ≡ cond c true (is_some r) →
        is_some (cond b (Some e.1) q) ≡ cond c true (is_some (cond b (Some e.1) r))
    later true true q r more = refl
    later true false q r more = refl
    later false true q r more = more
    later false false q r more = more

    by : (r : Ordering) → cmp u e.0 ≡ r → is_some (found t (joined u p es)) ≡ cond (bytes_eq t u) true (is_some (found t es))
        → is_some (found t (match_ordering r ((u, p) ∷ e ∷ es) ((e.0, p) ∷ es) (e ∷ joined u p es))) ≡ cond (bytes_eq t u) true (is_some (found t (e ∷ es)))
    by Less is more = first (bytes_eq t u) (found t (e ∷ es))
    by Equal is more = same (bytes_eq t e.0) (bytes_eq t u) (found t es) (ap (bytes_eq t) (sym (same_text u e.0 (equal_is u e.0 Equal is))))
    by Greater is more = later (bytes_eq t e.0) (bytes_eq t u) (found t (joined u p es)) (found t es) more

-- none of those behind a text is it
none_behind : (t : List ℕ) (es : Topics) → AreBehind t (topics_of es) → found t es ≡ None
none_behind t [] all = refl
none_behind t (e ∷ es) all = ap (λ b. cond b (Some e.1) (found t es)) (equal_is t e.0 Less all.0) ∙ none_behind t es all.1

there_removed : (t u : List ℕ) (es : Topics) → Ascend (topics_of es) → is_some (found t (removed u es)) ≡ cond (bytes_eq t u) false (is_some (found t es))
there_removed t u [] all = by (bytes_eq t u)
  where
    by : (b : Bool) → false ≡ cond b false false
    by true = refl
    by false = refl
there_removed t u (e ∷ es) all = by (bytes_eq u e.0) refl (bytes_eq t u) refl (there_removed t u es all.1)
  where
    skips : (b : Bool) (q r : Option producer.Seen) → b ≡ false → is_some q ≡ is_some (cond b (Some e.1) q)
    skips true q r is = absurd cc
    skips false q r is = refl

    passes : (b c : Bool) (q r : Option producer.Seen) → is_some q ≡ cond c false (is_some r) → (c ≡ true → b ≡ false) →
        is_some (cond b (Some e.1) q) ≡ cond c false (is_some (cond b (Some e.1) r))
    passes true true q r more apart = absurd (let f = apart refl in cc)
    passes true false q r more apart = refl
    passes false true q r more apart = more
    passes false false q r more apart = more

    by : (b : Bool) → bytes_eq u e.0 ≡ b → (c : Bool) → bytes_eq t u ≡ c → is_some (found t (removed u es)) ≡ cond c false (is_some (found t es))
        → is_some (found t (cond b es (e ∷ removed u es))) ≡ cond c false (is_some (found t (e ∷ es)))
    by true is true same more =
        let one : t ≡ e.0 = same_text t u same ∙ same_text u e.0 is in ap is_some (subst (λ x. found x es ≡ None) (sym one) (none_behind e.0 es all.0))
    by true is false other more =
        skips (bytes_eq t e.0) (found t es) (found t es) (ap (bytes_eq t) (sym (same_text u e.0 is)) ∙ other)
    by false is c same more =
        passes (bytes_eq t e.0) c (found t (removed u es)) (found t es) more (λ d. ap (λ x. bytes_eq x e.0) (same_text t u (same ∙ d)) ∙ is)

there_routed : (t u : List ℕ) (m : ProducerMessageValues) (es : Topics) → is_some (found t (routed u m es)) ≡ is_some (found t es)
there_routed t u m [] = refl
there_routed t u m (e ∷ es) = by (bytes_eq u e.0) (there_routed t u m es)
  where
    either : (b : Bool) (p q : producer.Seen) (r s : Option producer.Seen) → is_some r ≡ is_some s → is_some (cond b (Some p) r) ≡ is_some (cond b (Some q) s)
    either true p q r s more = refl
    either false p q r s more = more

    by : (b : Bool) → is_some (found t (routed u m es)) ≡ is_some (found t es)
        → is_some (found t (cond b ((e.0, producer.after m e.1) ∷ es) (e ∷ routed u m es))) ≡ is_some (found t (e ∷ es))
    by true more = either (bytes_eq t e.0) (producer.after m e.1) e.1 (found t es) (found t es) refl
    by false more = either (bytes_eq t e.0) e.1 e.1 (found t (routed u m es)) (found t es) more

pub there_until_removed : ThereUntilRemoved
there_until_removed name o [] t = refl
there_until_removed name o (Takes u ∷ h) t =
    ap (λ es. is_some (found t es)) (takes_topics (seen name o h).holder u (seen name o h)) ∙ there_until_removed name o h t
there_until_removed name o (Passes ∷ h) t = there_until_removed name o h t
there_until_removed name o (Hands u m ∷ h) t = there_routed t u m (seen name o h).topics ∙ there_until_removed name o h t
there_until_removed name o (Joins u p ∷ h) t =
    there_put t u p (seen name o h).topics ∙ ap (λ b. cond (bytes_eq t u) true b) (there_until_removed name o h t)
there_until_removed name o (Removes u ∷ h) t =
    there_removed t u (seen name o h).topics (topics_ascend name o h) ∙ ap (λ b. cond (bytes_eq t u) false b) (there_until_removed name o h t)
