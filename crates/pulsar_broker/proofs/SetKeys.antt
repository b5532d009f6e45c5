-- The keys of the tables.
use Rattle.std.proofs.Common.{◌≡◌, ◌∙◌, ◌==◌, ◌&&◌, ℕ, ap, refl, arith, Bool, true, false, cond, List, [], ◌∷◌, Option, Some, None}
use Rattle.std.proofs.lemmas.Bool.{eqb-true}
use Rattle.std.proofs.lemmas.Bool.Decides.{nat_tests}
use Rattle.std.proofs.lemmas.Grind.{common_steps}
use Rattle.std.specs.BTreeMap.{BTreeMap, get, is_at}
use Rattle.std.specs.BTreeMap.Range.{IsRangeOf}
use Rattle.std.specs.declared.ops.Bound.TheVariants.{Included, Unbounded}
use Rattle.std.specs.Option.{is_some, option_map}
use Rattle.std.specs.Ordering.{is_gt, nat_cmp}
use Rattle.pulsar_broker.specs.Kept.{pair_cmp}
use Rattle.pulsar_broker.specs.State.{set_at, set_at_pair}

pub at_seat : (k x : ℕ) → is_at (nat_cmp k) x ≡ (x == k)
at_seat k x = grind (arith, nat_tests, common_steps)

-- one that was set, seen by f
pub seat_set : {A B : Type 0} (f : A → B) (key : ℕ) (x : Option A) (old new : ℕ → Option A) →
    ((k : ℕ) → new k ≡ cond (is_at (nat_cmp key) k) x (old k)) → (k : ℕ) → option_map f (new k) ≡ set_at key (option_map f x) (λ j. option_map f (old j)) k
seat_set f key x old new is k = ap (option_map f) (is k ∙ ap (λ b. cond b x (old k)) (at_seat key k)) ∙ by (k == key)
  where
    by : (b : Bool) → option_map f (cond b x (old k)) ≡ cond b (option_map f x) (option_map f (old k))
    by true = refl
    by false = refl

at_pair : (a b c d : ℕ) → is_at (pair_cmp (a, b)) (c, d) ≡ ((c == a) && (d == b))
at_pair a b c d = grind (arith, nat_tests, common_steps)

pub pair_set : {A B : Type 0} (f : A → B) (link number : ℕ) (x : Option A) (old new : ℕ × ℕ → Option A) →
    ((p : ℕ × ℕ) → new p ≡ cond (is_at (pair_cmp (link, number)) p) x (old p)) → (l n : ℕ) →
    option_map f (new (l, n)) ≡ set_at_pair link number (option_map f x) (λ j k. option_map f (old (j, k))) l n
pair_set f link number x old new is l n = ap (option_map f) (is (l, n) ∙ ap (λ b. cond b x (old (l, n))) (at_pair link number l n)) ∙ by ((l == link) && (n == number))
  where
    by : (b : Bool) → option_map f (cond b x (old (l, n))) ≡ cond b (option_map f x) (option_map f (old (l, n)))
    by true = refl
    by false = refl

pub pair_put : {A : Type 0} (link number : ℕ) (x : Option A) (old new : ℕ × ℕ → Option A) →
    ((p : ℕ × ℕ) → new p ≡ cond (is_at (pair_cmp (link, number)) p) x (old p)) → (l n : ℕ) →
    new (l, n) ≡ set_at_pair link number x (λ j k. old (j, k)) l n
pair_put link number x old new is l n = is (l, n) ∙ ap (λ b. cond b x (old (l, n))) (at_pair link number l n)

-- THE FIRST OF A LINK

squeezed : (link n : ℕ) (k : ℕ × ℕ) → is_gt (pair_cmp (link, 0) k) ≡ false → is_gt (pair_cmp k (link, n)) ≡ false → (k.0 == link) ≡ true
squeezed link n (a, b) low high = grind (arith, nat_tests, common_steps)

at_or_behind : (link n : ℕ) → is_gt (pair_cmp (link, 0) (link, n)) ≡ false
at_or_behind link n = grind (arith, nat_tests, common_steps)

-- where the first from there on is of another link, it has none
pub none_there : {A : Type 0} (m : BTreeMap (ℕ × ℕ) A) (link n : ℕ) (k : ℕ × ℕ) (x : A) (others : List ((ℕ × ℕ) × A)) →
    IsRangeOf pair_cmp (Included (link, 0)) Unbounded m ((k, x) ∷ others) → (k.0 ≡ link → ⊥) → get pair_cmp m (link, n) ≡ None
none_there m link n k x others range other = by (get pair_cmp m (link, n)) refl
  where
    by : (o : Option _) → get pair_cmp m (link, n) ≡ o → o ≡ None
    by None e = refl
    by (Some y) e = absurd (other (eqb-true k.0 link (squeezed link n k range.1.0.0 (range.2 (link, n) (at_or_behind link n, tt) (ap is_some e)))))

-- and so where there is nothing
pub nothing_there : {A : Type 0} (m : BTreeMap (ℕ × ℕ) A) (link n : ℕ) (r : List ((ℕ × ℕ) × A)) → IsRangeOf pair_cmp (Included (link, 0)) Unbounded m r → r ≡ [] → get pair_cmp m (link, n) ≡ None
nothing_there m link n r range none = range.5 none (link, n) (at_or_behind link n, tt)
