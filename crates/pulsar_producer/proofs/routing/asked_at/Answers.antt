use Rattle.std.proofs.Common.{◌≡◌, ◌∙◌, sym, ap, refl, ℕ, zero, suc, ◌<◌, ◌≤◌, length, List, [], ◌∷◌, Option, Some, None, arith}
use Rattle.std.specs.List.{slice_get, slice_index_or}
use Rattle.std.specs.Slice.{IsItemAt}
use Rattle.pulsar_producer.specs.Routing.{in_range}
use Rattle.pulsar_producer.proofs.routing.asked_at.Goals as goal
use denote.Ref.{Bor}

there : {X : Type 0} (xs : List X) (i : ℕ) (x : X) → i < length xs → x ≡ slice_index_or xs i x → slice_get xs i ≡ Some x
there [] i x lt e = absurd (omega (arith, lt))
there (y ∷ ys) zero x lt e = ap Some (sym e)
there (y ∷ ys) (suc i) x lt e = there ys i x (omega (arith, lt)) e

absent : {X : Type 0} (xs : List X) (i : ℕ) → length xs ≤ i → slice_get xs i ≡ None
absent [] i le = refl
absent (y ∷ ys) zero le = absurd (omega (arith, le))
absent (y ∷ ys) (suc i) le = absent ys i (omega (arith, le))

got : {X : Type 0} (xs : List X) (i : ℕ) (r : Option (Bor X)) (x : Bor X) → IsItemAt xs i r → r ≡ Some x → slice_get xs i ≡ Some x.now
got xs i None x g e = absurd cc
got xs i (Some y) x g e = let same : y ≡ x = cc in there xs i y.now g.3.0 g.1 ∙ ap (λ z. Some z.now) same

got_none : {X : Type 0} (xs : List X) (i : ℕ) (r : Option (Bor X)) → IsItemAt xs i r → r ≡ None → slice_get xs i ≡ None
got_none xs i None g e = absent xs i g.3
got_none xs i (Some y) g e = absurd cc

pub returns-in-Some : goal.returns-in-Some
returns-in-Some g c =
    rw (got c.args.policies.now c.args.index c.get.result c.in-Some.policy c.get.ensures.lookup c.in-Some.is)
    (c.in_range.ensures ∙ ap (λ k. in_range k c.args.count) c.route.ensures)

pub returns-in-None : goal.returns-in-None
returns-in-None g c = rw (got_none c.args.policies.now c.args.index c.get.result c.get.ensures.lookup c.in-None.is) refl
