-- The first moment at which a request is due.
use Rattle.std.proofs.Common.{◌≡◌, ℕ, ◌∙◌, sym, ap, refl, ◌&&◌, ◌||◌, nat_le, not, Bool, true, false, cond, List, [], ◌∷◌, Option, Some, None, arith}
use Rattle.std.proofs.lemmas.Bool.Decides.{nat_tests}
use Rattle.std.specs.List.{list_any}
use Rattle.pulsar_requests.specs.Waits.{Pending, Waits, any_due, is_due, is_excused}
use Rattle.pulsar_requests.specs.Soonest.{due_at, has_come, sooner_of, soonest}

sooner_comes : (now d : ℕ) (o : Option ℕ) → (nat_le d now || has_come now o) ≡ has_come now (Some (sooner_of d o))
sooner_comes now d None = on (nat_le d now)
  where
    on : (b : Bool) → (b || false) ≡ b
    on true = refl
    on false = refl
sooner_comes now d (Some e) = grind (arith, nat_tests)

passed : (b c : Bool) → ((b && false) || c) ≡ c
passed true c = refl
passed false c = refl

timed : (b c : Bool) → ((b && true) || c) ≡ (b || c)
timed true c = refl
timed false c = refl

-- one more that waits, excused or not
one_more : (x here more : Bool) (d now : ℕ) (o : Option ℕ) → here ≡ nat_le d now → more ≡ has_come now o →
    ((here && not x) || more) ≡ has_come now (cond x o (Some (sooner_of d o)))
one_more true here more d now o e f = passed here more ∙ f
one_more false here more d now o e f = timed here more ∙ ap (λ b. b || more) e ∙ ap (λ b. nat_le d now || b) f ∙ sooner_comes now d o

-- it is due from that moment on
pub comes : (now : ℕ) (excused : List ℕ) (ps : List Pending) → list_any (is_due now excused) ps ≡ has_come now (soonest excused ps)
comes now excused [] = refl
comes now excused (p ∷ ps) =
    one_more (is_excused excused p.creates p.awaits) (nat_le p.deadline now) (list_any (is_due now excused) ps) p.deadline now (soonest excused ps) refl (comes now excused ps)

come_at : (d : ℕ) → nat_le d d ≡ true
come_at d = grind (arith, nat_tests)

-- one moment alone comes so
pub comes_once : (a b : Option ℕ) → ((now : ℕ) → has_come now a ≡ has_come now b) → a ≡ b
comes_once None None h = refl
comes_once None (Some e) h = absurd (let no : false ≡ true = h e ∙ come_at e in cc)
comes_once (Some d) None h = absurd (let no : true ≡ false = sym (come_at d) ∙ h d in cc)
comes_once (Some d) (Some e) h =
    let there = h d in
    let here = h e in
    let same : d ≡ e = grind (arith, nat_tests) in
    ap Some same

pub due_by : (now : ℕ) (w : Waits) → any_due now w ≡ has_come now (due_at w)
due_by now w = comes now w.excused w.waiting

-- what decides whether one is due at each moment is the first moment at which one is
pub is_due_at : (w : Waits) (o : Option ℕ) → ((now : ℕ) → any_due now w ≡ has_come now o) → o ≡ due_at w
is_due_at w o h = comes_once o (due_at w) (λ now. sym (h now) ∙ due_by now w)
