-- What is in a list, and what holds of each in it.
use Rattle.std.proofs.Common.{◌≡◌, ◌⊎◌, inl, inr, sym, subst, ℕ, List, [], ◌∷◌, ◌++◌, refl, map, Bool, true, false, cond, Option, Some, None}
use Rattle.std.specs.List.{cons_option, filter_map, flat_map}
use Rattle.std.specs.Option.{option_map}
use Rattle.pulsar_laws.proofs.ActWords.{Notice, opens, Outcome, Who}
use Rattle.pulsar_laws.proofs.RunWords.{arranged, Each, In, notice, put_all}
use Rattle.pulsar_laws.proofs.LinkWords.{tells_asker}
use Rattle.pulsar_run.specs.Order.{put}
use Rattle.pulsar_run.specs.Things.{along}
use Rattle.pulsar_calls.specs.Order.{alone}

pub in_left : {A : Type 0} (x : A) (xs ys : List A) → In x xs → In x (xs ++ ys)
in_left x [] ys i = absurd i
in_left x (y ∷ xs) ys (inl e) = inl e
in_left x (y ∷ xs) ys (inr i) = inr (in_left x xs ys i)

pub in_right : {A : Type 0} (x : A) (xs ys : List A) → In x ys → In x (xs ++ ys)
in_right x [] ys i = i
in_right x (y ∷ xs) ys i = inr (in_right x xs ys i)

pub in_append : {A : Type 0} (x : A) (xs ys : List A) → In x (xs ++ ys) → In x xs ⊎ In x ys
in_append x [] ys i = inr i
in_append x (y ∷ xs) ys (inl e) = inl (inl e)
in_append x (y ∷ xs) ys (inr i) = elim (in_append x xs ys i) [ inl j ↦ inl (inr j) | inr j ↦ inr j ]

pub in_map : {A B : Type 0} (f : A → B) (y : B) (xs : List A) → In y (map f xs) → (x : A) × In x xs × (y ≡ f x)
in_map f y [] i = absurd i
in_map f y (x ∷ xs) (inl e) = (x, inl refl, e)
in_map f y (x ∷ xs) (inr i) = let k = in_map f y xs i in (k.0, inr k.1, k.2)

pub into_flat : {A B : Type 0} (f : A → List B) (x : A) (y : B) (xs : List A) → In x xs → In y (f x) → In y (flat_map f xs)
into_flat f x y [] h i = absurd h
into_flat f x y (z ∷ xs) (inl e) i = in_left y (f z) (flat_map f xs) (subst (λ w. In y (f w)) e i)
into_flat f x y (z ∷ xs) (inr h) i = in_right y (f z) (flat_map f xs) (into_flat f x y xs h i)

pub in_each : {A : Type 0} (P : A → Type 0) (x : A) (xs : List A) → In x xs → Each P xs → P x
in_each P x [] i k = absurd i
in_each P x (y ∷ xs) (inl e) k = subst P (sym e) k.0
in_each P x (y ∷ xs) (inr i) k = in_each P x xs i k.1

-- what is so of one, and stays so by each act of a kind, is so behind several of these
pub each_along : {E S : Type 0} (after : E → S → S) (P : E → Type 0) (I : S → Type 0) → ((e : E) (s : S) → P e → I s → I (after e s)) →
    (es : List E) (s : S) → Each P es → I s → I (along after es s)
each_along after P I more [] s k i = i
each_along after P I more (e ∷ es) s k i = more e (along after es s) k.0 (each_along after P I more es s k.1 i)

pub each_made : {A B : Type 0} (P : B → Type 0) (f : A → B) → ((x : A) → P (f x)) → (xs : List A) → Each P (map f xs)
each_made P f k [] = tt
each_made P f k (x ∷ xs) = (k x, each_made P f k xs)

-- in their order

each_put : {A : Type 0} (P : A → Type 0) (f : A → A → Bool) (x : A) (ys : List A) → P x → Each P ys → Each P (put f x ys)
each_put P f x [] p q = (p, tt)
each_put P f x (y ∷ ys) p q = elim (f x y) as (λ b. Each P (cond b (x ∷ y ∷ ys) (y ∷ put f x ys))) [ true ↦ (p, q) | false ↦ (q.0, each_put P f x ys p q.1) ]

pub each_put_all : {A : Type 0} (P : A → Type 0) (f : A → A → Bool) (xs ys : List A) → Each P xs → Each P ys → Each P (put_all f xs ys)
each_put_all P f [] ys p q = q
each_put_all P f (x ∷ xs) ys p q = each_put_all P f xs (put f x ys) p.1 (each_put P f x ys p.0 q)

pub each_arranged : {A : Type 0} (P : A → Type 0) (f : A → A → Bool) (xss : List (List A)) → Each (Each P) xss → Each (Each P) (map (arranged f) xss)
each_arranged P f [] p = tt
each_arranged P f (xs ∷ xss) p = (each_put_all P f xs [] p.0 tt, each_arranged P f xss p.1)

-- of notices

pub each_opens : (P : Notice → Type 0) (ns : List Notice) → Each P ns → Each (Each P) (opens ns)
each_opens P [] k = tt
each_opens P (n ∷ ns) k = (k, tt)

pub each_alone : (P : Notice → Type 0) (ns : List Notice) → Each P ns → Each (Each P) (map alone ns)
each_alone P [] k = tt
each_alone P (n ∷ ns) k = ((k.0, tt), each_alone P ns k.1)

pub each_asker : (P : Notice → Type 0) (says : ℕ → Outcome) (askers : ℕ → Option Who) → ((place : ℕ) (who : Who) → P (notice who (says place))) →
    (places : List ℕ) → Each P (filter_map (tells_asker says askers) places)
each_asker P says askers k [] = tt
each_asker P says askers k (p ∷ ps) =
    let more : Each P (filter_map (tells_asker says askers) ps) = each_asker P says askers k ps in
    elim (askers p) as (λ r. Each P (cons_option (option_map (λ who. notice who (says p)) r) (filter_map (tells_asker says askers) ps))) [
      | None ↦ more
      | Some w ↦ (k p w, more)
    ]
