-- What is left to do has arisen in this step.
use Rattle.std.proofs.Common.{◌≡◌, inl, inr, subst, List, [], ◌∷◌, ◌++◌, refl, map, Bool, true, false, cond, Some}
use Rattle.pulsar_run.specs.Order.{arranged, put, put_all}
use Rattle.pulsar_run.specs.Run.{Entry, Begins, Then, Rules, agenda, first_of, rest_of, view}
use Rattle.pulsar_run.specs.Laws.{ActsArise, Arises, In, InOne, InThisStep}

-- each of a list is so
abbrev Each : {A : Type 0} → (A → Type 0) → List A → Type 0
Each P [] = Unit {0}
Each P (x ∷ xs) = P x × Each P xs

abbrev Every : {A : Type 0} → (A → Type 0) → List (List A) → Type 0
Every P [] = Unit {0}
Every P (xs ∷ xss) = Each P xs × Every P xss

each_append : {A : Type 0} (P : A → Type 0) (xs ys : List A) → Each P xs → Each P ys → Each P (xs ++ ys)
each_append P [] ys p q = q
each_append P (x ∷ xs) ys p q = (p.0, each_append P xs ys p.1 q)

every_append : {A : Type 0} (P : A → Type 0) (xss yss : List (List A)) → Every P xss → Every P yss → Every P (xss ++ yss)
every_append P [] yss p q = q
every_append P (xs ∷ xss) yss p q = (p.0, every_append P xss yss p.1 q)

each_put : {A : Type 0} (P : A → Type 0) (below : A → A → Bool) (x : A) (ys : List A) → P x → Each P ys → Each P (put below x ys)
each_put P below x [] p q = (p, tt)
each_put P below x (y ∷ ys) p q =
    elim (below x y) as (λ b. Each P (cond b (x ∷ y ∷ ys) (y ∷ put below x ys))) [ true ↦ (p, q) | false ↦ (q.0, each_put P below x ys p q.1) ]

each_put_all : {A : Type 0} (P : A → Type 0) (below : A → A → Bool) (xs ys : List A) → Each P xs → Each P ys → Each P (put_all below xs ys)
each_put_all P below [] ys p q = q
each_put_all P below (x ∷ xs) ys p q = each_put_all P below xs (put below x ys) p.1 (each_put P below x ys p.0 q)

every_arranged : {A : Type 0} (P : A → Type 0) (below : A → A → Bool) (xss : List (List A)) → Every P xss → Every P (map (arranged below) xss)
every_arranged P below [] p = tt
every_arranged P below (xs ∷ xss) p = (each_put_all P below xs [] p.0 tt, every_arranged P below xss p.1)

-- each of a list is in it
each_in : {A B : Type 0} (P : B → Type 0) (f : A → B) (xs : List A) → ((y : B) → In y (map f xs) → P y) → Each (λ x. P (f x)) xs
each_in P f [] k = tt
each_in P f (x ∷ xs) k = (k (f x) (inl refl), each_in P f xs (λ y i. k y (inr i)))

each_self : {A : Type 0} (P : A → Type 0) (xs : List A) → ((y : A) → In y xs → P y) → Each P xs
each_self P [] k = tt
each_self P (x ∷ xs) k = (k x (inl refl), each_self P xs (λ y i. k y (inr i)))

every_in : {A B : Type 0} (P : B → Type 0) (f : A → B) (xss : List (List A)) → ((y : B) → InOne y (map (map f) xss) → P y) → Every (λ x. P (f x)) xss
every_in P f [] k = tt
every_in P f (xs ∷ xss) k = (each_in P f xs (λ y i. k y (inl i)), every_in P f xss (λ y i. k y (inr i)))

each_more : {A : Type 0} (P Q : A → Type 0) (xs : List A) → ((x : A) → P x → Q x) → Each P xs → Each Q xs
each_more P Q [] k p = tt
each_more P Q (x ∷ xs) k p = (k x p.0, each_more P Q xs k p.1)

every_more : {A : Type 0} (P Q : A → Type 0) (xss : List (List A)) → ((x : A) → P x → Q x) → Every P xss → Every Q xss
every_more P Q [] k p = tt
every_more P Q (xs ∷ xss) k p = (each_more P Q xs k p.0, every_more P Q xss k p.1)

module _ {O H V A N P E : Type 0} (r : Rules O H V A N P E) where
  -- all that is left to do is so
  record Left (Q : A → Type 0) (now : List A) (here : List N) (behind : List (List N)) (parts : List P) : Type 0 where
    now_is : Each Q now
    here_is : Each (λ n. Q (r.told n)) here
    behind_is : Every (λ n. Q (r.told n)) behind
    parts_are : Each (λ p. Q (r.comes p)) parts

  first_is : (Q : A → Type 0) (now : List A) (here : List N) (behind : List (List N)) (parts : List P) (a : A) →
      Left Q now here behind parts → first_of r now here behind parts ≡ Some a → Q a
  first_is Q (b ∷ now) here behind parts a k h = let e : b ≡ a = cc in subst Q e k.now_is.0
  first_is Q [] (n ∷ here) behind parts a k h = let e : r.told n ≡ a = cc in subst Q e k.here_is.0
  first_is Q [] [] (cause ∷ behind) parts a k h =
      first_is Q [] cause behind parts a (record { now_is = tt; here_is = k.behind_is.0; behind_is = k.behind_is.1; parts_are = k.parts_are }) h
  first_is Q [] [] [] (part ∷ parts) a k h = let e : r.comes part ≡ a = cc in subst Q e k.parts_are.0
  first_is Q [] [] [] [] a k h = absurd cc

  rest_is : (Q : A → Type 0) (now : List A) (here : List N) (behind : List (List N)) (parts : List P) → Left Q now here behind parts →
      Left Q (rest_of now here behind parts).now (rest_of now here behind parts).here (rest_of now here behind parts).behind (rest_of now here behind parts).parts
  rest_is Q (a ∷ now) here behind parts k = record { now_is = k.now_is.1; here_is = k.here_is; behind_is = k.behind_is; parts_are = k.parts_are }
  rest_is Q [] (n ∷ here) behind parts k = record { now_is = tt; here_is = k.here_is.1; behind_is = k.behind_is; parts_are = k.parts_are }
  rest_is Q [] [] (cause ∷ behind) parts k =
      rest_is Q [] cause behind parts (record { now_is = tt; here_is = k.behind_is.0; behind_is = k.behind_is.1; parts_are = k.parts_are })
  rest_is Q [] [] [] (part ∷ parts) k = record { now_is = tt; here_is = tt; behind_is = tt; parts_are = k.parts_are.1 }
  rest_is Q [] [] [] [] k = record { now_is = tt; here_is = tt; behind_is = tt; parts_are = tt }

  abbrev Arisen : O → List (Entry H A) → A → Type 0
  Arisen o log a = InThisStep (Arises r o a) log

  left_is : (o : O) (log : List (Entry H A)) →
      Left (Arisen o log) (agenda r o log).now (agenda r o log).here (agenda r o log).behind (agenda r o log).parts
  left_is o [] = record { now_is = tt; here_is = tt; behind_is = tt; parts_are = tt }
  left_is o (Begins e ∷ log) = record {
    now_is = tt;
    here_is = tt;
    behind_is = tt;
    parts_are = each_in (Arisen o (Begins e ∷ log)) r.comes (r.parts o (view r o log) e) (λ y i. i);
  }
  left_is o (Then a ∷ log) =
      let g = agenda r o log in
      let older = rest_is (Arisen o log) g.now g.here g.behind g.parts (left_is o log) in
      let left = rest_of g.now g.here g.behind g.parts in
      let Q : A → Type 0 = Arisen o (Then a ∷ log) in
      record {
        now_is =
            each_append Q (r.at_once (view r o log) a) left.now (each_self Q (r.at_once (view r o log) a) (λ y i. inl (inl i)))
            (each_more (Arisen o log) Q left.now (λ x p. inr p) older.now_is);
        here_is =
            each_put_all (λ n. Q (r.told n)) r.below (r.joins (view r o log) a) left.here
            (each_in Q r.told (r.joins (view r o log) a) (λ y i. inl (inr (inl i))))
            (each_more (λ n. Arisen o log (r.told n)) (λ n. Q (r.told n)) left.here (λ x p. inr p) older.here_is);
        behind_is =
            every_append (λ n. Q (r.told n)) left.behind (map (arranged r.below) (r.causes (view r o log) a))
            (every_more (λ n. Arisen o log (r.told n)) (λ n. Q (r.told n)) left.behind (λ x p. inr p) older.behind_is)
            (every_arranged (λ n. Q (r.told n)) r.below (r.causes (view r o log) a) (every_in Q r.told (r.causes (view r o log) a) (λ y i. inl (inr (inr (inl i))))));
        parts_are =
            each_append (λ p. Q (r.comes p)) (r.further (view r o log) a) left.parts
            (each_in Q r.comes (r.further (view r o log) a) (λ y i. inl (inr (inr (inr i)))))
            (each_more (λ p. Arisen o log (r.comes p)) (λ p. Q (r.comes p)) left.parts (λ x p. inr p) older.parts_are);
      }

pub acts_arise_lem : (O H V A N P E : Type 0) → ActsArise O H V A N P E
acts_arise_lem O H V A N P E r o a log run =
    first_is r (Arisen r o log) (agenda r o log).now (agenda r o log).here (agenda r o log).behind (agenda r o log).parts a (left_is r o log) run.1
