-- Whatever one is told has its cause before, in the same step.
use Rattle.std.proofs.Common.{◌≡◌, inl, inr, ◌∙◌, sym, ap, ℕ, List, ◌∷◌, refl, map, Option, Some, None, []}
use Rattle.std.specs.List.{filter_map, flat_map}
use Rattle.pulsar_laws.proofs.ActWords.{Notice, opens, Outcome, Told, Who}
use Rattle.pulsar_laws.proofs.RunWords.{Begins, Entry, In, InOne, InThisStep, IsRun, notice, Options, Then}
use Rattle.pulsar_laws.proofs.LinkWords.{tells_asker}
use Rattle.pulsar_calls.specs.Order.{alone}
use Rattle.pulsar_laws.proofs.Lists.{in_append}

-- LISTS

pub step_map : (o : Options) (P Q : Entry → List Entry → Type 0) → ((e : Entry) (older : List Entry) → IsRun o (e ∷ older) → P e older → Q e older) →
    (log : List Entry) → IsRun o log → InThisStep P log → InThisStep Q log
step_map o P Q f [] run h = absurd h
step_map o P Q f (Begins e ∷ log) run h = f (Begins e) log run h
step_map o P Q f (Then a ∷ log) run (inl h) = inl (f (Then a) log run h)
step_map o P Q f (Then a ∷ log) run (inr h) = inr (step_map o P Q f log run.0 h)

-- what is in a list of lists is in one of them
pub in_flat : {A B : Type 0} (f : A → List B) (y : B) (xs : List A) → In y (flat_map f xs) → (x : A) × In x xs × In y (f x)
in_flat f y [] h = absurd h
in_flat f y (x ∷ xs) h = elim (in_append y (f x) (flat_map f xs) h) [
  | inl i ↦ (x, inl refl, i)
  | inr i ↦ let k = in_flat f y xs i in (k.0, inr k.1, k.2)
]

-- what is told is a notice of the list
pub in_told : (n : Notice) (ns : List Notice) → In (Told n) (map Told ns) → In n ns
in_told n [] h = absurd h
in_told n (m ∷ ns) (inl e) = inl (let f : Told n ≡ Told m = e in cc)
in_told n (m ∷ ns) (inr h) = inr (in_told n ns h)

-- what some are told together, and what each is told alone
pub in_opened : (n : Notice) (ns : List Notice) → InOne (Told n) (map (map Told) (opens ns)) → In n ns
in_opened n [] h = absurd h
in_opened n (m ∷ ns) (inl h) = in_told n (m ∷ ns) h
in_opened n (m ∷ ns) (inr h) = absurd h

pub in_alone : (n : Notice) (ns : List Notice) → InOne (Told n) (map (map Told) (map alone ns)) → In n ns
in_alone n [] h = absurd h
in_alone n (m ∷ ns) (inl (inl e)) = inl (let f : Told n ≡ Told m = e in cc)
in_alone n (m ∷ ns) (inl (inr h)) = absurd h
in_alone n (m ∷ ns) (inr h) = inr (in_alone n ns h)

-- who asked for one of these places
pub record IsAsker (says : ℕ → Outcome) (askers : ℕ → Option Who) (places : List ℕ) (n : Notice) : Type 0 where
  pub place : ℕ
  pub listed : In place places
  pub asker : askers place ≡ Some n.who
  pub told : n.outcome ≡ says place

pub in_askers : (says : ℕ → Outcome) (askers : ℕ → Option Who) (places : List ℕ) (n : Notice) → In n (filter_map (tells_asker says askers) places) →
    IsAsker says askers places n
in_askers says askers [] n h = absurd h
in_askers says askers (p ∷ ps) n h = one (askers p) refl (in_askers says askers ps n) h
  where
    later : IsAsker says askers ps n → IsAsker says askers (p ∷ ps) n
    later k = record { place = k.place; listed = inr k.listed; asker = k.asker; told = k.told }

    one : (r : Option Who) → askers p ≡ r → (In n (filter_map (tells_asker says askers) ps) → IsAsker says askers ps n) →
        In n (filter_map (tells_asker says askers) (p ∷ ps)) →
        IsAsker says askers (p ∷ ps) n
    one None e more h = later (more (rw e at h))
    one (Some w) e more h = split (rw e at h)
      where
        split : In n (notice w (says p) ∷ filter_map (tells_asker says askers) ps) → IsAsker says askers (p ∷ ps) n
        split (inl f) = record { place = p; listed = inl refl; asker = e ∙ ap Some (sym (ap (λ m. m.who) f)); told = ap (λ m. m.outcome) f }
        split (inr i) = later (more i)
