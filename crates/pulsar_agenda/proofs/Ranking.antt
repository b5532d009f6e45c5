-- Where one is put by rank, as its place is looked for from the last on.
use Rattle.std.proofs.Common.{◌≡◌, ◌∙◌, ◌<◌, ◌+◌, ℕ, suc, ap, sym, subst, arith, Bool, true, false, cond, List, [], ◌∷◌, ◌++◌, append_assoc, drop, get_or, length, refl, take}
use Rattle.std.proofs.Math.Seq.{drop-cons}
use Rattle.std.proofs.lemmas.List.{take-append-drop, take_more}
use Rattle.std.specs.Cmp.{IsStrictWeakOrder}
use Rattle.pulsar_run.specs.Order.{InOrder, NoneBelow, put}

module _ {A : Type 0} (below : A → A → Bool) where
  none_at : (x y : A) (xs ys : List A) → NoneBelow below x (xs ++ y ∷ ys) → below y x ≡ false
  none_at x y [] ys k = k.0
  none_at x y (z ∷ xs) ys k = none_at x y xs ys k.1

  -- behind one that it does not rank below
  put_behind : IsStrictWeakOrder below → (x y : A) (xs ys : List A) → InOrder below (xs ++ y ∷ ys) → below x y ≡ false →
      put below x (xs ++ y ∷ ys) ≡ xs ++ y ∷ put below x ys
  put_behind o x y [] ys k h = rw h refl
  put_behind o x y (z ∷ xs) ys k h =
      let above : below x z ≡ false = o.chain x y z h (none_at z y xs ys k.0) in
      rw above (ap (λ zs. z ∷ zs) (put_behind o x y xs ys k.1 h))

  next_from : (xs : List A) (p : ℕ) (d : A) → p < length xs → drop p xs ≡ get_or xs p d ∷ drop (p + 1) xs
  next_from xs p d lt = let e : suc p ≡ p + 1 = omega arith in drop-cons xs p d lt ∙ ap (λ n. get_or xs p d ∷ drop n xs) e

  -- before one that it ranks below
  pub put_before : (x d : A) (xs : List A) (p : ℕ) → p < length xs → below x (get_or xs p d) ≡ true → put below x (drop p xs) ≡ x ∷ drop p xs
  put_before x d xs p lt h =
      let all = next_from xs p d lt in
      ap (put below x) all ∙ ap (λ b. cond b (x ∷ get_or xs p d ∷ drop (p + 1) xs) (get_or xs p d ∷ put below x (drop (p + 1) xs))) h ∙ ap (λ ys. x ∷ ys) (sym all)

  pub put_next : IsStrictWeakOrder below → (x d : A) (xs : List A) (p next : ℕ) → next ≡ p + 1 → InOrder below xs → p < length xs →
      below x (get_or xs p d) ≡ false → put below x (drop next xs) ≡ x ∷ drop next xs → put below x xs ≡ take next xs ++ x ∷ drop next xs
  put_next o x d xs p next is k lt h further =
      let y = get_or xs p d in
      let all : xs ≡ take p xs ++ y ∷ drop next xs =
      sym (take-append-drop p xs) ∙ ap (λ ys. take p xs ++ ys) (next_from xs p d lt) ∙ ap (λ n. take p xs ++ y ∷ drop n xs) (sym is)
      in
      ap (put below x) all
      ∙ put_behind o x y (take p xs) (drop next xs) (subst (InOrder below) all k) h
      ∙ ap (λ ys. take p xs ++ y ∷ ys) further
      ∙ sym (append_assoc (take p xs) (y ∷ []) (x ∷ drop next xs))
      ∙ ap (λ ys. ys ++ x ∷ drop next xs) (sym (take_more xs p d lt) ∙ ap (λ n. take n xs) (sym is))
