-- Options and conditions, case by case.
use Rattle.std.proofs.Common.{◌≡◌, refl, Bool, true, false, cond, Some, None}

pub none_some : {A : Type 0} {x : A} → None ≡ Some x → ⊥
none_some {A} {x} h = cc

pub some_is : {A : Type 0} {x y : A} → Some x ≡ Some y → x ≡ y
some_is {A} {x} {y} h = cc

pub cond_so : {A : Type 0} (P : A → Type 0) (b : Bool) (x y : A) → P x → P y → P (cond b x y)
cond_so P true x y p q = p
cond_so P false x y p q = q

pub cond_when : {A : Type 0} (P : A → Type 0) (b : Bool) (x y : A) → (b ≡ true → P x) → (b ≡ false → P y) → P (cond b x y)
cond_when P true x y p q = p refl
cond_when P false x y p q = q refl
