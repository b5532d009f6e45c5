-- The words are a form.
use Rattle.std.proofs.Common.{◌≡◌, ℕ, Bool, true, false, refl}
use Rattle.std.specs.Prelude.{Option, Some, None, Result, Ok, Err, OnErr, if◌then◌else◌}
use Rattle.std.specs.Option.{option_map}
use Rattle.pulsar_work.specs.Form.{Asking}

pub on-err : {A E P : Type 0} (r : Result A E) → P → OnErr r P
on-err (Ok x) p = tt
on-err (Err e) p = p

pub produced : (b : Bool) (a : Asking) → b ≡ true → (x : Asking) × ((if b then Some a else None) ≡ Some x)
produced true a h = (a, refl)
produced false a h = absurd cc

pub consumed : (b : Bool) (o : Option ℕ) (n : ℕ) (f : ℕ → Asking) → b ≡ true → o ≡ Some n → (x : Asking) × ((if b then option_map f o else None) ≡ Some x)
consumed true (Some m) n f h is = (f m, refl)
consumed true None n f h is = absurd cc
consumed false o n f h is = absurd cc
