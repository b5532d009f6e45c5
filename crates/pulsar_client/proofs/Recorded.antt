-- What is said of an answer follows from what is said of it else.
use Rattle.std.specs.Prelude.{IfOk, Result, Ok, Err}

pub each_ok : {T E : Type 0} (P Q : T → Type 0) (r : Result T E) → ((x : T) → P x → Q x) → IfOk r P → IfOk r Q
each_ok P Q (Ok x) f h = f x h
each_ok P Q (Err e) f h = tt
