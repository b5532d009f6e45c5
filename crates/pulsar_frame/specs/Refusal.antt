-- What is read of a frame, or the reason why it is refused.
use Rattle.std.specs.Prelude.{Bool, true, false, Option, Some, None, Result, Ok, Err}
use Rattle.pulsar_wire.specs.declared.error.Reason.{Reason}

-- what is refused stays refused, so the first reason stands
infixl 10 ◌>>=◌
abbrev pub ◌>>=◌ : {A B : Type 0} → Result A Reason → (A → Result B Reason) → Result B Reason
(Ok x) >>= f = f x
(Err r) >>= f = Err r

-- where there is nothing, this is the reason
abbrev pub or_refused : {A : Type 0} → Reason → Option A → Result A Reason
or_refused r (Some x) = Ok x
or_refused r None = Err r

-- where a test fails, this is the reason
abbrev pub refused_unless : Reason → Bool → Result (Unit {0}) Reason
refused_unless r true = Ok tt
refused_unless r false = Err r
