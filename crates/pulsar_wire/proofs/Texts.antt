-- A text is UTF-8.
use Rattle.std.proofs.Common.{◌≡◌, ℕ, List, Some, None, refl, Bool, true, false, cond}
use Rattle.std.specs.Str.{IsUtf8, is_utf8}
use Rattle.std.proofs.lemmas.Str.{IsUtf8-from_is_utf8, is_utf8-from_IsUtf8}
use Rattle.pulsar_wire.specs.Field.{Value, Delimited}
use Rattle.pulsar_wire.specs.Row.{Text, content}

pub text_some : (v : Value) (bytes text : List ℕ) → v ≡ Delimited bytes → text ≡ bytes → IsUtf8 bytes → content Text v ≡ Some text
text_some v bytes text e same utf8 = rw (e, same, is_utf8-from_IsUtf8 bytes utf8) refl

refused : (bytes : List ℕ) (b : Bool) → is_utf8 bytes ≡ b → (IsUtf8 bytes → ⊥) → cond b (Some bytes) None ≡ None
refused bytes true e bad = absurd (bad (IsUtf8-from_is_utf8 bytes e))
refused bytes false e bad = refl

pub text_none : (v : Value) (bytes : List ℕ) → v ≡ Delimited bytes → (IsUtf8 bytes → ⊥) → content Text v ≡ None
text_none v bytes e bad = rw e (refused bytes (is_utf8 bytes) refl bad)
