-- What stands in a field of a message, by the field's number: of a kind, required, optional or repeated.
use Rattle.std.specs.Prelude.{ℕ, ℤ, Bool, List, [], Option, Some, None, ◌==◌, if◌then◌else◌}
use Rattle.pulsar_wire.specs.Row.{Required, Optional, Repeated, Text, Uint64, Int32, Flag, Row, End, Plain, Embedded, Numbers, Values}

-- the number that stands in field n, which is required
abbrev pub uint64_at : ℕ → (row : Row) → Values row → Option ℕ
uint64_at n End vs = None
uint64_at n (Plain m Required Uint64 row) vs = if m == n then Some vs.0 else uint64_at n row vs.1
uint64_at n (Plain m r k row) vs = uint64_at n row vs.1
uint64_at n (Embedded m r inner row) vs = uint64_at n row vs.1
uint64_at n (Numbers m row) vs = uint64_at n row vs.1

-- the signed number that stands in field n, which is required
abbrev pub int32_at : ℕ → (row : Row) → Values row → Option ℤ
int32_at n End vs = None
int32_at n (Plain m Required Int32 row) vs = if m == n then Some vs.0 else int32_at n row vs.1
int32_at n (Plain m r k row) vs = int32_at n row vs.1
int32_at n (Embedded m r inner row) vs = int32_at n row vs.1
int32_at n (Numbers m row) vs = int32_at n row vs.1

-- the text that stands in field n, which is required
abbrev pub text_at : ℕ → (row : Row) → Values row → Option (List ℕ)
text_at n End vs = None
text_at n (Plain m Required Text row) vs = if m == n then Some vs.0 else text_at n row vs.1
text_at n (Plain m r k row) vs = text_at n row vs.1
text_at n (Embedded m r inner row) vs = text_at n row vs.1
text_at n (Numbers m row) vs = text_at n row vs.1

-- the texts of field n, which may repeat
abbrev pub texts_at : ℕ → (row : Row) → Values row → List (List ℕ)
texts_at n End vs = []
texts_at n (Plain m Repeated Text row) vs = if m == n then vs.0 else texts_at n row vs.1
texts_at n (Plain m r k row) vs = texts_at n row vs.1
texts_at n (Embedded m r inner row) vs = texts_at n row vs.1
texts_at n (Numbers m row) vs = texts_at n row vs.1

-- the flag in field n, which may be absent
abbrev pub flag_at : ℕ → (row : Row) → Values row → Option Bool
flag_at n End vs = None
flag_at n (Plain m Optional Flag row) vs = if m == n then vs.0 else flag_at n row vs.1
flag_at n (Plain m r k row) vs = flag_at n row vs.1
flag_at n (Embedded m r inner row) vs = flag_at n row vs.1
flag_at n (Numbers m row) vs = flag_at n row vs.1
