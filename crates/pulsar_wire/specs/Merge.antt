-- One more field: how it changes the values that were read so far. The last occurrence of a plain field counts, and the
-- occurrences of a message are joined.  (Protocol Buffers, Encoding: last one wins, packed repeated fields)
use Rattle.std.specs.Prelude.{ℕ, ℤ, List, [], ◌∷◌, ◌++◌, Option, Some, ◌==◌, if◌then◌else◌}
use Rattle.std.specs.Option.{unwrap_or}
use Rattle.pulsar_wire.specs.Field.{◌>>=◌, Value, Field, fields}
use Rattle.pulsar_wire.specs.Row.{Kind, Rule, Required, Optional, Repeated, Row, End, Plain, Embedded, Numbers, Held, Values, Content, content, delimited, numbers, none_of}

-- what a plain field holds with one more occurrence
abbrev pub with_next : {X : Type 0} (r : Rule) → Held r X → X → Held r X
with_next Required old x = x
with_next Optional old x = Some x
with_next Repeated old x = old ++ x ∷ []

-- one more part of a message: it goes into the one that is there, or is a further one
abbrev pub with_part : {X : Type 0} (r : Rule) → X → (X → Option X) → Held r X → Option (Held r X)
with_part Required d grow old = grow old
with_part Optional d grow old = grow (unwrap_or old d) >>= λ x. Some (Some x)
with_part Repeated d grow old = grow d >>= λ x. Some (old ++ x ∷ [])

-- the values after further fields
abbrev pub steps : {X : Type 0} → (X → Field → Option X) → X → List Field → Option X
steps step x [] = Some x
steps step x (f ∷ fs) = step x f >>= λ y. steps step y fs

-- a plain field with one more occurrence
abbrev pub put_plain : (r : Rule) (k : Kind) → Held r (Content k) → Value → Option (Held r (Content k))
put_plain r k old v = content k v >>= λ y. Some (with_next r old y)

-- a field of messages with one more occurrence
abbrev pub put_part : {X : Type 0} (r : Rule) → (X → Field → Option X) → X → Held r X → Value → Option (Held r X)
put_part r step d old v = delimited v >>= λ bytes. with_part r d (λ x. fields bytes >>= λ fs. steps step x fs) old

-- further numbers behind those that are there
abbrev pub with_numbers : List ℤ → Option (List ℤ) → Option (List ℤ)
with_numbers old new = new >>= λ ys. Some (old ++ ys)

-- a list of numbers with one more occurrence
abbrev pub put_numbers : List ℤ → Value → Option (List ℤ)
put_numbers old v = with_numbers old (numbers v)

-- the values of a row with one more field
unfoldable pub put : (row : Row) → Values row → Field → Option (Values row)
put End vs f = Some tt
put (Plain n r k row) vs f = do
  x ← if f.number == n then put_plain r k vs.0 f.value else Some vs.0
  xs ← put row vs.1 f
  Some (x, xs)
put (Embedded n r inner row) vs f = do
  x ← if f.number == n then put_part r (put inner) (none_of inner) vs.0 f.value else Some vs.0
  xs ← put row vs.1 f
  Some (x, xs)
put (Numbers n row) vs f = do
  x ← if f.number == n then put_numbers vs.0 f.value else Some vs.0
  xs ← put row vs.1 f
  Some (x, xs)

-- the values after the fields that more bytes spell
unfoldable pub merged : (row : Row) → Values row → List ℕ → Option (Values row)
merged row vs bytes = fields bytes >>= λ fs. steps (put row) vs fs
