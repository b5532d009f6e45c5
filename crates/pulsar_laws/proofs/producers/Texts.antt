-- The name that a broker gives to a producer is a text: what is read of a command says so.
use Rattle.std.proofs.Common.{◌≡◌, inl, inr, ◌∙◌, sym, ap, subst, ℕ, ℤ, ◌==◌, List, [], ◌∷◌, refl, Bool, true, false, cond, Option, Some, None}
use Rattle.std.proofs.lemmas.Bool.{cases_Bool}
use Rattle.std.proofs.lemmas.Str.{IsUtf8-nil, is_utf8-from_IsUtf8}
use Rattle.std.specs.List.{flat_map}
use Rattle.std.specs.Str.{is_utf8}
use Rattle.pulsar_wire.specs.At.{text_at}
use Rattle.pulsar_wire.specs.Command.{BodyValues, CommandValues, body_row, body_value, command_reading, heading, some_body, with_body, with_kind}
use Rattle.pulsar_wire.specs.Field.{◌>>=◌, Delimited, Field, Value, fields}
use Rattle.pulsar_wire.specs.Row.{Embedded, End, Numbers, Plain, Required, Row, Text, Values, content, delimited, each, embedded, last_or, numbers_of, occurrences, plain_of, reading, value}
use Rattle.pulsar_laws.proofs.Cases.{none_some, some_is}

abbrev pub IsText : List ℕ → Type 0
IsText t = is_utf8 t ≡ true

pub no_text : IsText []
no_text = is_utf8-from_IsUtf8 [] IsUtf8-nil

-- FIELDS

-- what comes of two steps comes of each
record Both {A B : Type 0} (x : Option A) (f : A → Option B) (y : B) : Type 0 where
  first : A
  is_first : x ≡ Some first
  is_then : f first ≡ Some y

both : {A B : Type 0} (x : Option A) (f : A → Option B) (y : B) → ◌>>=◌ x f ≡ Some y → Both x f y
both None f y h = absurd cc
both (Some a) f y h = record { first = a; is_first = refl; is_then = h }

text_read : (v : Value) (t : List ℕ) → content Text v ≡ Some t → IsText t
text_read (Delimited bytes) t h = by (is_utf8 bytes) refl h
  where
    by : (b : Bool) → is_utf8 bytes ≡ b → cond b (Some bytes) None ≡ Some t → IsText t
    by true e k = subst IsText (some_is k) e
    by false e k = absurd cc
text_read _ t h = absurd cc

texts_read : (vs : List Value) (ts : List (List ℕ)) (d : List ℕ) → each (content Text) vs ≡ Some ts → IsText d → IsText (last_or d ts)
texts_read [] ts d h k = subst (λ x. IsText (last_or d x)) (some_is h) k
texts_read (v ∷ vs) ts d h k =
    let a = both (content Text v) (λ y. ◌>>=◌ (each (content Text) vs) (λ ys. Some (y ∷ ys))) ts h in
    let b = both (each (content Text) vs) (λ ys. Some (a.first ∷ ys)) ts a.is_then in
    subst (λ x. IsText (last_or d x)) (some_is b.is_then) (texts_read vs b.first a.first b.is_first (text_read v a.first a.is_first))

plain_text : (vs : List Value) (t : List ℕ) → plain_of Required Text vs ≡ Some t → IsText t
plain_text vs t h =
    let a = both (each (content Text) vs) (λ xs. Some (last_or [] xs)) t h in
    subst IsText (some_is a.is_then) (texts_read vs a.first [] a.is_first no_text)

-- a row whose first field was read, and the others
record Parts {X : Type 0} (row : Row) (x : Option X) (fs : List Field) (vs : X × Values row) : Type 0 where
  head : x ≡ Some vs.0
  tail : value row fs ≡ Some vs.1

parts : {X : Type 0} (row : Row) (x : Option X) (fs : List Field) (vs : X × Values row) →
    ◌>>=◌ x (λ y. ◌>>=◌ (value row fs) (λ ys. Some (y, ys))) ≡ Some vs → Parts row x fs vs
parts row x fs vs h =
    let a = both x (λ y. ◌>>=◌ (value row fs) (λ ys. Some (y, ys))) vs h in
    let b = both (value row fs) (λ ys. Some (a.first, ys)) vs a.is_then in
    let e = some_is b.is_then in
    record { head = a.is_first ∙ ap (λ y. Some y.0) e; tail = b.is_first ∙ ap (λ y. Some y.1) e }

text_in_row : (n : ℕ) (row : Row) (fs : List Field) (vs : Values row) (t : List ℕ) → value row fs ≡ Some vs → text_at n row vs ≡ Some t → IsText t
unfolding value
text_in_row n End fs vs t h k = absurd (none_some k)
text_in_row n (Plain m Required Text row) fs vs t h k =
    let p = parts row (plain_of Required Text (occurrences m fs)) fs vs h in
    elim (cases_Bool (m == n)) [
      | inl e ↦
          (let i : Some vs.0 ≡ Some t = sym (ap (λ b. cond b (Some vs.0) (text_at n row vs.1)) e) ∙ k in
          subst IsText (some_is i) (plain_text (occurrences m fs) vs.0 p.head))
      | inr e ↦ text_in_row n row fs vs.1 t p.tail (sym (ap (λ b. cond b (Some vs.0) (text_at n row vs.1)) e) ∙ k)
    ]
text_in_row n (Plain m r k row) fs vs t h i = text_in_row n row fs vs.1 t (parts row (plain_of r k (occurrences m fs)) fs vs h).tail i
text_in_row n (Embedded m r inner row) fs vs t h k =
    text_in_row n row fs vs.1 t (parts row (embedded r (λ bytes. ◌>>=◌ (fields bytes) (value inner)) (occurrences m fs)) fs vs h).tail k
text_in_row n (Numbers m row) fs vs t h k = text_in_row n row fs vs.1 t (parts row (numbers_of (occurrences m fs)) fs vs h).tail k

-- COMMANDS

text_reading : (n : ℕ) (row : Row) (bytes : List ℕ) (vs : Values row) (t : List ℕ) → reading row bytes ≡ Some vs → text_at n row vs ≡ Some t → IsText t
unfolding reading
text_reading n row bytes vs t h k = let a = both (fields bytes) (value row) vs h in text_in_row n row a.first vs t a.is_then k

text_joined : (n m : ℕ) (row : Row) (fs : List Field) (vs : Values row) (t : List ℕ) → body_value m row fs ≡ Some vs → text_at n row vs ≡ Some t → IsText t
text_joined n m row fs vs t h k =
    let read : List ℕ → Option (Values row) = λ bytes. reading row bytes in
    let a = both (each delimited (occurrences m fs))
    (λ ps. ◌>>=◌ (each read ps) (λ xs. read (flat_map (λ x. x) ps))) vs h in
    let b = both (each read a.first) (λ xs. read (flat_map (λ x. x) a.first)) vs a.is_then in
    text_reading n row (flat_map (λ x. x) a.first) vs t b.is_then k

text_of_body : (n m : ℕ) (fs : List Field) (b : BodyValues) (t : List ℕ) → some_body m fs ≡ Some b → text_at n b.row b.values ≡ Some t → IsText t
unfolding some_body
text_of_body n m fs b t h k =
    let a = both (body_row m) (λ row. ◌>>=◌ (body_value m row fs) (λ x. Some (record { number = m; row = row; values = x }))) b h in
    let c = both (body_value m a.first fs) (λ x. Some (record { number = m; row = a.first; values = x })) b a.is_then in
    text_joined n m a.first fs c.first t c.is_first (ap (λ (y : BodyValues). text_at n y.row y.values) (some_is c.is_then) ∙ k)

abbrev pub HasTexts : CommandValues → Type 0
HasTexts c = (b : BodyValues) (n : ℕ) (t : List ℕ) → c.body ≡ Some b → text_at n b.row b.values ≡ Some t → IsText t

headed_texts : (fs : List Field) (kind : ℤ) (number : Option ℕ) (c : CommandValues) → with_body fs kind number ≡ Some c → HasTexts c
headed_texts fs kind None c h = λ b n t e k. absurd (none_some (ap (λ (x : CommandValues). x.body) (some_is h) ∙ e))
headed_texts fs kind (Some m) c h = λ b n t e k.
    (let a = both (some_body m fs) (λ x. Some (with_kind x)) c h in
    let same : a.first ≡ b = some_is (ap (λ (x : CommandValues). x.body) (some_is a.is_then) ∙ e) in
    text_of_body n m fs b t (a.is_first ∙ ap Some same) k)

pub command_texts : (bytes : List ℕ) (c : CommandValues) → command_reading bytes ≡ Some c → HasTexts c
unfolding command_reading
command_texts bytes c h =
    let a = both (fields bytes) (λ fs. ◌>>=◌ (heading fs) (λ x. with_body fs x.0 x.1)) c h in
    let b = both (heading a.first) (λ x. with_body a.first x.0 x.1) c a.is_then in
    headed_texts a.first b.first.0 b.first.1 c b.is_then
