-- Fields that no row has change nothing.
use Rattle.std.proofs.Common.{◌≡◌, ℕ, Bool, true, false, cond, eqb, ℤ, List, [], ◌∷◌, ◌++◌, Option, Some, None, refl, sym, ap, ◌∙◌}
use Rattle.std.specs.Option.{is_some}
use Rattle.std.proofs.lemmas.Bool.{eqb-true, ne_eqb}
use Rattle.pulsar_wire.specs.Field.{◌>>=◌, Field, fields}
use Rattle.pulsar_wire.specs.Row.{Row, End, Plain, Embedded, Numbers, occurrences, value, reading}
use Rattle.pulsar_wire.specs.Command.{CommandValues, body_row, bodies, heading, some_body, with_body, command_reading}
use Rattle.pulsar_wire.specs.Fits.{lacks, IsUnknown}
use Rattle.pulsar_wire.proofs.Fields.{some, fields-append}
use Rattle.pulsar_wire.proofs.RoundTrip.{Lacks, lacking, occurrences-append}

-- a field with another number is no occurrence
occurrences-skip : (m : ℕ) (before : List Field) (f : Field) (after : List Field) → eqb f.number m ≡ false → occurrences m (before ++ f ∷ after) ≡ occurrences m (before ++ after)
occurrences-skip m before f after other = occurrences-append m before (f ∷ after) ∙ (rw other (sym (occurrences-append m before after)))

value-skip : (row : Row) (before : List Field) (f : Field) (after : List Field) → Lacks f.number row → value row (before ++ f ∷ after) ≡ value row (before ++ after)
unfolding value
value-skip End before f after lacked = refl
value-skip (Plain m r k row) before f after lacked = rw (occurrences-skip m before f after lacked.0.0, value-skip row before f after lacked.1) refl
value-skip (Embedded m r inner row) before f after lacked = rw (occurrences-skip m before f after lacked.0.0, value-skip row before f after lacked.1) refl
value-skip (Numbers m row) before f after lacked = rw (occurrences-skip m before f after lacked.0.0, value-skip row before f after lacked.1) refl

skipped : {X : Type 0} (val : List Field → Option X) (before : List Field) (f : Field) → ((after : List Field) → val (before ++ f ∷ after) ≡ val (before ++ after)) → (o : Option (List Field))
    → (((o >>= λ gs. some (f ∷ gs)) >>= λ gs. some (before ++ gs)) >>= val) ≡ ((o >>= λ gs. some (before ++ gs)) >>= val)
skipped val before f unseen None = refl
skipped val before f unseen (Some gs) = unseen gs

-- a reader of fields that does not see a field does not see its bytes
bytes-skip : {X : Type 0} (val : List Field → Option X) (front bytes back : List ℕ) (before : List Field) (f : Field) → ((after : List Field) → val (before ++ f ∷ after) ≡ val (before ++ after))
    → fields front ≡ Some before → fields bytes ≡ Some (f ∷ []) → (fields (front ++ (bytes ++ back)) >>= val) ≡ (fields (front ++ back) >>= val)
bytes-skip val front bytes back before f unseen whole one =
    let more = fields-append front (bytes ++ back) before whole in
    let field = fields-append bytes back (f ∷ []) one in
    ap (λ o. o >>= val) (more ∙ rw field refl) ∙ (skipped val before f unseen (fields back) ∙ ap (λ o. o >>= val) (sym (fields-append front back before whole)))

pub row_skips : (row : Row) (front bytes back : List ℕ) (before : List Field) (f : Field) → fields front ≡ Some before → fields bytes ≡ Some (f ∷ []) → lacks f.number row ≡ true → reading row (front ++ (bytes ++ back)) ≡ reading row (front ++ back)
unfolding reading
row_skips row front bytes back before f whole one lacked = bytes-skip (value row) front bytes back before f (λ after. value-skip row before f after (lacking f.number row lacked)) whole one

-- ---- commands

bodies-next : (b : Bool) (n : ℕ) (xs ys : List ℕ) → xs ≡ ys → cond b (n ∷ xs) xs ≡ cond b (n ∷ ys) ys
bodies-next true n xs ys e = ap (λ l. n ∷ l) e
bodies-next false n xs ys e = e

bodies-skip : (before : List Field) (f : Field) (after : List Field) → body_row f.number ≡ None → bodies (before ++ f ∷ after) ≡ bodies (before ++ after)
bodies-skip [] f after unknown = rw unknown refl
bodies-skip (g ∷ before) f after unknown = bodies-next (is_some (body_row g.number)) g.number (bodies (before ++ f ∷ after)) (bodies (before ++ after)) (bodies-skip before f after unknown)

heading-skip : (before : List Field) (f : Field) (after : List Field) → IsUnknown f.number → heading (before ++ f ∷ after) ≡ heading (before ++ after)
heading-skip before f after unknown = rw (occurrences-skip 1 before f after (ne_eqb f.number 1 unknown.0), bodies-skip before f after unknown.1) refl

-- a known body has another number
pub other : (f n : ℕ) (row : Row) (b : Bool) → eqb f n ≡ b → body_row f ≡ None → body_row n ≡ Some row → b ≡ false
other f n row true e none has = absurd (let same = eqb-true f n e in let both = sym none ∙ (ap body_row same ∙ has) in cc)
other f n row false e none has = refl

pub body-skip : (n : ℕ) (before : List Field) (f : Field) (after : List Field) → body_row f.number ≡ None → (o : Option Row) → body_row n ≡ o → some_body n (before ++ f ∷ after) ≡ some_body n (before ++ after)
unfolding some_body
body-skip n before f after unknown None e = rw e refl
body-skip n before f after unknown (Some row) e = rw (e, occurrences-skip n before f after (other f.number n row (eqb f.number n) refl unknown e)) refl

with_body-skip : (before : List Field) (f : Field) (after : List Field) → body_row f.number ≡ None → (kind : ℤ) (number : Option ℕ) → with_body (before ++ f ∷ after) kind number ≡ with_body (before ++ after) kind number
with_body-skip before f after unknown kind None = refl
with_body-skip before f after unknown kind (Some n) = rw (body-skip n before f after unknown (body_row n) refl) refl

abbrev command_of : List Field → Option CommandValues
command_of fs = heading fs >>= λ h. with_body fs h.0 h.1

headed-skip : (before : List Field) (f : Field) (after : List Field) → body_row f.number ≡ None → (o : Option (ℤ × Option ℕ)) → (o >>= λ h. with_body (before ++ f ∷ after) h.0 h.1) ≡ (o >>= λ h. with_body (before ++ after) h.0 h.1)
headed-skip before f after unknown None = refl
headed-skip before f after unknown (Some h) = with_body-skip before f after unknown h.0 h.1

command-skip : (before : List Field) (f : Field) (after : List Field) → IsUnknown f.number → command_of (before ++ f ∷ after) ≡ command_of (before ++ after)
command-skip before f after unknown =
    ap (λ (o : Option (ℤ × Option ℕ)). o >>= λ h. with_body (before ++ f ∷ after) h.0 h.1) (heading-skip before f after unknown) ∙ headed-skip before f after unknown.1 (heading (before ++ after))

pub command_skips : (front bytes back : List ℕ) (before : List Field) (f : Field) → fields front ≡ Some before → fields bytes ≡ Some (f ∷ []) → IsUnknown f.number → command_reading (front ++ (bytes ++ back)) ≡ command_reading (front ++ back)
unfolding command_reading
command_skips front bytes back before f whole one unknown = bytes-skip command_of front bytes back before f (λ after. command-skip before f after unknown) whole one
