-- Reading a command, one field after the other.
use Rattle.std.proofs.Common.{◌≡◌, ℕ, ℤ, pos, Bool, true, false, cond, eqb, eq-eqb, ◌&&◌, List, [], ◌∷◌, ◌++◌, Option, Some, None, refl, sym, ap, ◌∙◌, append_assoc}
use Rattle.std.specs.Option.{is_some}
use Rattle.std.specs.List.{list_all}
use Rattle.std.proofs.lemmas.Bool.{eqb-true}
use Rattle.std.proofs.lemmas.List.{append-nil}
use Rattle.pulsar_wire.specs.Field.{◌>>=◌, Value, Field, fields}
use Rattle.pulsar_wire.specs.Row.{Int32, Required, Row, Values, none_of, plain_of, embedded, occurrences, value, reading}
use Rattle.pulsar_wire.specs.Merge.{steps, put, put_plain, put_part}
use Rattle.pulsar_wire.specs.Run.{run}
use Rattle.pulsar_wire.specs.Command.{BodyValues, CommandValues, with_kind, with_body, some_body, settled, command_reading, body_row, bodies, only, heading, body_value}
use Rattle.pulsar_wire.specs.CommandMerge.{empty_body, grown, joined_body, command_step}
use Rattle.pulsar_wire.proofs.Fields.{bind_assoc, bind_some_id}
use Rattle.pulsar_wire.proofs.Folding.{one_or_none, none-after, pair, field-push, occurrences-push, plain-grows, embedded-grows, read_by, folds}
use Rattle.pulsar_wire.proofs.Unknown.{other, body-skip}

-- values that are read one field after the other
pub record Goes {X : Type 0} (val : List Field → Option X) (step : X → Field → Option X) (d : X) : Type 0 where
  pub start : val [] ≡ Some d
  pub push : (fs : List Field) (f : Field) → val (fs ++ f ∷ []) ≡ (val fs >>= λ x. step x f)

goes-more : {X : Type 0} (val : List Field → Option X) (step : X → Field → Option X) (d : X) → Goes val step d → (fs gs : List Field) → val (fs ++ gs) ≡ (val fs >>= λ x. steps step x gs)
goes-more val step d goes fs [] = ap val (append-nil fs) ∙ sym (bind_some_id (val fs))
goes-more val step d goes fs (g ∷ gs) =
    ap val (sym (append_assoc fs (g ∷ []) gs)) ∙ (goes-more val step d goes (fs ++ g ∷ []) gs ∙ (ap (λ o. o >>= λ x. steps step x gs) (goes.push fs g) ∙ bind_assoc (val fs) (λ x. step x g) (λ x. steps step x gs)))

goes-all : {X : Type 0} (val : List Field → Option X) (step : X → Field → Option X) (d : X) → Goes val step d → (o : Option (List Field)) → (o >>= λ fs. steps step d fs) ≡ (o >>= val)
goes-all val step d goes None = refl
goes-all val step d goes (Some fs) = sym (goes-more val step d goes [] fs ∙ rw goes.start refl)

pub run-goes : {X : Type 0} (val : List Field → Option X) (step : X → Field → Option X) (d : X) → Goes val step d → (bytes : List ℕ) → run step d bytes ≡ (fields bytes >>= val)
unfolding run
run-goes val step d goes bytes = goes-all val step d goes (fields bytes)

-- ---- the numbers of the bodies

abbrev some_number : ℕ → Option (Option ℕ)
some_number n = Some (Some n)

-- the number of the body, where one more body stands there
abbrev next_number : Option ℕ → ℕ → Option (Option ℕ)
next_number None m = Some (Some m)
next_number (Some n) m = cond (eqb m n) (some_number n) None

bodies-next : (b : Bool) (n : ℕ) (ns all last : List ℕ) → all ≡ ns ++ last → cond b (n ∷ all) all ≡ cond b (n ∷ ns) ns ++ last
bodies-next true n ns all last e = ap (λ (l : List ℕ). n ∷ l) e
bodies-next false n ns all last e = e

bodies-push : (fs : List Field) (f : Field) → bodies (fs ++ f ∷ []) ≡ bodies fs ++ cond (is_some (body_row f.number)) (f.number ∷ []) []
bodies-push [] f = refl
bodies-push (g ∷ fs) f = bodies-next (is_some (body_row g.number)) g.number (bodies fs) (bodies (fs ++ f ∷ [])) (cond (is_some (body_row f.number)) (f.number ∷ []) []) (bodies-push fs f)

one : (b : Bool) → (b && true) ≡ b
one true = refl
one false = refl

all-next : (b c d : Bool) (e : Bool) → e ≡ cond c d false → (b && e) ≡ cond (b && c) d false
all-next true c d e h = h
all-next false c d e h = refl

all-push : (p : ℕ → Bool) (ns : List ℕ) (m : ℕ) → list_all p (ns ++ m ∷ []) ≡ cond (list_all p ns) (p m) false
all-push p [] m = one (p m)
all-push p (n ∷ ns) m = all-next (p n) (list_all p ns) (p m) (list_all p (ns ++ m ∷ [])) (all-push p ns m)

only-next : (b : Bool) (n m : ℕ) → cond (cond b (eqb m n) false) (some_number n) None ≡ (cond b (some_number n) None >>= λ x. next_number x m)
only-next true n m = refl
only-next false n m = refl

only-push : (ns : List ℕ) (m : ℕ) → only (ns ++ m ∷ []) ≡ (only ns >>= λ x. next_number x m)
only-push [] m = refl
only-push (n ∷ ns) m = rw (all-push (λ k. eqb k n) ns m) (only-next (list_all (λ k. eqb k n) ns) n m)

only-field : (b : Bool) (ns : List ℕ) (m : ℕ) → only (ns ++ cond b (m ∷ []) []) ≡ (only ns >>= λ x. cond b (next_number x m) (Some x))
only-field true ns m = only-push ns m
only-field false ns m = ap only (append-nil ns) ∙ sym (bind_some_id (only ns))

-- ---- where no body stands

no_number : (b : Bool) (n : ℕ) → cond b (some_number n) None ≡ Some None → false ≡ true
no_number true n e = absurd cc
no_number false n e = absurd cc

only-none : (ns : List ℕ) → only ns ≡ Some None → ns ≡ []
only-none [] e = refl
only-none (n ∷ ns) e = absurd (let no = no_number (list_all (λ m. eqb m n) ns) n e in cc)

occurrences-next : (fs : List Field) (f : Field) (m : ℕ) (row : Row) (r : Option Row) → body_row f.number ≡ r → body_row m ≡ Some row → cond (is_some r) (f.number ∷ bodies fs) (bodies fs) ≡ [] → (bodies fs ≡ [] → occurrences m fs ≡ [])
    → cond (eqb f.number m) (f.value ∷ occurrences m fs) (occurrences m fs) ≡ []
occurrences-next fs f m row None unknown known e before = rw (other f.number m row (eqb f.number m) refl unknown known) (before e)
occurrences-next fs f m row (Some r) unknown known e before = absurd cc

occurrences-none : (fs : List Field) (m : ℕ) (row : Row) → body_row m ≡ Some row → bodies fs ≡ [] → occurrences m fs ≡ []
occurrences-none [] m row known e = refl
occurrences-none (f ∷ fs) m row known e = occurrences-next fs f m row (body_row f.number) refl known e (occurrences-none fs m row known)

-- ---- the body

abbrev body_made : (n : ℕ) (row : Row) → Values row → BodyValues
body_made n row x = record { number = n; row = row; values = x }

abbrev some_made : (n : ℕ) (row : Row) → Values row → Option BodyValues
some_made n row x = Some (body_made n row x)

abbrev some_body_made : BodyValues → Option (Option BodyValues)
some_body_made b = Some (Some b)

-- the body of this number that fields say
abbrev numbered : List Field → Option ℕ → Option (Option BodyValues)
numbered fs None = Some None
numbered fs (Some n) = some_body n fs >>= some_body_made

-- the body that fields say, if they say one
abbrev bodied : List Field → Option (Option BodyValues)
bodied fs = only (bodies fs) >>= numbered fs

abbrev part : (row : Row) → Values row → Value → Option (Values row)
part row x v = put_part Required (put row) (none_of row) x v

value-push : (n : ℕ) (row : Row) (fs : List Field) (f : Field) → body_value n row (fs ++ f ∷ []) ≡ (body_value n row fs >>= λ x. one_or_none (eqb f.number n) (part row) x f.value)
unfolding reading
value-push n row fs f =
    let g = embedded-grows Required (value row) (put row) (none_of row) (folds row) in
    rw (occurrences-push n fs f) (field-push (embedded Required (read_by (value row))) (put_part Required (put row) (none_of row)) (none_of row) g (eqb f.number n) (occurrences n fs) f.value)

value-none : (n : ℕ) (row : Row) (fs : List Field) → occurrences n fs ≡ [] → body_value n row fs ≡ Some (none_of row)
unfolding reading
value-none n row fs e = rw e ((embedded-grows Required (value row) (put row) (none_of row) (folds row)).start)

-- the first part of a body
first-part : (fs : List Field) (f : Field) (row : Row) → body_row f.number ≡ Some row → occurrences f.number fs ≡ [] → (some_body f.number (fs ++ f ∷ []) >>= some_body_made) ≡ joined_body f.number None f.value
unfolding some_body joined_body empty_body grown
first-part fs f row known e = rw (known, value-push f.number row fs f, value-none f.number row fs e, eq-eqb f.number f.number refl) refl

more-next : (n : ℕ) (row : Row) (o : Option (Values row)) (v : Value) → (((o >>= λ x. part row x v) >>= some_made n row) >>= some_body_made) ≡ (((o >>= some_made n row) >>= some_body_made) >>= λ b. joined_body n b v)
unfolding joined_body grown
more-next n row None v = refl
more-next n row (Some x) v = rw (eq-eqb n n refl) refl

-- a further part of a body
more-part : (fs : List Field) (f : Field) (row : Row) → body_row f.number ≡ Some row → (some_body f.number (fs ++ f ∷ []) >>= some_body_made) ≡ ((some_body f.number fs >>= some_body_made) >>= λ b. joined_body f.number b f.value)
unfolding some_body
more-part fs f row known = rw (known, value-push f.number row fs f, eq-eqb f.number f.number refl) (more-next f.number row (body_value f.number row fs) f.value)

abbrev none_body : Option (Option BodyValues)
none_body = None

two-next : (m n : ℕ) (row : Row) (o : Option (Values row)) (v : Value) → eqb m n ≡ false → none_body ≡ (((o >>= some_made n row) >>= some_body_made) >>= λ b. joined_body m b v)
unfolding joined_body
two-next m n row None v apart = refl
two-next m n row (Some x) v apart = rw apart refl

two-found : (fs : List Field) (m n : ℕ) (v : Value) (r : Option Row) → eqb m n ≡ false → none_body ≡ (((r >>= λ row. body_value n row fs >>= some_made n row) >>= some_body_made) >>= λ b. joined_body m b v)
two-found fs m n v None apart = refl
two-found fs m n v (Some row) apart = two-next m n row (body_value n row fs) v apart

-- a part of another body
two-parts : (fs : List Field) (m n : ℕ) (v : Value) → eqb m n ≡ false → none_body ≡ ((some_body n fs >>= some_body_made) >>= λ b. joined_body m b v)
unfolding some_body
two-parts fs m n v apart = two-found fs m n v (body_row n) apart

known-next : (fs : List Field) (f : Field) (row : Row) (n : ℕ) (b : Bool) → body_row f.number ≡ Some row → eqb f.number n ≡ b
    → (cond b (some_number n) None >>= numbered (fs ++ f ∷ [])) ≡ ((some_body n fs >>= some_body_made) >>= λ b. joined_body f.number b f.value)
known-next fs f row n true known e = let same = eqb-true f.number n e in rw (← same) (more-part fs f row known)
known-next fs f row n false known e = two-parts fs f.number n f.value e

unknown-next : (fs : List Field) (f : Field) (n : ℕ) → body_row f.number ≡ None → (some_body n (fs ++ f ∷ []) >>= some_body_made) ≡ ((some_body n fs >>= some_body_made) >>= λ b. Some b)
unknown-next fs f n unknown =
    ap (λ (o : Option BodyValues). o >>= some_body_made) (body-skip n fs f [] unknown (body_row n) refl ∙ ap (some_body n) (append-nil fs)) ∙ sym (bind_some_id (some_body n fs >>= some_body_made))

bodied-next : (fs : List Field) (f : Field) (r : Option Row) (o : Option (Option ℕ)) → body_row f.number ≡ r → only (bodies fs) ≡ o
    → ((o >>= λ x. cond (is_some r) (next_number x f.number) (Some x)) >>= numbered (fs ++ f ∷ [])) ≡ ((o >>= numbered fs) >>= λ b. cond (is_some r) (joined_body f.number b f.value) (Some b))
bodied-next fs f r None known e = refl
bodied-next fs f None (Some None) unknown e = refl
bodied-next fs f None (Some (Some n)) unknown e = unknown-next fs f n unknown
bodied-next fs f (Some row) (Some None) known e = first-part fs f row known (occurrences-none fs f.number row known (only-none (bodies fs) e))
bodied-next fs f (Some row) (Some (Some n)) known e = known-next fs f row n (eqb f.number n) known refl

bodied-push : (fs : List Field) (f : Field) → bodied (fs ++ f ∷ []) ≡ (bodied fs >>= λ b. cond (is_some (body_row f.number)) (joined_body f.number b f.value) (Some b))
bodied-push fs f =
    rw (bodies-push fs f, only-field (is_some (body_row f.number)) (bodies fs) f.number) (bodied-next fs f (body_row f.number) (only (bodies fs)) refl refl)

-- ---- the command

abbrev made : ℤ → Option BodyValues → Option CommandValues
made kind body = Some (record { kind = kind; body = body })

-- the command that fields say, before its body decides its kind
abbrev open_command : List Field → Option CommandValues
open_command fs = plain_of Required Int32 (occurrences 1 fs) >>= λ kind. bodied fs >>= made kind

made-push : (a : Option ℤ) (b : Option (Option BodyValues)) (f : ℤ → Option ℤ) (g : Option BodyValues → Option (Option BodyValues))
    → ((a >>= f) >>= λ x. (b >>= g) >>= made x) ≡ ((a >>= λ x. b >>= made x) >>= λ c. f c.kind >>= λ x. g c.body >>= made x)
made-push None b f g = refl
made-push (Some x) None f g = none-after (f x)
made-push (Some x) (Some y) f g = refl

command-goes : Goes open_command command_step (record { kind = pos 0; body = None })
unfolding command_step
command-goes =
    let g = plain-grows Required Int32 in
    record {
      start = refl;
      push = λ fs f. rw (occurrences-push 1 fs f, field-push (plain_of Required Int32) (put_plain Required Int32) (pos 0) g (eqb f.number 1) (occurrences 1 fs) f.value, bodied-push fs f)
          (made-push (plain_of Required Int32 (occurrences 1 fs)) (bodied fs) (λ x. one_or_none (eqb f.number 1) (put_plain Required Int32) x f.value) (λ b. cond (is_some (body_row f.number)) (joined_body f.number b f.value) (Some b)));
    }

some-settled : (kind : ℤ) (o : Option BodyValues) → (((o >>= some_body_made) >>= made kind) >>= λ c. Some (settled c)) ≡ (o >>= λ b. Some (with_kind b))
some-settled kind None = refl
some-settled kind (Some b) = refl

open-settled : (fs : List Field) (kind : Option ℤ) (number : Option (Option ℕ))
    → ((kind >>= λ k. (number >>= numbered fs) >>= made k) >>= λ c. Some (settled c)) ≡ ((kind >>= λ k. number >>= λ n. pair k n) >>= λ h. with_body fs h.0 h.1)
open-settled fs None number = refl
open-settled fs (Some k) None = refl
open-settled fs (Some k) (Some None) = refl
open-settled fs (Some k) (Some (Some n)) = some-settled k (some_body n fs)

all-settled : (o : Option (List Field)) → ((o >>= open_command) >>= λ c. Some (settled c)) ≡ (o >>= λ fs. heading fs >>= λ h. with_body fs h.0 h.1)
all-settled None = refl
all-settled (Some fs) = open-settled fs (plain_of Required Int32 (occurrences 1 fs)) (only (bodies fs))

-- a command that was read field by field, and whose body decides its kind, is the command that the bytes spell
pub command-run : (bytes : List ℕ) → (run command_step (record { kind = pos 0; body = None }) bytes >>= λ c. Some (settled c)) ≡ command_reading bytes
unfolding command_reading
command-run bytes = ap (λ (o : Option CommandValues). o >>= λ c. Some (settled c)) (run-goes open_command command_step (record { kind = pos 0; body = None }) command-goes bytes) ∙ all-settled (fields bytes)

-- the same from a command that says as little
pub command-run_from : (start : CommandValues) (bytes : List ℕ) → start ≡ record { kind = pos 0; body = None } → (run command_step start bytes >>= λ c. Some (settled c)) ≡ command_reading bytes
command-run_from start bytes empty = rw empty (command-run bytes)
