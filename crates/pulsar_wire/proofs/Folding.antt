-- Taking the fields one by one gives the values that the row says.
use Rattle.std.proofs.Common.{◌≡◌, ℕ, Bool, true, false, cond, eqb, ℤ, List, [], ◌∷◌, ◌++◌, Option, Some, None, refl, sym, ap, ◌∙◌, append_assoc}
use Rattle.std.specs.Option.{is_some, unwrap_or}
use Rattle.std.specs.List.{flat_map}
use Rattle.std.proofs.lemmas.List.{append-nil}
use Rattle.std.proofs.lemmas.List.Concat.{flat_map-cons}
use Rattle.std.proofs.lemmas.Grind.{flat_map-append}
use Rattle.pulsar_wire.specs.Field.{◌>>=◌, Value, Field, fields}
use Rattle.pulsar_wire.specs.Row.{absent, none_of, Kind, Rule, Required, Optional, Repeated, Row, End, Plain, Embedded, Numbers, Held, content, zero_of, each, last_or, last_of, occurrences, plain, delimited, joined, embedded, numbers, plain_of, numbers_of, value, reading}
use Rattle.pulsar_wire.specs.Merge.{with_next, with_part, put_plain, put_part, put_numbers, steps, put, merged}
use Rattle.pulsar_wire.proofs.Fields.{bind_some, bind_assoc, bind_some_id, some, fields-nil, fields-append}

-- values that are read from a list of fields, one field after the other
pub record Folds {X : Type 0} (val : List Field → Option X) (step : X → Field → Option X) (d : X) : Type 0 where
  pub start : val [] ≡ Some d
  pub push : (fs : List Field) (f : Field) → val (fs ++ f ∷ []) ≡ (val fs >>= λ x. step x f)
  pub alike : (x y : X) (f : Field) → is_some (step x f) ≡ is_some (step y f)

pub steps-more : {X : Type 0} (val : List Field → Option X) (step : X → Field → Option X) (d : X) → Folds val step d → (fs gs : List Field) → val (fs ++ gs) ≡ (val fs >>= λ x. steps step x gs)
steps-more val step d fold fs [] = ap val (append-nil fs) ∙ sym (bind_some_id (val fs))
steps-more val step d fold fs (g ∷ gs) =
    ap val (sym (append_assoc fs (g ∷ []) gs)) ∙ (steps-more val step d fold (fs ++ g ∷ []) gs ∙ (ap (λ o. o >>= λ x. steps step x gs) (fold.push fs g) ∙ bind_assoc (val fs) (λ x. step x g) (λ x. steps step x gs)))

-- from the first field on
pub steps-all : {X : Type 0} (val : List Field → Option X) (step : X → Field → Option X) (d : X) → Folds val step d → (fs : List Field) → steps step d fs ≡ val fs
steps-all val step d fold fs = sym (steps-more val step d fold [] fs ∙ rw fold.start refl)

steps-alike-next : {X : Type 0} (step : X → Field → Option X) (fs : List Field) (a b : Option X) → is_some a ≡ is_some b → ((x y : X) → is_some (steps step x fs) ≡ is_some (steps step y fs)) → is_some (a >>= λ x. steps step x fs) ≡ is_some (b >>= λ x. steps step x fs)
steps-alike-next step fs None None e same = refl
steps-alike-next step fs None (Some y) e same = absurd cc
steps-alike-next step fs (Some x) None e same = absurd cc
steps-alike-next step fs (Some x) (Some y) e same = same x y

steps-alike : {X : Type 0} (step : X → Field → Option X) → ((x y : X) (f : Field) → is_some (step x f) ≡ is_some (step y f)) → (fs : List Field) (x y : X) → is_some (steps step x fs) ≡ is_some (steps step y fs)
steps-alike step alike [] x y = refl
steps-alike step alike (f ∷ fs) x y = steps-alike-next step fs (step x f) (step y f) (alike x y f) (steps-alike step alike fs)

-- ---- lists of occurrences

occurrences-one : (n : ℕ) (f : Field) (b : Bool) → cond b (f.value ∷ []) [] ≡ [] ++ cond b (f.value ∷ []) []
occurrences-one n f b = refl

occurrences-cons : (n : ℕ) (g : Field) (b : Bool) (fs : List Field) (all : List Value) (last : List Value) → all ≡ occurrences n fs ++ last
    → cond b (g.value ∷ all) all ≡ cond b (g.value ∷ occurrences n fs) (occurrences n fs) ++ last
occurrences-cons n g true fs all last e = ap (λ (l : List Value). g.value ∷ l) e
occurrences-cons n g false fs all last e = e

each-push-next : {B : Type 0} (z : Option B) (ys : Option (List B)) (y : Option B) (all : Option (List B)) → all ≡ (ys >>= λ ys. y >>= λ y. Some (ys ++ y ∷ []))
    → (z >>= λ z. all >>= λ l. Some (z ∷ l)) ≡ ((z >>= λ z. ys >>= λ ys. Some (z ∷ ys)) >>= λ ys. y >>= λ y. Some (ys ++ y ∷ []))
each-push-next None ys y all e = refl
each-push-next (Some z) None y all e = rw e refl
each-push-next (Some z) (Some ys) None all e = rw e refl
each-push-next (Some z) (Some ys) (Some y) all e = rw e refl

pub occurrences-push : (n : ℕ) (fs : List Field) (f : Field) → occurrences n (fs ++ f ∷ []) ≡ occurrences n fs ++ cond (eqb f.number n) (f.value ∷ []) []
occurrences-push n [] f = occurrences-one n f (eqb f.number n)
occurrences-push n (g ∷ fs) f = occurrences-cons n g (eqb g.number n) fs (occurrences n (fs ++ f ∷ [])) (cond (eqb f.number n) (f.value ∷ []) []) (occurrences-push n fs f)

each-push : {A B : Type 0} (f : A → Option B) (xs : List A) (x : A) → each f (xs ++ x ∷ []) ≡ (each f xs >>= λ ys. f x >>= λ y. Some (ys ++ y ∷ []))
each-push f [] x = refl
each-push f (z ∷ xs) x = each-push-next (f z) (each f xs) (f x) (each f (xs ++ x ∷ [])) (each-push f xs x)

abbrev pub pair : {A B : Type 0} → A → B → Option (A × B)
pair x y = Some (x, y)

abbrev nothing : {A : Type 0} → Option A
nothing = None

-- ---- one field of a row

-- a value that is read from its occurrences, one after the other
pub record Grows {H : Type 0} (read : List Value → Option H) (grow : H → Value → Option H) (none : H) : Type 0 where
  pub start : read [] ≡ Some none
  pub push : (vs : List Value) (v : Value) → read (vs ++ v ∷ []) ≡ (read vs >>= λ x. grow x v)
  pub alike : (x y : H) (v : Value) → is_some (grow x v) ≡ is_some (grow y v)

abbrev pub one_or_none : {H : Type 0} → Bool → (H → Value → Option H) → H → Value → Option H
one_or_none b grow x v = cond b (grow x v) (Some x)

pub field-push : {H : Type 0} (read : List Value → Option H) (grow : H → Value → Option H) (none : H) → Grows read grow none → (b : Bool) (vs : List Value) (v : Value)
    → read (vs ++ cond b (v ∷ []) []) ≡ (read vs >>= λ x. one_or_none b grow x v)
field-push read grow none g true vs v = g.push vs v
field-push read grow none g false vs v = ap read (append-nil vs) ∙ sym (bind_some_id (read vs))

pub none-after : {H X : Type 0} (a : Option H) → (a >>= λ x. nothing {A = X}) ≡ nothing {A = X}
none-after None = refl
none-after (Some x) = refl

pub pair-push : {H X : Type 0} (a : Option H) (b : Option X) (f : H → Option H) (g : X → Option X)
    → ((a >>= f) >>= λ x. (b >>= g) >>= λ xs. pair x xs) ≡ ((a >>= λ x. b >>= λ xs. pair x xs) >>= λ p. f p.0 >>= λ x. g p.1 >>= λ xs. pair x xs)
pair-push None b f g = refl
pair-push (Some x) None f g = none-after (f x)
pair-push (Some x) (Some xs) f g = refl

field-alike : {H : Type 0} (grow : H → Value → Option H) (b : Bool) (x y : H) (v : Value) → is_some (grow x v) ≡ is_some (grow y v) → is_some (one_or_none b grow x v) ≡ is_some (one_or_none b grow y v)
field-alike grow true x y v e = e
field-alike grow false x y v e = refl

pair-alike : {H X : Type 0} (a b : Option H) (c d : Option X) → is_some a ≡ is_some b → is_some c ≡ is_some d → is_some (a >>= λ x. c >>= λ xs. pair x xs) ≡ is_some (b >>= λ x. d >>= λ xs. pair x xs)
pair-alike None None c d e f = refl
pair-alike None (Some y) c d e f = absurd cc
pair-alike (Some x) None c d e f = absurd cc
pair-alike (Some x) (Some y) None None e f = refl
pair-alike (Some x) (Some y) None (Some v) e f = absurd cc
pair-alike (Some x) (Some y) (Some u) None e f = absurd cc
pair-alike (Some x) (Some y) (Some u) (Some v) e f = refl

-- a row with one more field
extended : {H X : Type 0} (n : ℕ) (read : List Value → Option H) (grow : H → Value → Option H) (none : H) (val : List Field → Option X) (step : X → Field → Option X) (d : X) → Grows read grow none → Folds val step d
    → Folds {X = H × X} (λ fs. read (occurrences n fs) >>= λ x. val fs >>= λ xs. pair x xs) (λ p f. one_or_none (eqb f.number n) grow p.0 f.value >>= λ x. step p.1 f >>= λ xs. pair x xs) (none, d)
extended n read grow none val step d g h = record {
  start = rw (g.start, h.start) refl;
  push = λ fs f. rw (occurrences-push n fs f, field-push read grow none g (eqb f.number n) (occurrences n fs) f.value, h.push fs f) (pair-push (read (occurrences n fs)) (val fs) (λ x. one_or_none (eqb f.number n) grow x f.value) (λ x. step x f));
  alike = λ x y f. pair-alike _ _ _ _ (field-alike grow (eqb f.number n) x.0 y.0 f.value (g.alike x.0 y.0 f.value)) (h.alike x.1 y.1 f);
}

-- ---- plain fields

last_or-push : {A : Type 0} (d : A) (xs : List A) (y : A) → last_or d (xs ++ y ∷ []) ≡ y
last_or-push d [] y = refl
last_or-push d (x ∷ xs) y = last_or-push x xs y

last_of-push : {A : Type 0} (xs : List A) (y : A) → last_of (xs ++ y ∷ []) ≡ Some y
last_of-push [] y = refl
last_of-push (x ∷ xs) y = ap some (last_or-push x xs y)

plain-push : {X : Type 0} (r : Rule) (d : X) (xs : List X) (y : X) → plain r d (xs ++ y ∷ []) ≡ with_next r (plain r d xs) y
plain-push Required d xs y = last_or-push d xs y
plain-push Optional d xs y = last_of-push xs y
plain-push Repeated d xs y = refl

plain-nil : {X : Type 0} (r : Rule) (d : X) → plain r d [] ≡ absent r d
plain-nil Required d = refl
plain-nil Optional d = refl
plain-nil Repeated d = refl

plain-next : {X : Type 0} (r : Rule) (d : X) (xs : Option (List X)) (y : Option X)
    → ((xs >>= λ xs. y >>= λ y. Some (xs ++ y ∷ [])) >>= λ xs. Some (plain r d xs)) ≡ ((xs >>= λ xs. Some (plain r d xs)) >>= λ old. y >>= λ y. Some (with_next r old y))
plain-next r d None y = refl
plain-next r d (Some xs) None = refl
plain-next r d (Some xs) (Some y) = ap some (plain-push r d xs y)

some-alike : {A B : Type 0} (o : Option A) (f g : A → B) → is_some (o >>= λ x. Some (f x)) ≡ is_some (o >>= λ x. Some (g x))
some-alike None f g = refl
some-alike (Some x) f g = refl

pub plain-grows : (r : Rule) (k : Kind) → Grows (plain_of r k) (put_plain r k) (absent r (zero_of k))
plain-grows r k = record {
  start = ap some (plain-nil r (zero_of k));
  push = λ vs v. rw (each-push (content k) vs v) (plain-next r (zero_of k) (each (content k) vs) (content k v));
  alike = λ x y v. some-alike (content k v) (with_next r x) (with_next r y);
}

flat-push : {A : Type 0} (xs : List (List A)) (y : List A) → flat_map (λ x. x) (xs ++ y ∷ []) ≡ flat_map (λ x. x) xs ++ y
flat-push {A} xs y = flat_map-append (λ x. x) xs (y ∷ []) ∙ ap (λ (l : List A). flat_map (λ x. x) xs ++ l) (append-nil y)

numbers-next : (xs : Option (List (List ℤ))) (y : Option (List ℤ))
    → ((xs >>= λ xs. y >>= λ y. Some (xs ++ y ∷ [])) >>= λ xs. Some (flat_map (λ x. x) xs)) ≡ ((xs >>= λ xs. Some (flat_map (λ x. x) xs)) >>= λ old. y >>= λ y. Some (old ++ y))
numbers-next None y = refl
numbers-next (Some xs) None = refl
numbers-next (Some xs) (Some y) = ap some (flat-push xs y)

numbers-grow : Grows numbers_of put_numbers []
numbers-grow = record {
  start = refl;
  push = λ vs v. rw (each-push numbers vs v) (numbers-next (each numbers vs) (numbers v));
  alike = λ x y v. some-alike (numbers v) (λ ys. x ++ ys) (λ ys. y ++ ys);
}

-- ---- messages

-- one more part, after which the values are those of all fields
abbrev merge : {X : Type 0} → (X → Field → Option X) → List ℕ → X → Option X
merge step bytes x = fields bytes >>= λ fs. steps step x fs

abbrev pub read_by : {X : Type 0} → (List Field → Option X) → List ℕ → Option X
read_by val bytes = fields bytes >>= val

read-alone-next : {X : Type 0} (val : List Field → Option X) (step : X → Field → Option X) (d : X) → Folds val step d → (o : Option (List Field)) → (o >>= val) ≡ (o >>= λ fs. steps step d fs)
read-alone-next val step d fold None = refl
read-alone-next val step d fold (Some fs) = sym (steps-all val step d fold fs)

read-append-next : {X : Type 0} (val : List Field → Option X) (step : X → Field → Option X) (d : X) → Folds val step d → (fs : List Field) (y : X) → val fs ≡ Some y → (o : Option (List Field)) → ((o >>= λ gs. Some (fs ++ gs)) >>= val) ≡ (o >>= λ gs. steps step y gs)
read-append-next val step d fold fs y whole None = refl
read-append-next val step d fold fs y whole (Some gs) = steps-more val step d fold fs gs ∙ rw whole refl

read-alone : {X : Type 0} (val : List Field → Option X) (step : X → Field → Option X) (d : X) → Folds val step d → (bytes : List ℕ) → read_by val bytes ≡ merge step bytes d
read-alone val step d fold bytes = read-alone-next val step d fold (fields bytes)

read-append : {X : Type 0} (val : List Field → Option X) (step : X → Field → Option X) (d : X) → Folds val step d → (a b : List ℕ) (fs : List Field) (y : X) → fields a ≡ Some fs → val fs ≡ Some y → read_by val (a ++ b) ≡ merge step b y
read-append val step d fold a b fs y e whole = rw (fields-append a b fs e) (read-append-next val step d fold fs y whole (fields b))

merge-alike : {X : Type 0} (step : X → Field → Option X) → ((x y : X) (f : Field) → is_some (step x f) ≡ is_some (step y f)) → (o : Option (List Field)) (x y : X) → is_some (o >>= λ fs. steps step x fs) ≡ is_some (o >>= λ fs. steps step y fs)
merge-alike step alike None x y = refl
merge-alike step alike (Some fs) x y = steps-alike step alike fs x y

some_from : {X : Type 0} (o : Option X) → is_some o ≡ true → (x : X) × (o ≡ Some x)
some_from (Some x) e = (x, refl)
some_from None e = absurd cc

abbrev concat : {A : Type 0} → List (List A) → List A
concat parts = flat_map (λ x. x) parts

-- parts that are well formed make a whole that is
parts-joined : {X : Type 0} (val : List Field → Option X) (step : X → Field → Option X) (d : X) → Folds val step d → (parts : List (List ℕ)) (xs : List X) → each (read_by val) parts ≡ Some xs
    → (fs : List Field) × (y : X) × (fields (concat parts) ≡ Some fs) × (val fs ≡ Some y)
parts-joined val step d fold [] xs e = ([], d, fields-nil, fold.start)
parts-joined val step d fold (p ∷ parts) xs e =
    let x = bind_some (read_by val p) (λ y. each (read_by val) parts >>= λ ys. Some (y ∷ ys)) xs e in
    let ys = bind_some (each (read_by val) parts) (λ ys. Some (x.0 ∷ ys)) xs x.2 in
    let gs = bind_some (fields p) val x.0 x.1 in
    let h = parts-joined val step d fold parts ys.0 ys.1 in
    let joined_fields : fields (concat (p ∷ parts)) ≡ Some (gs.0 ++ h.0) = ap fields (flat_map-cons (λ x. x) p parts) ∙ (fields-append p (concat parts) gs.0 gs.1 ∙ rw h.2 refl) in
    let is_whole : val (gs.0 ++ h.0) ≡ steps step x.0 h.0 = steps-more val step d fold gs.0 h.0 ∙ rw gs.2 refl in
    let alike : is_some (steps step x.0 h.0) ≡ true = steps-alike step fold.alike h.0 x.0 d ∙ (ap is_some (steps-all val step d fold h.0) ∙ ap is_some h.3) in
    let y = some_from (steps step x.0 h.0) alike in
    (gs.0 ++ h.0, y.0, joined_fields, is_whole ∙ y.1)

guarded : {X Y Z : Type 0} (a : Option X) (f : X → Y) (o : Option Z) → is_some a ≡ is_some o → ((a >>= λ x. Some (f x)) >>= λ y. o) ≡ o
guarded (Some x) f o e = refl
guarded None f None e = refl
guarded None f (Some z) e = absurd cc

is_some-map : {X Y : Type 0} (o : Option X) (f : X → Y) → is_some (o >>= λ x. Some (f x)) ≡ is_some o
is_some-map None f = refl
is_some-map (Some x) f = refl

abbrev wrapped : {X : Type 0} → Option X → Option (Option X)
wrapped o = o >>= λ x. Some (Some x)

embedded-last : {X : Type 0} (r : Rule) (val : List Field → Option X) (step : X → Field → Option X) (d : X) → Folds val step d → (parts : List (List ℕ)) (xs : List X) (b : List ℕ) → each (read_by val) parts ≡ Some xs
    → ((read_by val b >>= λ x. Some (xs ++ x ∷ [])) >>= λ zs. joined r (read_by val) (parts ++ b ∷ []) zs) ≡ (joined r (read_by val) parts xs >>= λ x. with_part r d (merge step b) x)
embedded-last {X} Repeated val step d fold parts xs b e = rw (read-alone val step d fold b) (bind_assoc (merge step b d) (λ x. Some (xs ++ x ∷ [])) (λ zs. Some zs))
embedded-last {X} Required val step d fold parts xs b e =
    let h = parts-joined val step d fold parts xs e in
    let whole : read_by val (concat (parts ++ b ∷ [])) ≡ merge step b h.1 = ap (read_by val) (flat-push parts b) ∙ read-append val step d fold (concat parts) b h.0 h.1 h.2 h.3 in
    let before : read_by val (concat parts) ≡ Some h.1 = rw h.2 h.3 in
    let alike : is_some (read_by val b) ≡ is_some (merge step b h.1) = ap is_some (read-alone val step d fold b) ∙ merge-alike step fold.alike (fields b) d h.1 in
    rw (whole, before) (guarded (read_by val b) (λ x. xs ++ x ∷ []) (merge step b h.1) alike)
embedded-last {X} Optional val step d fold [] xs b e =
    let one : concat (b ∷ []) ≡ b = append-nil b in
    let same = read-alone val step d fold b in
    rw (one, same) (guarded (merge step b d) (λ x. xs ++ x ∷ []) (wrapped (merge step b d)) (sym (is_some-map (merge step b d) (λ x. Some x))))
embedded-last {X} Optional val step d fold (p ∷ parts) xs b e =
    let h = parts-joined val step d fold (p ∷ parts) xs e in
    let whole : read_by val (concat ((p ∷ parts) ++ b ∷ [])) ≡ merge step b h.1 = ap (read_by val) (flat-push (p ∷ parts) b) ∙ read-append val step d fold (concat (p ∷ parts)) b h.0 h.1 h.2 h.3 in
    let before : read_by val (concat (p ∷ parts)) ≡ Some h.1 = rw h.2 h.3 in
    let alike : is_some (read_by val b) ≡ is_some (merge step b h.1) = ap is_some (read-alone val step d fold b) ∙ merge-alike step fold.alike (fields b) d h.1 in
    rw (whole, before) (guarded (read_by val b) (λ x. xs ++ x ∷ []) (wrapped (merge step b h.1)) (alike ∙ sym (is_some-map (merge step b h.1) (λ x. Some x))))

embedded-more : {X : Type 0} (r : Rule) (val : List Field → Option X) (step : X → Field → Option X) (d : X) → Folds val step d → (parts : List (List ℕ)) (b : List ℕ) (o : Option (List X)) → each (read_by val) parts ≡ o
    → (each (read_by val) (parts ++ b ∷ []) >>= λ xs. joined r (read_by val) (parts ++ b ∷ []) xs) ≡ ((o >>= λ xs. joined r (read_by val) parts xs) >>= λ x. with_part r d (merge step b) x)
embedded-more r val step d fold parts b None e = rw (each-push (read_by val) parts b, e) refl
embedded-more r val step d fold parts b (Some xs) e = rw (each-push (read_by val) parts b, e) (embedded-last r val step d fold parts xs b e)

embedded-push : {X : Type 0} (r : Rule) (val : List Field → Option X) (step : X → Field → Option X) (d : X) → Folds val step d → (ps : Option (List (List ℕ))) (b : Option (List ℕ))
    → ((ps >>= λ parts. b >>= λ bytes. Some (parts ++ bytes ∷ [])) >>= λ parts. each (read_by val) parts >>= λ xs. joined r (read_by val) parts xs)
    ≡ ((ps >>= λ parts. each (read_by val) parts >>= λ xs. joined r (read_by val) parts xs) >>= λ x. b >>= λ bytes. with_part r d (merge step bytes) x)
embedded-push r val step d fold None b = refl
embedded-push r val step d fold (Some parts) None = sym (none-after (each (read_by val) parts >>= λ xs. joined r (read_by val) parts xs))
embedded-push r val step d fold (Some parts) (Some b) = embedded-more r val step d fold parts b (each (read_by val) parts) refl

part-alike : {X : Type 0} (r : Rule) (step : X → Field → Option X) (d : X) → ((x y : X) (f : Field) → is_some (step x f) ≡ is_some (step y f)) → (b : List ℕ) (x y : Held r X) → is_some (with_part r d (merge step b) x) ≡ is_some (with_part r d (merge step b) y)
part-alike Required step d alike b x y = merge-alike step alike (fields b) x y
part-alike Optional step d alike b x y =
    is_some-map (merge step b (unwrap_or x d)) (λ z. Some z) ∙ (merge-alike step alike (fields b) (unwrap_or x d) (unwrap_or y d) ∙ sym (is_some-map (merge step b (unwrap_or y d)) (λ z. Some z)))
part-alike Repeated step d alike b x y = some-alike (merge step b d) (λ z. x ++ z ∷ []) (λ z. y ++ z ∷ [])

parts-alike : {X : Type 0} (r : Rule) (step : X → Field → Option X) (d : X) → ((x y : X) (f : Field) → is_some (step x f) ≡ is_some (step y f)) → (o : Option (List ℕ)) (x y : Held r X) → is_some (o >>= λ b. with_part r d (merge step b) x) ≡ is_some (o >>= λ b. with_part r d (merge step b) y)
parts-alike r step d alike None x y = refl
parts-alike r step d alike (Some b) x y = part-alike r step d alike b x y

embedded-nil : {X : Type 0} (r : Rule) (val : List Field → Option X) (step : X → Field → Option X) (d : X) → Folds val step d → joined r (read_by val) [] [] ≡ Some (absent r d)
embedded-nil Required val step d fold = rw fields-nil fold.start
embedded-nil Optional val step d fold = refl
embedded-nil Repeated val step d fold = refl

pub embedded-grows : {X : Type 0} (r : Rule) (val : List Field → Option X) (step : X → Field → Option X) (d : X) → Folds val step d → Grows (embedded r (read_by val)) (put_part r step d) (absent r d)
embedded-grows r val step d fold = record {
  start = embedded-nil r val step d fold;
  push = λ vs v. rw (each-push delimited vs v) (embedded-push r val step d fold (each delimited vs) (delimited v));
  alike = λ x y v. parts-alike r step d fold.alike (delimited v) x y;
}

-- ---- all rows

pub folds : (row : Row) → Folds (value row) (put row) (none_of row)
unfolding value put
folds End = record { start = refl; push = λ fs f. refl; alike = λ x y f. refl }
folds (Plain n r k row) = extended n (plain_of r k) (put_plain r k) (absent r (zero_of k)) (value row) (put row) (none_of row) (plain-grows r k) (folds row)
folds (Embedded n r inner row) = extended n (embedded r (read_by (value inner))) (put_part r (put inner) (none_of inner)) (absent r (none_of inner)) (value row) (put row) (none_of row) (embedded-grows r (value inner) (put inner) (none_of inner) (folds inner)) (folds row)
folds (Numbers n row) = extended n numbers_of put_numbers [] (value row) (put row) (none_of row) numbers-grow (folds row)

-- taking all fields of the bytes is reading them
pub merged-reading : (row : Row) (bytes : List ℕ) → merged row (none_of row) bytes ≡ reading row bytes
unfolding merged reading
merged-reading row bytes = sym (read-alone (value row) (put row) (none_of row) (folds row) bytes)
