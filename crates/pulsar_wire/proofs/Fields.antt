-- Lists of fields: they go on where bytes go on.
use Rattle.std.proofs.Common.{◌≡◌, ℕ, zero, suc, ◌+◌, ◌*◌, ◌-◌, ◌%◌, ◌/◌, ◌^◌, ◌<◌, ◌≤◌, Bool, true, false, cond, ltb, eqb, List, [], ◌∷◌, ◌++◌, length, take, drop, Option, Some, None, refl, sym, ap, ◌∙◌, length-append, arith, inl, inr, ◌⊎◌}
use Rattle.std.proofs.lemmas.Bool.{le-ltb, ltb-false}
use Rattle.std.proofs.lemmas.List.{length-drop, take-append-le, drop-append-le}
use Rattle.pulsar_wire.specs.Field.{◌>>=◌, Varint, Eight, Delimited, Four, Field, varint_within, varint_at, bytes_at, value_at, field_at, fields_within, fields}

-- the value of a step that has one
pub bind_some : {A B : Type 0} (o : Option A) (f : A → Option B) (y : B) → (o >>= f) ≡ Some y → (x : A) × (o ≡ Some x) × (f x ≡ Some y)
bind_some (Some x) f y e = (x, refl, e)
bind_some None f y e = absurd cc

pub bind_assoc : {A B C : Type 0} (o : Option A) (f : A → Option B) (g : B → Option C) → ((o >>= f) >>= g) ≡ (o >>= λ x. f x >>= g)
bind_assoc None f g = refl
bind_assoc (Some x) f g = refl

pub bind_some_id : {A : Type 0} (o : Option A) → (o >>= λ x. Some x) ≡ o
bind_some_id None = refl
bind_some_id (Some x) = refl

-- which way a test went
pub chosen : {A : Type 0} (b : Bool) (x y z : A) → cond b x y ≡ z → ((b ≡ true) × (x ≡ z)) ⊎ ((b ≡ false) × (y ≡ z))
chosen true x y z e = inl (refl, e)
chosen false x y z e = inr (refl, e)

abbrev pub some : {A : Type 0} → A → Option A
some x = Some x

pub some_is : {A : Type 0} (x y : A) → some x ≡ some y → x ≡ y
some_is x y e = cc

-- A reader takes something from the front: what follows is shorter, and what comes after that stays.
pub record Takes {A : Type 0} (reads : List ℕ → Option (A × List ℕ)) (least : ℕ) : Type 0 where
  pub shorter : (bytes : List ℕ) (x : A) (rest : List ℕ) → reads bytes ≡ Some (x, rest) → length rest + least ≤ length bytes
  pub goes_on : (bytes : List ℕ) (x : A) (rest after : List ℕ) → reads bytes ≡ Some (x, rest) → reads (bytes ++ after) ≡ Some (x, rest ++ after)

varint-shorter : (more : ℕ) (bytes : List ℕ) (n : ℕ) (rest : List ℕ) → varint_within more bytes ≡ Some (n, rest) → length rest + 1 ≤ length bytes
unfolding varint_within
varint-shorter zero [] n rest e = absurd cc
varint-shorter (suc more) [] n rest e = absurd cc
varint-shorter zero (b ∷ bytes) n rest e =
    elim (chosen (ltb b 2) (some (b, bytes)) None (some (n, rest)) e) [
      | inl h ↦ let same = ap (λ (p : ℕ × List ℕ). length p.1) (some_is _ _ h.1) in omega arith
      | inr h ↦ absurd (let no = h.1 in cc)
    ]
varint-shorter (suc more) (b ∷ bytes) n rest e =
    elim (chosen (ltb b 128) (some (b, bytes)) (varint_within more bytes >>= λ high. Some (b - 128 + 128 * high.0, high.1)) (some (n, rest)) e) [
      | inl h ↦ let same = ap (λ (p : ℕ × List ℕ). length p.1) (some_is _ _ h.1) in omega arith
      | inr h ↦
          let x = bind_some (varint_within more bytes) (λ high. Some (b - 128 + 128 * high.0, high.1)) (n, rest) h.1 in
          let same = ap (λ (p : ℕ × List ℕ). length p.1) (some_is _ _ x.2) in
          omega (arith, varint-shorter more bytes x.0.0 x.0.1 x.1)
    ]

varint-goes_on : (more : ℕ) (bytes : List ℕ) (n : ℕ) (rest after : List ℕ) → varint_within more bytes ≡ Some (n, rest) → varint_within more (bytes ++ after) ≡ Some (n, rest ++ after)
unfolding varint_within
varint-goes_on zero [] n rest after e = absurd cc
varint-goes_on (suc more) [] n rest after e = absurd cc
varint-goes_on zero (b ∷ bytes) n rest after e =
    elim (chosen (ltb b 2) (some (b, bytes)) None (some (n, rest)) e) [
      | inl h ↦ rw h.0 (ap (λ (p : ℕ × List ℕ). some (p.0, p.1 ++ after)) (some_is _ _ h.1))
      | inr h ↦ absurd (let no = h.1 in cc)
    ]
varint-goes_on (suc more) (b ∷ bytes) n rest after e =
    elim (chosen (ltb b 128) (some (b, bytes)) (varint_within more bytes >>= λ high. Some (b - 128 + 128 * high.0, high.1)) (some (n, rest)) e) [
      | inl h ↦ rw h.0 (ap (λ (p : ℕ × List ℕ). some (p.0, p.1 ++ after)) (some_is _ _ h.1))
      | inr h ↦
          let x = bind_some (varint_within more bytes) (λ high. Some (b - 128 + 128 * high.0, high.1)) (n, rest) h.1 in
          rw (h.0, varint-goes_on more bytes x.0.0 x.0.1 after x.1) (ap (λ (p : ℕ × List ℕ). some (p.0, p.1 ++ after)) (some_is _ _ x.2))
    ]

pub varint-takes : Takes varint_at 1
varint-takes = record { shorter = varint-shorter 9; goes_on = varint-goes_on 9 }

pub bytes-takes : (n : ℕ) → Takes (bytes_at n) 0
unfolding bytes_at
bytes-takes n = record {
  shorter = λ bytes x rest e. elim (chosen (ltb (length bytes) n) None (some (take n bytes, drop n bytes)) (some (x, rest)) e) [
    | inl h ↦ absurd (let no = h.1 in cc)
    | inr h ↦ let same = ap (λ (p : List ℕ × List ℕ). length p.1) (some_is _ _ h.1) in omega (arith, length-drop n bytes)
  ];
  goes_on = λ bytes x rest after e. elim (chosen (ltb (length bytes) n) None (some (take n bytes, drop n bytes)) (some (x, rest)) e) [
    | inl h ↦ absurd (let no = h.1 in cc)
    | inr h ↦
        let le : n ≤ length bytes = ltb-false _ _ h.0 in
        let long : ltb (length (bytes ++ after)) n ≡ false = le-ltb _ _ (omega (arith, length-append bytes after)) in
        rw (long, take-append-le n bytes after le, drop-append-le n bytes after le) (ap (λ (p : List ℕ × List ℕ). some (p.0, p.1 ++ after)) (some_is _ _ h.1))
  ];
}

Takes-then : {A B : Type 0} (reads : List ℕ → Option (A × List ℕ)) (least : ℕ) (next : A → List ℕ → Option (B × List ℕ)) → Takes reads least → ((x : A) → Takes (next x) 0) → Takes (λ bytes. reads bytes >>= λ x. next x.0 x.1) least
Takes-then reads least next t u = record {
  shorter = λ bytes y rest e.
      let x = bind_some (reads bytes) (λ x. next x.0 x.1) (y, rest) e in
      omega (arith, t.shorter bytes x.0.0 x.0.1 x.1, (u x.0.0).shorter x.0.1 y rest x.2);
  goes_on = λ bytes y rest after e.
      let x = bind_some (reads bytes) (λ x. next x.0 x.1) (y, rest) e in
      rw (t.goes_on bytes x.0.0 x.0.1 after x.1) ((u x.0.0).goes_on x.0.1 y rest after x.2);
}

Takes-some : {A : Type 0} (x : A) → Takes (λ bytes. some (x, bytes)) 0
Takes-some x = record {
  shorter = λ bytes y rest e. let same = ap (λ p. length p.1) (some_is _ _ e) in omega arith;
  goes_on = λ bytes y rest after e. ap (λ p. some (p.0, p.1 ++ after)) (some_is _ _ e);
}

Takes-none : {A : Type 0} (n : ℕ) → Takes {A = A} (λ bytes. None) n
Takes-none n = record { shorter = λ bytes y rest e. absurd cc; goes_on = λ bytes y rest after e. absurd cc }

Takes-if : {A : Type 0} (b : Bool) (f g : List ℕ → Option (A × List ℕ)) (n : ℕ) → Takes f n → Takes g n → Takes (λ bytes. cond b (f bytes) (g bytes)) n
Takes-if true f g n t u = t
Takes-if false f g n t u = u

Takes-fewer : {A : Type 0} (f : List ℕ → Option (A × List ℕ)) → Takes f 1 → Takes f 0
Takes-fewer f t = record { shorter = λ bytes x rest e. omega (arith, t.shorter bytes x rest e); goes_on = t.goes_on }

pub value-takes : (wire : ℕ) → Takes (value_at wire) 0
unfolding value_at
value-takes wire =
    Takes-if (eqb wire 0) _ _ 0 (Takes-then varint_at 0 (λ n rest. some (Varint n, rest)) (Takes-fewer varint_at varint-takes) (λ n. Takes-some (Varint n)))
    (Takes-if (eqb wire 1) _ _ 0 (Takes-then (bytes_at 8) 0 (λ x rest. some (Eight x, rest)) (bytes-takes 8) (λ x. Takes-some (Eight x)))
    (Takes-if (eqb wire 2) _ _ 0 (Takes-then varint_at 0 (λ n rest. bytes_at n rest >>= λ x. some (Delimited x.0, x.1)) (Takes-fewer varint_at varint-takes)
    (λ n. Takes-then (bytes_at n) 0 (λ x rest. some (Delimited x, rest)) (bytes-takes n) (λ x. Takes-some (Delimited x))))
    (Takes-if (eqb wire 5) _ _ 0 (Takes-then (bytes_at 4) 0 (λ x rest. some (Four x, rest)) (bytes-takes 4) (λ x. Takes-some (Four x)))
    (Takes-none 0))))

pub field-takes : Takes field_at 1
unfolding field_at
field-takes =
    Takes-then varint_at 1 (λ key rest. cond (ltb key 8) None (cond (ltb key (2 ^ 32)) (value_at (key % 8) rest >>= λ x. some (record { number = key / 8; value = x.0 }, x.1)) None)) varint-takes
    (λ key. Takes-if (ltb key 8) _ _ 0 (Takes-none 0) (Takes-if (ltb key (2 ^ 32)) _ _ 0
    (Takes-then (value_at (key % 8)) 0 (λ x rest. some (record { number = key / 8; value = x }, rest)) (value-takes (key % 8)) (λ x. Takes-some (record { number = key / 8; value = x })))
    (Takes-none 0)))

-- the bound doesn't matter where it is high enough
within-next : (k m x : ℕ) (bytes : List ℕ) (o : Option (Field × List ℕ)) → field_at (x ∷ bytes) ≡ o → length bytes ≤ k → length bytes ≤ m
    → ((rest : List ℕ) → length rest ≤ k → length rest ≤ m → fields_within k rest ≡ fields_within m rest)
    → (o >>= λ first. fields_within k first.1 >>= λ others. Some (first.0 ∷ others)) ≡ (o >>= λ first. fields_within m first.1 >>= λ others. Some (first.0 ∷ others))
within-next k m x bytes None e a b same = refl
within-next k m x bytes (Some f) e a b same =
    let short = field-takes.shorter (x ∷ bytes) f.0 f.1 e in
    ap (λ (o : Option (List Field)). o >>= λ others. some (f.0 ∷ others)) (same f.1 (omega arith) (omega arith))

within-any : (k m : ℕ) (bytes : List ℕ) → length bytes ≤ k → length bytes ≤ m → fields_within k bytes ≡ fields_within m bytes
unfolding fields_within
within-any zero zero bytes a b = refl
within-any k m [] a b = refl
within-any zero m (x ∷ bytes) a b = absurd (omega arith)
within-any (suc k) zero (x ∷ bytes) a b = absurd (omega arith)
within-any (suc k) (suc m) (x ∷ bytes) a b = within-next k m x bytes (field_at (x ∷ bytes)) refl (omega arith) (omega arith) (within-any k m)

pub fields-nil : fields [] ≡ Some []
unfolding fields fields_within
fields-nil = refl

-- a field, and the fields after it
pub fields-next : (bytes : List ℕ) (f : Field) (rest : List ℕ) → field_at bytes ≡ Some (f, rest) → fields bytes ≡ (fields rest >>= λ fs. Some (f ∷ fs))
unfolding fields fields_within
fields-next [] f rest e = let short = field-takes.shorter [] f rest e in absurd (omega arith)
fields-next (x ∷ bytes) f rest e =
    let short = field-takes.shorter (x ∷ bytes) f rest e in
    rw e (ap (λ (o : Option (List Field)). o >>= λ others. some (f ∷ others)) (within-any (length bytes) (length rest) rest (omega arith) (omega arith)))

-- no field stands there
pub fields-stop : (bytes : List ℕ) → 0 < length bytes → field_at bytes ≡ None → fields bytes ≡ None
unfolding fields fields_within
fields-stop [] some e = absurd (omega arith)
fields-stop (x ∷ bytes) some e = rw e refl

append-step : (a b : List ℕ) (fs : List Field) (o : Option (Field × List ℕ)) → field_at a ≡ o → 0 < length a → fields a ≡ Some fs
    → ((rest : List ℕ) (gs : List Field) → length rest + 1 ≤ length a → fields rest ≡ Some gs → fields (rest ++ b) ≡ (fields b >>= λ hs. Some (gs ++ hs)))
    → fields (a ++ b) ≡ (fields b >>= λ hs. Some (fs ++ hs))
append-step a b fs None e long whole others = absurd (let one = sym (fields-stop a long e) ∙ whole in cc)
append-step a b fs (Some x) e long whole others =
    let gs = bind_some (fields x.1) (λ gs. some (x.0 ∷ gs)) fs (sym (fields-next a x.0 x.1 e) ∙ whole) in
    let one = fields-next (a ++ b) x.0 (x.1 ++ b) (field-takes.goes_on a x.0 x.1 b e) in
    let two = others x.1 gs.0 (field-takes.shorter a x.0 x.1 e) gs.1 in
    one ∙ (ap (λ (o : Option (List Field)). o >>= λ hs. some (x.0 ∷ hs)) two ∙ (bind_assoc (fields b) (λ hs. some (gs.0 ++ hs)) (λ hs. some (x.0 ∷ hs)) ∙ ap (λ (l : List Field). fields b >>= λ hs. some (l ++ hs)) (some_is _ _ gs.2)))

append-within : (k : ℕ) (a b : List ℕ) (fs : List Field) → length a ≤ k → fields a ≡ Some fs → fields (a ++ b) ≡ (fields b >>= λ hs. Some (fs ++ hs))
append-within k [] b fs le e =
    let same : [] ≡ fs = some_is [] fs (sym fields-nil ∙ e) in rw (← same) (sym (bind_some_id (fields b)))
append-within zero (x ∷ a) b fs le e = absurd (omega arith)
append-within (suc k) (x ∷ a) b fs le e =
    append-step (x ∷ a) b fs (field_at (x ∷ a)) refl (omega arith) e (λ rest gs short whole. append-within k rest b gs (omega arith) whole)

-- the fields of bytes that go on
pub fields-append : (a b : List ℕ) (fs : List Field) → fields a ≡ Some fs → fields (a ++ b) ≡ (fields b >>= λ gs. Some (fs ++ gs))
fields-append a b fs e = append-within (length a) a b fs (omega arith) e
