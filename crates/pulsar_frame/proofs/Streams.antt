-- The frames of a stream, and of a stream that goes on.
use Rattle.std.proofs.Common.{◌≡◌, ◌≢◌, ℕ, zero, suc, ◌+◌, ◌≤◌, List, [], ◌∷◌, ◌++◌, length, Option, Some, None, Result, Ok, Err, refl, sym, ap, ◌∙◌, arith}
use Rattle.std.proofs.lemmas.List.{append-nil}
use Rattle.pulsar_wire.specs.declared.error.Reason.{Reason}
use Rattle.pulsar_wire.specs.Field.{bytes_at}
use Rattle.pulsar_frame.specs.Message.{MessageValues}
use Rattle.pulsar_frame.specs.Sized.{sized_at}
use Rattle.pulsar_frame.specs.Frame.{content, Front, Short, Refused, Whole, IsFrame, StandInFront, before, front_of, front, cut_before, cut_within, cut, left, reason_of, bad}
use Rattle.pulsar_frame.proofs.Splits.{sized-takes, sized-alone}

-- ---- what stands in front

before-shorter : (c : Result MessageValues Reason) (x : List ℕ) (m : MessageValues) (rest : List ℕ) → before c x ≡ Whole m rest → x ≡ rest
before-shorter (Ok n) x m rest e = cc
before-shorter (Err r) x m rest e = absurd cc

before-other : (c : Result MessageValues Reason) (x y : List ℕ) (m : MessageValues) (rest : List ℕ) → before c x ≡ Whole m rest → before c y ≡ Whole m y
before-other (Ok n) x y m rest e = let same : n ≡ m = cc in ap (λ (k : MessageValues). Whole k y) same
before-other (Err r) x y m rest e = absurd cc

front_of-shorter : (bytes : List ℕ) (o : Option (List ℕ × List ℕ)) → sized_at bytes ≡ o → (m : MessageValues) (rest : List ℕ) → front_of o ≡ Whole m rest → length rest + 4 ≤ length bytes
front_of-shorter bytes None sized m rest e = absurd cc
front_of-shorter bytes (Some x) sized m rest e =
    let same = ap length (before-shorter (content x.0) x.1 m rest e) in
    omega (arith, sized-takes.shorter bytes x.0 x.1 sized)

-- a frame has four bytes at least
pub front-shorter : (bytes : List ℕ) (m : MessageValues) (rest : List ℕ) → front bytes ≡ Whole m rest → length rest + 4 ≤ length bytes
unfolding front
front-shorter bytes m rest e = front_of-shorter bytes (sized_at bytes) refl m rest e

-- there is nothing in front of no bytes
pub front-nil : front [] ≡ Short
unfolding front sized_at bytes_at
front-nil = refl

abbrev longer : Front → List ℕ → Front
longer Short t = Short
longer (Refused r) t = Refused r
longer (Whole m rest) t = Whole m (rest ++ t)

before-append : (c : Result MessageValues Reason) (x t : List ℕ) → before c (x ++ t) ≡ longer (before c x) t
before-append (Ok m) x t = refl
before-append (Err r) x t = refl

front_of-append : (s t : List ℕ) (o : Option (List ℕ × List ℕ)) (f : Front) → sized_at s ≡ o → front_of o ≡ f → f ≢ Short → front_of (sized_at (s ++ t)) ≡ longer f t
front_of-append s t None f sized e some = absurd (some (sym e))
front_of-append s t (Some x) f sized e some = rw (sized-takes.goes_on s x.0 x.1 t sized, ← e) (before-append (content x.0) x.1 t)

-- a frame stays, whatever follows
pub front-whole-append : (s t : List ℕ) (m : MessageValues) (rest : List ℕ) → front s ≡ Whole m rest → front (s ++ t) ≡ Whole m (rest ++ t)
unfolding front
front-whole-append s t m rest e = front_of-append s t (sized_at s) (Whole m rest) refl e (λ short. cc)

-- a refusal stays, whatever follows
pub front-refused-append : (s t : List ℕ) (r : Reason) → front s ≡ Refused r → front (s ++ t) ≡ Refused r
unfolding front
front-refused-append s t r e = front_of-append s t (sized_at s) (Refused r) refl e (λ short. cc)

front_of-frame : (bytes : List ℕ) (o : Option (List ℕ × List ℕ)) (m : MessageValues) (rest : List ℕ) → sized_at bytes ≡ o → front_of o ≡ Whole m rest
    → (frame : List ℕ) × (bytes ≡ frame ++ rest) × (front_of (sized_at frame) ≡ Whole m [])
front_of-frame bytes None m rest sized e = absurd cc
front_of-frame bytes (Some x) m rest sized e =
    let alone = sized-alone bytes x.0 x.1 sized in
    (alone.0, alone.1 ∙ ap (λ (l : List ℕ). alone.0 ++ l) (before-shorter (content x.0) x.1 m rest e), rw alone.2 (before-other (content x.0) x.1 [] m rest e))

-- the frame by itself
pub front-frame : (bytes : List ℕ) (m : MessageValues) (rest : List ℕ) → front bytes ≡ Whole m rest → (frame : List ℕ) × (bytes ≡ frame ++ rest) × IsFrame frame m
unfolding front
front-frame bytes m rest e = front_of-frame bytes (sized_at bytes) m rest refl e

-- ---- cutting

abbrev pair : List MessageValues → List ℕ → List MessageValues × List ℕ
pair ms rest = (ms, rest)

cut_before-empty : (more : List ℕ → List MessageValues × List ℕ) (bytes : List ℕ) (f : Front) → front bytes ≡ f → length bytes ≤ 0 → cut_before more bytes f ≡ pair [] bytes
cut_before-empty more bytes Short e none = refl
cut_before-empty more bytes (Refused r) e none = refl
cut_before-empty more bytes (Whole m rest) e none = absurd (let long = front-shorter bytes m rest e in omega arith)

cut_before-next : (k m : ℕ) (bytes : List ℕ) (f : Front) → front bytes ≡ f → length bytes ≤ k + 1 → length bytes ≤ m + 1
    → ((rest : List ℕ) → length rest ≤ k → length rest ≤ m → cut_within k rest ≡ cut_within m rest) → cut_before (cut_within k) bytes f ≡ cut_before (cut_within m) bytes f
cut_before-next k m bytes Short e a b same = refl
cut_before-next k m bytes (Refused r) e a b same = refl
cut_before-next k m bytes (Whole x rest) e a b same =
    let short = front-shorter bytes x rest e in
    ap (λ (p : List MessageValues × List ℕ). pair (x ∷ p.0) p.1) (same rest (omega arith) (omega arith))

-- the bound doesn't matter where it is high enough
cut_within-any : (k m : ℕ) (bytes : List ℕ) → length bytes ≤ k → length bytes ≤ m → cut_within k bytes ≡ cut_within m bytes
unfolding cut_within
cut_within-any zero zero bytes a b = refl
cut_within-any zero (suc m) bytes a b = sym (cut_before-empty (cut_within m) bytes (front bytes) refl a)
cut_within-any (suc k) zero bytes a b = cut_before-empty (cut_within k) bytes (front bytes) refl b
cut_within-any (suc k) (suc m) bytes a b = cut_before-next k m bytes (front bytes) refl (omega arith) (omega arith) (cut_within-any k m)

cut_within-whole : (bytes : List ℕ) (m : MessageValues) (rest : List ℕ) → front bytes ≡ Whole m rest → cut_within (length bytes) bytes ≡ pair (m ∷ cut rest) (left rest)
unfolding cut_within cut left
cut_within-whole [] m rest e = absurd (let long = front-shorter [] m rest e in omega arith)
cut_within-whole (b ∷ bytes) m rest e =
    let short = front-shorter (b ∷ bytes) m rest e in
    rw e (ap (λ (p : List MessageValues × List ℕ). pair (m ∷ p.0) p.1) (cut_within-any (length bytes) (length rest) rest (omega arith) (omega arith)))

cut_within-short : (bytes : List ℕ) → front bytes ≡ Short → cut_within (length bytes) bytes ≡ pair [] bytes
unfolding cut_within
cut_within-short [] e = refl
cut_within-short (b ∷ bytes) e = rw e refl

cut_within-refused : (bytes : List ℕ) (r : Reason) → front bytes ≡ Refused r → cut_within (length bytes) bytes ≡ pair [] bytes
unfolding cut_within
cut_within-refused [] r e = refl
cut_within-refused (b ∷ bytes) r e = rw e refl

-- where a frame stands in front, its message is the first, and the others follow

pub cut-whole : (bytes : List ℕ) (m : MessageValues) (rest : List ℕ) → front bytes ≡ Whole m rest → cut bytes ≡ m ∷ cut rest
unfolding cut
cut-whole bytes m rest e = ap (λ (p : List MessageValues × List ℕ). p.0) (cut_within-whole bytes m rest e)

pub left-whole : (bytes : List ℕ) (m : MessageValues) (rest : List ℕ) → front bytes ≡ Whole m rest → left bytes ≡ left rest
unfolding left
left-whole bytes m rest e = ap (λ (p : List MessageValues × List ℕ). p.1) (cut_within-whole bytes m rest e)

pub bad-whole : (bytes : List ℕ) (m : MessageValues) (rest : List ℕ) → front bytes ≡ Whole m rest → bad bytes ≡ bad rest
unfolding bad
bad-whole bytes m rest e = ap (λ (l : List ℕ). reason_of (front l)) (left-whole bytes m rest e)

-- where there is less than a frame, all is left

pub cut-short : (bytes : List ℕ) → front bytes ≡ Short → cut bytes ≡ []
unfolding cut
cut-short bytes e = ap (λ (p : List MessageValues × List ℕ). p.0) (cut_within-short bytes e)

pub left-short : (bytes : List ℕ) → front bytes ≡ Short → left bytes ≡ bytes
unfolding left
left-short bytes e = ap (λ (p : List MessageValues × List ℕ). p.1) (cut_within-short bytes e)

pub bad-short : (bytes : List ℕ) → front bytes ≡ Short → bad bytes ≡ None
unfolding bad
bad-short bytes e = rw (left-short bytes e, e) refl

-- where there is nothing, nothing is left

pub cut-nil : cut [] ≡ []
unfolding cut cut_within
cut-nil = refl

pub left-nil : left [] ≡ []
unfolding left cut_within
left-nil = refl

pub bad-nil : bad [] ≡ None
bad-nil = bad-short [] front-nil

-- where a frame is refused, all is left

pub cut-refused : (bytes : List ℕ) (r : Reason) → front bytes ≡ Refused r → cut bytes ≡ []
unfolding cut
cut-refused bytes r e = ap (λ (p : List MessageValues × List ℕ). p.0) (cut_within-refused bytes r e)

pub left-refused : (bytes : List ℕ) (r : Reason) → front bytes ≡ Refused r → left bytes ≡ bytes
unfolding left
left-refused bytes r e = ap (λ (p : List MessageValues × List ℕ). p.1) (cut_within-refused bytes r e)

pub bad-refused : (bytes : List ℕ) (r : Reason) → front bytes ≡ Refused r → bad bytes ≡ Some r
unfolding bad
bad-refused bytes r e = rw (left-refused bytes r e, e) refl

-- ---- a stream that goes on

-- what is cut behind s is cut in one
record GoesOn (s t : List ℕ) : Type 0 where
  messages : cut (s ++ t) ≡ cut s ++ cut (left s ++ t)
  rest : left (s ++ t) ≡ left (left s ++ t)

goes_on-step : (s t : List ℕ) (f : Front) → front s ≡ f → ((rest : List ℕ) → length rest + 4 ≤ length s → GoesOn rest t) → GoesOn s t
goes_on-step s t Short e others = record { messages = rw (cut-short s e, left-short s e) refl; rest = rw (left-short s e) refl }
goes_on-step s t (Refused r) e others = record { messages = rw (cut-refused s r e, left-refused s r e) refl; rest = rw (left-refused s r e) refl }
goes_on-step s t (Whole m rest) e others =
    let longer = front-whole-append s t m rest e in
    let after = others rest (front-shorter s m rest e) in
    record {
      messages = rw (cut-whole (s ++ t) m (rest ++ t) longer, cut-whole s m rest e, left-whole s m rest e) (ap (λ (ms : List MessageValues). m ∷ ms) after.messages);
      rest = rw (left-whole (s ++ t) m (rest ++ t) longer, left-whole s m rest e) after.rest;
    }

goes_on-within : (k : ℕ) (s t : List ℕ) → length s ≤ k → GoesOn s t
goes_on-within zero s t le = goes_on-step s t (front s) refl (λ rest short. absurd (omega arith))
goes_on-within (suc k) s t le = goes_on-step s t (front s) refl (λ rest short. goes_on-within k rest t (omega arith))

pub cut-append : (s t : List ℕ) → cut (s ++ t) ≡ cut s ++ cut (left s ++ t)
cut-append s t = (goes_on-within (length s) s t (omega arith)).messages

pub left-append : (s t : List ℕ) → left (s ++ t) ≡ left (left s ++ t)
left-append s t = (goes_on-within (length s) s t (omega arith)).rest

pub bad-append : (s t : List ℕ) → bad (s ++ t) ≡ bad (left s ++ t)
unfolding bad
bad-append s t = ap (λ (l : List ℕ). reason_of (front l)) (left-append s t)

-- ---- what is left

front-left-step : (s : List ℕ) (f : Front) → front s ≡ f → ((rest : List ℕ) → length rest + 4 ≤ length s → (m : MessageValues) (after : List ℕ) → front (left rest) ≢ Whole m after)
    → (m : MessageValues) (after : List ℕ) → front (left s) ≢ Whole m after
front-left-step s Short e others m after whole = absurd (let same = rw (left-short s e) at whole in let both = sym e ∙ same in cc)
front-left-step s (Refused r) e others m after whole = absurd (let same = rw (left-refused s r e) at whole in let both = sym e ∙ same in cc)
front-left-step s (Whole n rest) e others m after whole = others rest (front-shorter s n rest e) m after (rw (left-whole s n rest e) at whole)

front-left-within : (k : ℕ) (s : List ℕ) → length s ≤ k → (m : MessageValues) (after : List ℕ) → front (left s) ≢ Whole m after
front-left-within zero s le = front-left-step s (front s) refl (λ rest short. absurd (omega arith))
front-left-within (suc k) s le = front-left-step s (front s) refl (λ rest short. front-left-within k rest (omega arith))

-- no frame stands in front of what is left
pub front-left : (s : List ℕ) (m : MessageValues) (rest : List ℕ) → front (left s) ≢ Whole m rest
front-left s = front-left-within (length s) s (omega arith)

some_reason-is : (f : Front) (r : Reason) → reason_of f ≡ Some r → f ≡ Refused r
some_reason-is Short r e = absurd cc
some_reason-is (Refused q) r e = let same : q ≡ r = cc in ap Refused same
some_reason-is (Whole m rest) r e = absurd cc

no_reason-is : (f : Front) → ((m : MessageValues) (rest : List ℕ) → f ≢ Whole m rest) → reason_of f ≡ None → f ≡ Short
no_reason-is Short none e = refl
no_reason-is (Refused r) none e = absurd cc
no_reason-is (Whole m rest) none e = absurd (none m rest refl)

-- what is left is refused where the stream is bad, and is less than a frame elsewhere

pub front-left-refused : (s : List ℕ) (r : Reason) → bad s ≡ Some r → front (left s) ≡ Refused r
unfolding bad
front-left-refused s r e = some_reason-is (front (left s)) r e

pub front-left-short : (s : List ℕ) → bad s ≡ None → front (left s) ≡ Short
unfolding bad
front-left-short s e = no_reason-is (front (left s)) (front-left s) e

-- ---- behind a bad frame nothing is read

pub cut-bad : (s t : List ℕ) (r : Reason) → bad s ≡ Some r → cut (s ++ t) ≡ cut s
cut-bad s t r e = rw (cut-append s t, cut-refused (left s ++ t) r (front-refused-append (left s) t r (front-left-refused s r e))) (append-nil (cut s))

pub left-bad : (s t : List ℕ) (r : Reason) → bad s ≡ Some r → left (s ++ t) ≡ left s ++ t
left-bad s t r e = rw (left-append s t) (left-refused (left s ++ t) r (front-refused-append (left s) t r (front-left-refused s r e)))

pub bad-bad : (s t : List ℕ) (r : Reason) → bad s ≡ Some r → bad (s ++ t) ≡ Some r
bad-bad s t r e = rw (bad-append s t) (bad-refused (left s ++ t) r (front-refused-append (left s) t r (front-left-refused s r e)))

-- ---- the most that stands in front

stand-step : (s : List ℕ) (f : Front) → front s ≡ f → ((rest : List ℕ) → length rest + 4 ≤ length s → StandInFront (cut rest) rest (left rest)) → StandInFront (cut s) s (left s)
stand-step s Short e others = rw (cut-short s e) (sym (left-short s e))
stand-step s (Refused r) e others = rw (cut-refused s r e) (sym (left-refused s r e))
stand-step s (Whole m rest) e others =
    let first = front-frame s m rest e in
    rw (cut-whole s m rest e, left-whole s m rest e) (first.0, rest, first.1, first.2, others rest (front-shorter s m rest e))

stand-within : (k : ℕ) (s : List ℕ) → length s ≤ k → StandInFront (cut s) s (left s)
stand-within zero s le = stand-step s (front s) refl (λ rest short. absurd (omega arith))
stand-within (suc k) s le = stand-step s (front s) refl (λ rest short. stand-within k rest (omega arith))

-- the messages of a stream stand in its front
pub cut-stand : (s : List ℕ) → StandInFront (cut s) s (left s)
cut-stand s = stand-within (length s) s (omega arith)

-- and any others that do are the first of them
pub stand-cut : (ms : List MessageValues) (s rest : List ℕ) → StandInFront ms s rest → cut s ≡ ms ++ cut rest
stand-cut [] s rest e = rw e refl
stand-cut (m ∷ ms) s rest stand =
    let first = front-whole-append stand.0 stand.1 m [] stand.3 in
    rw stand.2 (cut-whole (stand.0 ++ stand.1) m stand.1 first ∙ ap (λ (l : List MessageValues). m ∷ l) (stand-cut ms stand.1 rest stand.4))
