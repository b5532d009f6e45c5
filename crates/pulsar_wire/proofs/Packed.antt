-- Packed numbers, as a loop reads them.
use Rattle.std.proofs.Common.{◌≡◌, ℕ, zero, suc, ◌<◌, ◌≤◌, ℤ, List, [], ◌∷◌, ◌++◌, length, Option, Some, None, refl, sym, ap, append_assoc, arith}
use Rattle.std.specs.Int.{w64, cast_signed}
use Rattle.std.proofs.lemmas.List.{append-nil, nil_from_length}
use Rattle.pulsar_wire.specs.Field.{◌>>=◌, varint_at}
use Rattle.pulsar_wire.specs.Row.{varints_within, varints}
use Rattle.pulsar_wire.specs.Merge.{with_numbers}
use Rattle.pulsar_wire.proofs.Fields.{varint-takes}

packed-next : (k m x : ℕ) (bytes : List ℕ) (o : Option (ℕ × List ℕ)) → varint_at (x ∷ bytes) ≡ o → length bytes ≤ k → length bytes ≤ m
    → ((rest : List ℕ) → length rest ≤ k → length rest ≤ m → varints_within k rest ≡ varints_within m rest)
    → (o >>= λ first. varints_within k first.1 >>= λ others. Some (cast_signed w64 first.0 ∷ others)) ≡ (o >>= λ first. varints_within m first.1 >>= λ others. Some (cast_signed w64 first.0 ∷ others))
packed-next k m x bytes None e a b same = refl
packed-next k m x bytes (Some f) e a b same =
    let short = varint-takes.shorter (x ∷ bytes) f.0 f.1 e in
    ap (λ (o : Option (List ℤ)). o >>= λ others. Some (cast_signed w64 f.0 ∷ others)) (same f.1 (omega arith) (omega arith))

packed-any : (k m : ℕ) (bytes : List ℕ) → length bytes ≤ k → length bytes ≤ m → varints_within k bytes ≡ varints_within m bytes
unfolding varints_within
packed-any zero zero bytes a b = refl
packed-any k m [] a b = refl
packed-any zero m (x ∷ bytes) a b = absurd (omega arith)
packed-any (suc k) zero (x ∷ bytes) a b = absurd (omega arith)
packed-any (suc k) (suc m) (x ∷ bytes) a b = packed-next k m x bytes (varint_at (x ∷ bytes)) refl (omega arith) (omega arith) (packed-any k m)

varints-next : (bytes : List ℕ) (n : ℕ) (rest : List ℕ) → varint_at bytes ≡ Some (n, rest) → varints bytes ≡ (varints rest >>= λ ys. Some (cast_signed w64 n ∷ ys))
unfolding varints varints_within
varints-next [] n rest e = let short = varint-takes.shorter [] n rest e in absurd (omega arith)
varints-next (x ∷ bytes) n rest e =
    let short = varint-takes.shorter (x ∷ bytes) n rest e in
    rw e (ap (λ (o : Option (List ℤ)). o >>= λ others. Some (cast_signed w64 n ∷ others)) (packed-any (length bytes) (length rest) rest (omega arith) (omega arith)))

pub with_numbers-done : (old : List ℤ) (bytes : List ℕ) → length bytes ≡ 0 → with_numbers old (varints bytes) ≡ Some old
unfolding varints varints_within
with_numbers-done old bytes e = rw (nil_from_length bytes e, append-nil old) refl

pub with_numbers-stop : (old : List ℤ) (bytes : List ℕ) → 0 < length bytes → varint_at bytes ≡ None → with_numbers old (varints bytes) ≡ None
unfolding varints varints_within
with_numbers-stop old [] long e = absurd (omega arith)
with_numbers-stop old (x ∷ bytes) long e = rw e refl

regroup : (old : List ℤ) (z : ℤ) (o : Option (List ℤ)) → ((o >>= λ ys. Some (z ∷ ys)) >>= λ ys. Some (old ++ ys)) ≡ (o >>= λ ys. Some ((old ++ z ∷ []) ++ ys))
regroup old z None = refl
regroup old z (Some ys) = ap (λ (l : List ℤ). Some l) (sym (append_assoc old (z ∷ []) ys))

pub with_numbers-next : (old : List ℤ) (bytes : List ℕ) (n : ℕ) (rest : List ℕ) → varint_at bytes ≡ Some (n, rest) → with_numbers old (varints bytes) ≡ with_numbers (old ++ cast_signed w64 n ∷ []) (varints rest)
with_numbers-next old bytes n rest e = rw (varints-next bytes n rest e) (regroup old (cast_signed w64 n) (varints rest))
