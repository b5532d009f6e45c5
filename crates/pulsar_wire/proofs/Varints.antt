-- Numbers of seven bits a byte, as a loop reads them.
use Rattle.std.proofs.Common.{◌≡◌, ℕ, zero, suc, ◌+◌, ◌*◌, ◌-◌, ◌^◌, ◌<◌, ◌≤◌, List, [], ◌∷◌, Option, Some, None, refl, sym, ap, ◌∙◌, arith}
use Rattle.std.proofs.lemmas.Bool.{lt-ltb, le-ltb}
use Rattle.std.proofs.Math.Nat.{mul-le-mul_left, pow-succ', mul_assoc, mul-suc, mul-zero}
use Rattle.pulsar_wire.specs.Field.{◌>>=◌, varint_within}

-- what was read before the rest of a number
abbrev pub onto : ℕ → ℕ → ℕ × List ℕ → Option (ℕ × List ℕ)
onto value scale x = Some (value + scale * x.0, x.1)

-- the number so far, and what the rest adds to it
pub record Reads (bytes : List ℕ) (more : ℕ) (rest : List ℕ) (value scale : ℕ) : Type 0 where
  pub same : varint_within 9 bytes ≡ (varint_within more rest >>= onto value scale)
  pub below : value < scale
  pub scaled : scale * 128 ^ more ≡ 2 ^ 63

onto-more : (v s b : ℕ) (o : Option (ℕ × List ℕ)) → ((o >>= λ high. Some (b - 128 + 128 * high.0, high.1)) >>= onto v s) ≡ (o >>= onto (v + (b - 128) * s) (s * 128))
onto-more v s b None = refl
onto-more v s b (Some x) = let e : v + s * (b - 128 + 128 * x.0) ≡ (v + (b - 128) * s) + s * 128 * x.0 = omega arith in ap (λ (n : ℕ). Some (n, x.1)) e

onto-none : (o : Option (ℕ × List ℕ)) → (o >>= onto 0 1) ≡ o
onto-none None = refl
onto-none (Some x) = let e : 0 + 1 * x.0 ≡ x.0 = omega arith in ap (λ (n : ℕ). Some (n, x.1)) e

pub Reads-start : (bytes : List ℕ) → Reads bytes 9 bytes 0 1
Reads-start bytes = record { same = sym (onto-none (varint_within 9 bytes)); below = omega arith; scaled = refl }

factor_le : (a p n : ℕ) → 0 < n → a * p ≡ n → a ≤ n
factor_le a zero n pos e = absurd (omega (arith, mul-zero a))
factor_le a (suc q) n pos e = omega (arith, mul-suc a q)

shifted : (s more : ℕ) → s * 128 ^ suc more ≡ 2 ^ 63 → s * 128 * 128 ^ more ≡ 2 ^ 63
shifted s more e = mul_assoc s 128 (128 ^ more) ∙ (ap (λ (p : ℕ). s * p) (sym (pow-succ' 128 more)) ∙ e)

-- a scale that still has a byte to go
pub Reads-scale : (bytes : List ℕ) (more : ℕ) (rest : List ℕ) (v s : ℕ) → Reads bytes (suc more) rest v s → s * 128 ≤ 2 ^ 63
Reads-scale bytes more rest v s r = factor_le (s * 128) (128 ^ more) (2 ^ 63) (omega arith) (shifted s more r.scaled)

pub Reads-last_scale : (bytes rest : List ℕ) (v s : ℕ) → Reads bytes 0 rest v s → s ≡ 2 ^ 63
Reads-last_scale bytes rest v s r = omega (arith, r.scaled)

-- d digits of a scale fit below it
pub digit-fits : (v s d limit : ℕ) → v < s → d < limit → v + d * s < s * limit
digit-fits v s d limit lt small =
    let h : s * (d + 1) ≤ s * limit = mul-le-mul_left s (omega arith) in omega (arith, h)

-- one more byte, that isn't the last
pub Reads-more : (bytes : List ℕ) (more b : ℕ) (rest : List ℕ) (v s : ℕ) → 128 ≤ b → b < 256 → Reads bytes (suc more) (b ∷ rest) v s → Reads bytes more rest (v + (b - 128) * s) (s * 128)
unfolding varint_within
Reads-more bytes more b rest v s high byte r = record {
  same = r.same ∙ rw (le-ltb b 128 high) (onto-more v s b (varint_within more rest));
  below = digit-fits v s (b - 128) 128 r.below (omega arith);
  scaled = shifted s more r.scaled;
}

swap : (v s b : ℕ) (rest : List ℕ) → onto v s (b, rest) ≡ Some (v + b * s, rest)
swap v s b rest = let e : v + s * b ≡ v + b * s = omega arith in ap (λ (n : ℕ). Some (n, rest)) e

-- the last byte
pub Reads-end : (bytes : List ℕ) (more b : ℕ) (rest : List ℕ) (v s : ℕ) → b < 128 → Reads bytes (suc more) (b ∷ rest) v s → Some (v + b * s, rest) ≡ varint_within 9 bytes
unfolding varint_within
Reads-end bytes more b rest v s low r = sym (r.same ∙ rw (lt-ltb b 128 low) (swap v s b rest))

-- the tenth byte
pub Reads-tenth : (bytes : List ℕ) (b : ℕ) (rest : List ℕ) (v s : ℕ) → b < 2 → Reads bytes 0 (b ∷ rest) v s → Some (v + b * s, rest) ≡ varint_within 9 bytes
unfolding varint_within
Reads-tenth bytes b rest v s low r = sym (r.same ∙ rw (lt-ltb b 2 low) (swap v s b rest))

pub Reads-too_far : (bytes : List ℕ) (b : ℕ) (rest : List ℕ) (v s : ℕ) → 2 ≤ b → Reads bytes 0 (b ∷ rest) v s → None ≡ varint_within 9 bytes
unfolding varint_within
Reads-too_far bytes b rest v s high r = sym (r.same ∙ rw (le-ltb b 2 high) refl)

ended : (more : ℕ) → varint_within more [] ≡ None
unfolding varint_within
ended zero = refl
ended (suc more) = refl

pub Reads-short : (bytes : List ℕ) (more v s : ℕ) → Reads bytes more [] v s → None ≡ varint_within 9 bytes
Reads-short bytes more v s r = sym (r.same ∙ rw (ended more) refl)

-- what split_first says of the byte that is read
pub Reads-byte : (bytes rest after : List ℕ) (n more first b v s : ℕ) → n ≡ suc more → rest ≡ first ∷ after → b ≡ first → Reads bytes n rest v s → Reads bytes (suc more) (b ∷ after) v s
Reads-byte bytes rest after n more first b v s e1 e2 e3 r = rw (e3, ← e2, ← e1) r

pub varint-one : (bytes rest : List ℕ) (first b : ℕ) → b < 128 → b ≡ first → bytes ≡ first ∷ rest → Some (b, rest) ≡ varint_within 9 bytes
unfolding varint_within
varint-one bytes rest first b low e1 e2 = rw (e2, ← e1, lt-ltb b 128 low) refl

pub varint-none : (bytes : List ℕ) → bytes ≡ [] → None ≡ varint_within 9 bytes
varint-none bytes e = rw (e, ended 9) refl
