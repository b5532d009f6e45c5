-- Decimal numbers, as a loop reads them.
use Rattle.std.proofs.Common.{◌≡◌, sym, ℕ, ◌+◌, ◌-◌, ◌*◌, ◌^◌, ◌≤◌, ◌<◌, List, [], ◌∷◌, refl, arith, Bool, true, false, Option, Some, None, nat_lt, length}
use Rattle.std.specs.Option.{SomeIff}
use Rattle.std.proofs.lemmas.Bool.Decides.{nat_tests}
use Rattle.pulsar_grammar.specs.Words.{digits_from, in_range, is_digit, number}
use Rattle.pulsar_grammar.specs.Parsed.{more_digits}

beyond-or : (n d : ℕ) (ds : List ℕ) (b : Bool) → is_digit d ≡ b → in_range (digits_from (10 * n + (d - 48)) ds) ≡ None → in_range (digits_from n (d ∷ ds)) ≡ None
beyond-or n d ds true h more = rw h more
beyond-or n d ds false h more = rw h refl

-- a number that is out of range stays so
pub beyond : (n : ℕ) (ds : List ℕ) → 2 ^ 64 ≤ n → in_range (digits_from n ds) ≡ None
beyond n [] le = let far : nat_lt n (2 ^ 64) ≡ false = grind (arith, nat_tests) in rw far refl
beyond n (d ∷ ds) le = beyond-or n d ds (is_digit d) refl (beyond (10 * n + (d - 48)) ds (omega arith))

-- one more digit
pub digit-past : (n d : ℕ) (ds : List ℕ) → 2 ^ 64 ≤ 10 * n + (d - 48) → in_range (digits_from n (d ∷ ds)) ≡ None
digit-past n d ds le = beyond-or n d ds (is_digit d) refl (beyond (10 * n + (d - 48)) ds le)

pub digit-within : (n d : ℕ) (ds : List ℕ) → is_digit d ≡ true → in_range (digits_from n (d ∷ ds)) ≡ in_range (digits_from (10 * n + (d - 48)) ds)
digit-within n d ds h = rw h refl

-- all digits are read
pub all-read : (word : List ℕ) (n : ℕ) → n < 2 ^ 64 → (length word ≡ 0 → ⊥) → in_range (digits_from n []) ≡ in_range (digits_from 0 word) → Some n ≡ number word
all-read [] n lt some h = absurd (some refl)
all-read (d ∷ ds) n lt some h = let near : nat_lt n (2 ^ 64) ≡ true = grind (arith, nat_tests) in rw (sym h) (rw near refl)

-- what a checked sum gives
pub digit-checked : (n d tens : ℕ) (ds : List ℕ) (r : Option ℕ) → is_digit d ≡ true → tens ≡ n * 10 → SomeIff r (tens + (d - 48) < 2 ^ 64) (tens + (d - 48)) → in_range (digits_from n (d ∷ ds)) ≡ more_digits r ds
digit-checked n d tens ds None h e past = digit-past n d ds (omega arith)
digit-checked n d tens ds (Some x) h e here = let same : x ≡ 10 * n + (d - 48) = omega arith in rw same (digit-within n d ds h)
