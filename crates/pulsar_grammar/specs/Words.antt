-- The words of a script: numbers, words with escapes, and hex.
use Rattle.std.specs.Prelude.{ℕ, ◌+◌, ◌-◌, ◌*◌, ◌^◌, ◌==◌, nat_lt, nat_le, ◌&&◌, Bool, if◌then◌else◌, List, [], ◌∷◌, Option, Some, None, codes}
use Rattle.std.specs.List.{slice_split}
use Rattle.std.specs.Result.{result_ok}
use Rattle.std.specs.Str.{bytes_eq, is_utf8}
use Rattle.pulsar_wire.specs.Field.{◌>>=◌}
use Rattle.hex.specs.Hex.{decode_of, hex_digit_value}

-- the words of a line, with one blank between
abbrev pub words : List ℕ → List (List ℕ)
words line = slice_split (λ b. b == 32) line

-- a number: one or more decimal digits, in the range of 64 bits
abbrev pub is_digit : ℕ → Bool
is_digit b = nat_le 48 b && nat_le b 57

abbrev pub digits_from : ℕ → List ℕ → Option ℕ
digits_from n [] = Some n
digits_from n (d ∷ ds) = if is_digit d then digits_from (10 * n + (d - 48)) ds else None

abbrev pub in_range : Option ℕ → Option ℕ
in_range None = None
in_range (Some n) = if nat_lt n (2 ^ 64) then Some n else None

abbrev pub number : List ℕ → Option ℕ
number [] = None
number (d ∷ ds) = in_range (digits_from 0 (d ∷ ds))

-- a byte that stands for itself in a word
abbrev pub is_plain : ℕ → Bool
is_plain b = nat_le 33 b && nat_le b 126

abbrev pub with_byte : ℕ → Option (List ℕ) → Option (List ℕ)
with_byte b rest = rest >>= λ bytes. Some (b ∷ bytes)

-- The bytes that a word stands for: `%` and two hex digits are any byte, and every other graphic byte is itself.
abbrev mutual
  pub unescaped : List ℕ → Option (List ℕ)
  unescaped [] = Some []
  unescaped (b ∷ bs) = if b == 37 then escaped bs else if is_plain b then with_byte b (unescaped bs) else None

  pub escaped : List ℕ → Option (List ℕ)
  escaped (h ∷ l ∷ bs) = hex_digit_value h >>= λ high. hex_digit_value l >>= λ low. with_byte (16 * high + low) (unescaped bs)
  escaped _ = None

-- `%` alone is empty, and a word has a byte at least
abbrev pub word_bytes : List ℕ → Option (List ℕ)
word_bytes [] = None
word_bytes (b ∷ bs) = if bytes_eq (b ∷ bs) (37 ∷ []) then Some [] else unescaped (b ∷ bs)

-- a word that is a text is UTF-8
abbrev pub text_if : Option (List ℕ) → Option (List ℕ)
text_if None = None
text_if (Some bytes) = if is_utf8 bytes then Some bytes else None

abbrev pub text : List ℕ → Option (List ℕ)
text word = text_if (word_bytes word)

-- two hex digits or more, an even number of either case
abbrev pub hex : List ℕ → Option (List ℕ)
hex [] = None
hex (d ∷ ds) = result_ok (decode_of (d ∷ ds))

-- a number of 32 bits
abbrev pub small_number : List ℕ → Option ℕ
small_number word = number word >>= λ n. if nat_lt n (2 ^ 32) then Some n else None

-- what may be absent: `~` says that it is
abbrev pub optional : {A : Type 0} → (List ℕ → Option A) → List ℕ → Option (Option A)
optional read word = if bytes_eq word (codes "~") then Some None else read word >>= λ x. Some (Some x)
