-- Printed words and bytes.
use Rattle.std.specs.Prelude.{ℕ, ◌+◌, ◌/◌, ◌%◌, ◌==◌, nat_lt, nat_le, ◌&&◌, ◌||◌, Bool, if◌then◌else◌, List, [], ◌∷◌}
use Rattle.std.specs.List.{flat_map}
use Rattle.hex.specs.Hex.{encode_lower}

-- letters, digits and `-._/:` are printed as they are
abbrev pub is_printed : ℕ → Bool
is_printed b =
    (nat_le 48 b && nat_le b 57) || (nat_le 65 b && nat_le b 90) || (nat_le 97 b && nat_le b 122)
    || (b == 45) || (b == 46) || (b == 95) || (b == 47) || (b == 58)

abbrev pub upper_digit : ℕ → ℕ
upper_digit n = if nat_lt n 10 then 48 + n else 55 + n

-- every other byte is `%` and two hex digits in upper case
abbrev pub printed : ℕ → List ℕ
printed b = if is_printed b then b ∷ [] else 37 ∷ upper_digit (b / 16) ∷ upper_digit (b % 16) ∷ []

-- a word; the empty one is `%`
abbrev pub word : List ℕ → List ℕ
word [] = 37 ∷ []
word (b ∷ bs) = flat_map printed (b ∷ bs)

-- bytes as hex digits in lower case; none are `%`
abbrev pub hex : List ℕ → List ℕ
hex [] = 37 ∷ []
hex (b ∷ bs) = encode_lower (b ∷ bs)
