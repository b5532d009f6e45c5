-- The checksum CRC-32C, of Castagnoli.  (RFC 3720, 12.1 and B.4)
use Rattle.std.specs.Prelude.{◌≡◌, ℕ, zero, suc, ◌/◌, ◌%◌, ◌<◌, ◌≤◌, ◌==◌, List, [], ◌∷◌, ◌++◌, length, replicate, reverse, if◌then◌else◌, bit_xor}
use Rattle.std.specs.List.{All, range_with_len}

-- The polynomial without its highest power, which is what falls out of 32 bits. Each power stands one bit below the
-- power before it, so the lowest bit of a state is its highest power.
abbrev pub polynomial : ℕ
polynomial = 0x82f63b78

-- divides on by one bit: the highest power is multiplied out, and where it was there the polynomial is taken away
unfoldable pub after_bit : ℕ → ℕ
after_bit state = if state % 2 == 1 then bit_xor (state / 2) polynomial else state / 2

abbrev pub after_bits : ℕ → ℕ → ℕ
after_bits zero state = state
after_bits (suc n) state = after_bits n (after_bit state)

-- the bits of a byte come lowest first
unfoldable pub after_byte : ℕ → ℕ → ℕ
after_byte state b = after_bits 8 (bit_xor state b)

-- the state behind the bytes, from the state in front of them
abbrev pub after : ℕ → List ℕ → ℕ
after state [] = state
after state (b ∷ bytes) = after (after_byte state b) bytes

-- the state before the first byte
abbrev pub start : ℕ
start = 0xffffffff

-- each bit of a state turned
abbrev pub turned : ℕ → ℕ
turned state = bit_xor state 0xffffffff

-- the checksum of the bytes
unfoldable pub crc32c : List ℕ → ℕ
crc32c bytes = turned (after start bytes)

-- ---- what follows

-- The checksum of pieces is that of them joined.
abbrev pub GoesOn : Type 0
GoesOn = (state : ℕ) (a b : List ℕ) → after state (a ++ b) ≡ after (after state a) b

-- nothing, the digits from 1 on, and the texts of RFC 3720, B.4
abbrev pub GivesKnownValues : Type 0
GivesKnownValues =
    (crc32c [] ≡ 0) × (crc32c (range_with_len 49 9) ≡ 0xe3069283)
    × (crc32c (replicate 32 0) ≡ 0x8a9136aa) × (crc32c (replicate 32 255) ≡ 0x62a8ab43)
    × (crc32c (range_with_len 0 32) ≡ 0x46dd794e) × (crc32c (reverse (range_with_len 0 32)) ≡ 0x113fdb5c)

abbrev pub AreBytes : List ℕ → Type 0
AreBytes bytes = All (λ b. b < 256) bytes

-- A change of bytes that stand within four is always seen.
abbrev pub ShowsAChange : Type 0
ShowsAChange = (front a b back : List ℕ) → AreBytes front → AreBytes a → AreBytes b → AreBytes back
    → length a ≡ length b → length a ≤ 4 → crc32c (front ++ (a ++ back)) ≡ crc32c (front ++ (b ++ back)) → a ≡ b
