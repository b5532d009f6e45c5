-- The hash of a key: MurmurHash3 for x86 with 32 bits and the seed 0. Its sums and products wrap.
-- (A. Appleby, SMHasher: MurmurHash3_x86_32)
use Rattle.std.specs.Prelude.{◌≡◌, ℕ, ◌+◌, ◌*◌, ◌/◌, ◌%◌, ◌^◌, List, [], ◌∷◌, ◌++◌, length, bit_xor, codes}
use Rattle.std.specs.Int.{w32, from_le_bytes, rotate_left}

abbrev pub wrapping_mul : ℕ → ℕ → ℕ
wrapping_mul a b = a * b % 2 ^ 32

abbrev pub wrapping_add : ℕ → ℕ → ℕ
wrapping_add a b = (a + b) % 2 ^ 32

-- a block before it is mixed in
unfoldable pub scrambled : (block : ℕ) → ℕ
scrambled block = wrapping_mul (rotate_left w32 (wrapping_mul block 0xcc9e2d51) 15) 0x1b873593

-- a hash with one block more
unfoldable pub mixed : (hash block : ℕ) → ℕ
mixed hash block = wrapping_add (wrapping_mul (rotate_left w32 (bit_xor hash (scrambled block)) 13) 5) 0xe6546b64

-- the blocks are numbers of four bytes, the lowest first; bytes that are missing at the end count as zero
abbrev pub block_of : (bytes : List ℕ) → ℕ
block_of bytes = from_le_bytes w32 (bytes ++ 0 ∷ 0 ∷ 0 ∷ 0 ∷ [])

-- a hash with these bytes more; what is left behind the last whole block is only scrambled
abbrev pub with_bytes : (hash : ℕ) → List ℕ → ℕ
with_bytes hash (a ∷ b ∷ c ∷ d ∷ rest) = with_bytes (mixed hash (block_of (a ∷ b ∷ c ∷ d ∷ []))) rest
with_bytes hash tail = bit_xor hash (scrambled (block_of tail))

-- the upper bits of a hash, moved down by some places, decide the lower ones too
abbrev pub folded : (hash places : ℕ) → ℕ
folded hash places = bit_xor hash (hash / 2 ^ places)

-- each bit of a hash decides each other
unfoldable pub finished : (hash : ℕ) → ℕ
finished hash =
    let first = wrapping_mul (folded hash 16) 0x85ebca6b in
    let second = wrapping_mul (folded first 13) 0xc2b2ae35 in
    folded second 16

unfoldable pub murmur3 : (bytes : List ℕ) → ℕ
murmur3 bytes = finished (bit_xor (with_bytes 0 bytes) (length bytes % 2 ^ 32))

-- texts whose hash is published
abbrev pub GivesKnownValues : Type 0
GivesKnownValues =
    (murmur3 [] ≡ 0) × (murmur3 (codes "test") ≡ 0xba6bd213) × (murmur3 (codes "hello") ≡ 0x248bfa47)
    × (murmur3 (codes "Hello, world!") ≡ 0xc0363e43)
    × (murmur3 (codes "The quick brown fox jumps over the lazy dog") ≡ 0x2e4ff723)
