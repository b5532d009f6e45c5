use Rattle.std.proofs.Common.{◌≡◌, ℕ, List, [], ◌∷◌, refl, ◌∙◌, length, take, drop, ◌≤◌, ◌<◌, ◌+◌, arith, bit_xor}
use Rattle.std.specs.Int.{w32, from_le_bytes}
use Rattle.pulsar_messages.specs.Murmur.{block_of, mixed, murmur3, scrambled, with_bytes}
use Rattle.pulsar_messages.proofs.murmur.murmur3.Goals as goal

-- a whole block in front is mixed in
with_block : (hash : ℕ) (bytes : List ℕ) → 4 ≤ length bytes
    → with_bytes (mixed hash (from_le_bytes w32 (take 4 bytes))) (drop 4 bytes) ≡ with_bytes hash bytes
with_block hash [] h = absurd (omega arith)
with_block hash (a ∷ []) h = absurd (omega arith)
with_block hash (a ∷ b ∷ []) h = absurd (omega arith)
with_block hash (a ∷ b ∷ c ∷ []) h = absurd (omega arith)
with_block hash (a ∷ b ∷ c ∷ d ∷ rest) h = refl

-- less than a block is only scrambled
with_tail : (hash : ℕ) (bytes : List ℕ) → length bytes < 4 → with_bytes hash bytes ≡ bit_xor hash (scrambled (block_of bytes))
with_tail hash [] h = refl
with_tail hash (a ∷ []) h = refl
with_tail hash (a ∷ b ∷ []) h = refl
with_tail hash (a ∷ b ∷ c ∷ []) h = refl
with_tail hash (a ∷ b ∷ c ∷ d ∷ rest) h = absurd (omega arith)

-- the same with names for the parts
with_next : (hash next number : ℕ) (rest block after : List ℕ)
    → next ≡ mixed hash number → number ≡ from_le_bytes w32 block → block ≡ take 4 rest → after ≡ drop 4 rest
    → length after + 4 ≡ length rest → with_bytes next after ≡ with_bytes hash rest
with_next hash next number rest block after next_is number_is block_is after_is enough =
    rw (next_is, number_is, block_is, after_is) (with_block hash rest (omega arith))

pub loop-block-preserved : goal.loop-block-preserved
loop-block-preserved c =
    let cases = c.in-Some.ensures.cases in
    with_next c.loop-block.hash c.mixed-hash.result c.from_le_bytes.result c.loop-block.rest.now c.in-Some.block.now c.in-Some.after.now
    c.mixed-hash.ensures c.from_le_bytes.ensures cases.0 cases.1 cases.2
    ∙ c.loop-block.invariant

pub returns : goal.returns
unfolding murmur3
returns c =
    let tail = with_tail c.loop-block.hash c.loop-block.rest.now c.in_default.ensures.cases in
    let known = c.loop-block.invariant in
    cc
