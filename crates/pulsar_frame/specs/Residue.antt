-- Serves the code's contracts alone: the state that a window of folded bytes stands for.
use Rattle.std.specs.Prelude.{ℕ, List, take, bit_xor}
use Rattle.pulsar_frame.specs.Checksum.{after}

unfoldable pub residue : List ℕ → ℕ
residue window =
    let state_of : ℕ → ℕ = λ n. after 0 (take n window) in
    bit_xor (bit_xor (bit_xor (bit_xor (state_of 209) (state_of 144)) (state_of 54)) (state_of 39)) (state_of 14)
