-- Lines, as a loop finds them.
use Rattle.std.proofs.Common.{◌≡◌, ◌==◌, ℕ, ◌+◌, ◌-◌, ◌<◌, ◌≤◌, ◌∙◌, sym, ap, List, [], ◌∷◌, ◌++◌, refl, arith, Bool, true, false, cond, Some, None, nat_lt, length, take, drop, append_assoc, append-nil}
use Rattle.std.specs.List.{position, position_or_len, before_first, after_first}
use Rattle.std.proofs.Math.Seq.{take-length}
use Rattle.std.proofs.lemmas.Bool.{eqb-true}
use Rattle.std.proofs.lemmas.Bool.Decides.{nat_tests}
use Rattle.std.proofs.lemmas.List.{length-drop, length-take-le, get_or-take}
use Rattle.std.proofs.lemmas.List.Elements.{All-append}
use Rattle.std.proofs.lemmas.List.Sums.{fails_before_first, passes_at_first, split_at_first}
use Rattle.std.proofs.lemmas.List.Splits.{slice_split_at, slice_split_none}
use Rattle.std.proofs.lemmas.Option.{none-some}
use Rattle.pulsar_grammar.specs.Grammar.{lines}
use Rattle.pulsar_grammar.specs.Parsed.{IsWithinLine}

-- what stands behind a place
pub behind-at : (n : ℕ) (bytes : List ℕ) → take (length bytes - n) (drop n bytes) ≡ drop n bytes
behind-at n bytes = ap (λ k. take k (drop n bytes)) (sym (length-drop n bytes)) ∙ take-length (drop n bytes)

within : (at size i : ℕ) (b : Bool) → nat_lt at size ≡ b → cond b (Some at) None ≡ Some i → (at ≡ i) × (at < size)
within at size i true lt h = let near : at < size = grind (arith, nat_tests) in grind arith
within at size i false lt h = absurd (none-some i h)

outside : (at size : ℕ) (b : Bool) → nat_lt at size ≡ b → cond b (Some at) None ≡ None → size ≤ at
outside at size true lt h = absurd (none-some at (sym h))
outside at size false lt h = grind (arith, nat_tests)

abbrev pub is_feed : ℕ → Bool
is_feed b = b == 10

within-front : (bytes : List ℕ) (n : ℕ) → n ≤ position_or_len is_feed bytes → n ≤ length bytes → IsWithinLine (take n bytes)
within-front bytes n le within k d lt =
    let size = length-take-le n bytes within in
    let near : k < n = omega arith in
    rw (get_or-take n bytes k d near) (fails_before_first is_feed bytes k d (omega arith))

-- one line ends at the first line feed
pub cut-at : (bytes : List ℕ) (i : ℕ) → position (λ b. b == 10) bytes ≡ Some i → IsWithinLine (take i bytes) × (bytes ≡ take i bytes ++ 10 ∷ drop (i + 1) bytes) × (length (drop (i + 1) bytes) < length bytes)
cut-at bytes i h =
    let at = within (position_or_len is_feed bytes) (length bytes) i _ refl h in
    let feed = eqb-true _ 10 (passes_at_first is_feed bytes 0 at.1) in
    let apart = split_at_first is_feed bytes 0 at.1 in
    let size = length-drop (i + 1) bytes in
    (within-front bytes i (omega arith) (omega arith), rw (sym at.0) (apart ∙ ap (λ b. before_first is_feed bytes ++ b ∷ after_first is_feed bytes) feed), omega arith)

-- where there is no line feed, all bytes are within a line
pub one-line : (bytes : List ℕ) → position (λ b. b == 10) bytes ≡ None → IsWithinLine bytes
one-line bytes h =
    let le = outside (position_or_len is_feed bytes) (length bytes) _ refl h in
    λ k d lt. fails_before_first is_feed bytes k d (omega arith)
