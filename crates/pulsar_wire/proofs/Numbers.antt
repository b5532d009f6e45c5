-- Writing a number, as a loop does.
use Rattle.std.proofs.Common.{◌≡◌, ℕ, suc, ◌+◌, ◌*◌, ◌/◌, ◌%◌, ◌^◌, ◌<◌, ◌≤◌, List, [], ◌∷◌, ◌++◌, refl, ◌∙◌, append_assoc, arith}
use Rattle.std.proofs.lemmas.Bool.{lt-ltb, le-ltb}
use Rattle.std.proofs.Math.Nat.{pow-succ'}
use Rattle.pulsar_wire.specs.Row.{varint_in}

-- What is still to be written completes the number.
pub record Writes {S : Type 0} (Holds : S → List ℕ → Type 0) (old new : S) (n more rest : ℕ) : Type 0 where
  pub small : rest < 2 * 128 ^ more
  pub same : (front : List ℕ) → Holds old front → (done : List ℕ) × Holds new done × (done ++ varint_in more rest ≡ front ++ varint_in 9 n)

pub Writes-start : {S : Type 0} (Holds : S → List ℕ → Type 0) (s : S) (n : ℕ) → n < 2 ^ 64 → Writes Holds s s n 9 n
Writes-start Holds s n lt = record { small = omega (arith, lt); same = λ front h. (front, h, refl) }

pub Writes-last : {S : Type 0} (Holds : S → List ℕ → Type 0) (old new out : S) (n more rest : ℕ) → rest < 128 → Writes Holds old new n (suc more) rest
    → ((front : List ℕ) → Holds new front → Holds out (front ++ rest ∷ [])) → (front : List ℕ) → Holds old front → Holds out (front ++ varint_in 9 n)
unfolding varint_in
Writes-last Holds old new out n more rest lt w push front h =
    let d = w.same front h in
    let e : d.0 ++ rest ∷ [] ≡ front ++ varint_in 9 n = rw (lt-ltb rest 128 lt) at d.2 in
    rw (← e) (push d.0 d.1)

pub Writes-end : {S : Type 0} (Holds : S → List ℕ → Type 0) (old new out : S) (n rest : ℕ) → Writes Holds old new n 0 rest
    → ((front : List ℕ) → Holds new front → Holds out (front ++ rest ∷ [])) → (front : List ℕ) → Holds old front → Holds out (front ++ varint_in 9 n)
unfolding varint_in
Writes-end Holds old new out n rest w push front h =
    let d = w.same front h in
    let e : d.0 ++ rest ∷ [] ≡ front ++ varint_in 9 n = d.2 in
    rw (← e) (push d.0 d.1)

pub Writes-more : {S : Type 0} (Holds : S → List ℕ → Type 0) (old new out : S) (n more rest : ℕ) → 128 ≤ rest → Writes Holds old new n (suc more) rest
    → ((front : List ℕ) → Holds new front → Holds out (front ++ (rest % 128 + 128) ∷ [])) → Writes Holds old out n more (rest / 128)
unfolding varint_in
Writes-more Holds old new out n more rest le w push = record {
  small = let p : 128 ^ suc more ≡ 128 * 128 ^ more = pow-succ' 128 more in omega (arith, p, w.small);
  same = λ front h.
      let d = w.same front h in
      (d.0 ++ (rest % 128 + 128) ∷ [], push d.0 d.1, append_assoc d.0 ((rest % 128 + 128) ∷ []) (varint_in more (rest / 128)) ∙ (rw (le-ltb rest 128 le) at d.2));
}
