-- Lines, as the pieces of a script bring them.
use Rattle.std.proofs.Common.{◌≡◌, ◌==◌, ℕ, ◌∙◌, sym, ap, List, [], ◌∷◌, ◌++◌, refl, arith, false, append_assoc, append-nil}
use Rattle.std.proofs.lemmas.List.Elements.{All-append}
use Rattle.std.proofs.lemmas.List.Splits.{slice_split_at, slice_split_none}
use Rattle.pulsar_grammar.specs.Grammar.{lines}
use Rattle.pulsar_grammar.specs.Parsed.{IsWithinLine}
use Rattle.pulsar_cli.specs.Shown.{Splits}
use Rattle.pulsar_grammar.proofs.Lines.{is_feed}

-- a line that ends behind some bytes
pub ends-line : {x p : List ℕ} {read : List (List ℕ)} (e : List ℕ) → Splits x read p → IsWithinLine e → (future : List ℕ) → lines ((x ++ (e ++ 10 ∷ [])) ++ future) ≡ read ++ (p ++ e) ∷ lines future
ends-line {x} {p} {read} e s w future =
    ap lines (append_assoc x (e ++ 10 ∷ []) future ∙ ap (λ (t : List ℕ). x ++ t) (append_assoc e (10 ∷ []) future))
    ∙ s.apart (e ++ 10 ∷ future)
    ∙ ap (λ (t : List ℕ). read ++ lines t) (sym (append_assoc p e (10 ∷ future)))
    ∙ ap (λ (ls : List (List ℕ)). read ++ ls) (slice_split_at is_feed (p ++ e) 10 future (All-append (λ b. (b == 10) ≡ false) p e s.within w) refl)

pub feed : {x p : List ℕ} {read : List (List ℕ)} (e : List ℕ) → Splits x read p → IsWithinLine e → Splits (x ++ (e ++ 10 ∷ [])) (read ++ (p ++ e) ∷ []) []
feed {x} {p} {read} e s w =
    record {
      apart = λ future. ends-line e s w future ∙ sym (append_assoc read ((p ++ e) ∷ []) (lines future));
      within = λ k d lt. absurd (omega arith);
    }

-- a line goes on
pub goes-on : {x p : List ℕ} {read : List (List ℕ)} (e : List ℕ) → Splits x read p → IsWithinLine e → Splits (x ++ e) read (p ++ e)
goes-on {x} {p} {read} e s w =
    record {
      apart = λ future. ap lines (append_assoc x e future) ∙ s.apart (e ++ future) ∙ ap (λ (t : List ℕ). read ++ lines t) (sym (append_assoc p e future));
      within = All-append (λ b. (b == 10) ≡ false) p e s.within w;
    }

-- the last line ends with the bytes
pub last-line : {x p : List ℕ} {read : List (List ℕ)} → Splits x read p → lines x ≡ read ++ p ∷ []
last-line {x} {p} {read} s =
    ap lines (sym (append-nil x)) ∙ s.apart [] ∙ ap (λ (t : List ℕ). read ++ lines t) (append-nil p) ∙ ap (λ (ls : List (List ℕ)). read ++ ls) (slice_split_none is_feed p s.within)
