-- What a sink has grown by, and its faults.
use Rattle.std.proofs.Common.{inl, inr, ◌≡◌, ℕ, ◌≤◌, ◌∙◌, sym, ap, List, [], ◌++◌, arith, Option, Some, take, drop, append_assoc, append-nil}
use Rattle.std.proofs.lemmas.List.{take-append-drop}
use Rattle.pulsar_streams.specs.Outside.{Rose}
use Rattle.pulsar_cli.specs.Script.{Adds, AddsFront}

pub adds-nil : (now : Option (List ℕ)) → Adds now now []
adds-nil now held h = h ∙ ap (λ (t : List ℕ). Some t) (sym (append-nil held))

pub adds-more : {a b c : Option (List ℕ)} (x y : List ℕ) → Adds a b x → Adds b c y → Adds a c (x ++ y)
adds-more x y p q held h = q (held ++ x) (p held h) ∙ ap (λ (t : List ℕ). Some t) (append_assoc held x y)

pub adds-same : {a b c : Option (List ℕ)} (x : List ℕ) → Adds a b x → c ≡ b → Adds a c x
adds-same x p e held h = e ∙ p held h

-- the first n bytes went
pub adds-front : {a b : Option (List ℕ)} (n : ℕ) (bytes : List ℕ) → Adds a b (take n bytes) → AddsFront a b bytes
adds-front n bytes p = record { front = take n bytes; back = drop n bytes; whole = sym (take-append-drop n bytes); adds = p }

-- a count of faults that grows first, and then rises
pub rose-from : (a b c : ℕ) → a ≤ b → Rose b c → Rose a c
rose-from a b c le (inl lt) = inl (omega arith)
rose-from a b c le (inr e) = inr e
