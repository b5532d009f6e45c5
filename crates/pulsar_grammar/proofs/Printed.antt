-- Plain facts on words and their printing.
use Rattle.std.proofs.Common.{◌==◌, Bool, true, false, if◌then◌else◌, ◌≡◌, ℕ, ap, List, [], ◌∷◌, ◌++◌, refl, Option, Some, None, append_assoc}
use Rattle.pulsar_wire.specs.Field.{◌>>=◌}
use Rattle.std.specs.Str.{IsUtf8, is_utf8}
use Rattle.std.proofs.lemmas.Str.{IsUtf8-from_is_utf8, is_utf8-from_IsUtf8}
use Rattle.pulsar_grammar.specs.Words.{escaped, is_plain, text, unescaped, with_byte, word_bytes}

-- bytes behind those that were found
abbrev pub behind : List ℕ → Option (List ℕ) → Option (List ℕ)
behind found rest = rest >>= λ bytes. Some (found ++ bytes)

pub behind-byte : (found : List ℕ) (b : ℕ) (rest : Option (List ℕ)) → behind (found ++ b ∷ []) rest ≡ behind found (with_byte b rest)
behind-byte found b None = refl
behind-byte found b (Some bytes) = ap (λ (t : List ℕ). Some t) (append_assoc found (b ∷ []) bytes)

-- bytes that are a text
pub is-text : (w bytes found : List ℕ) → word_bytes w ≡ Some bytes → found ≡ bytes → IsUtf8 bytes → Some found ≡ text w
is-text w bytes found e same utf8 = rw (same, e, is_utf8-from_IsUtf8 bytes utf8) refl

refused : (bytes : List ℕ) (b : Bool) → is_utf8 bytes ≡ b → (IsUtf8 bytes → ⊥) → None ≡ (if b then Some bytes else None)
refused bytes true e bad = absurd (bad (IsUtf8-from_is_utf8 bytes e))
refused bytes false e bad = refl

pub no-text : (w bytes : List ℕ) → word_bytes w ≡ Some bytes → (IsUtf8 bytes → ⊥) → None ≡ text w
no-text w bytes e bad = rw e (refused bytes (is_utf8 bytes) refl bad)

-- a byte that stands for itself, behind those that were found
pub plain-byte : (found : List ℕ) (b : ℕ) (after : List ℕ) → (b == 37) ≡ false → is_plain b ≡ true → behind (found ++ b ∷ []) (unescaped after) ≡ behind found (unescaped (b ∷ after))
plain-byte found b after h p = rw (h, p) (behind-byte found b (unescaped after))

-- an escaped byte, behind those that were found
pub escaped-byte : (found : List ℕ) (b byte : ℕ) (bytes after : List ℕ) → (b == 37) ≡ true → escaped bytes ≡ with_byte byte (unescaped after) → behind (found ++ byte ∷ []) (unescaped after) ≡ behind found (unescaped (b ∷ bytes))
escaped-byte found b byte bytes after h e = rw (h, e) (behind-byte found byte (unescaped after))
