-- The lines of a source, as a loop finds them.
use Rattle.std.proofs.Common.{◌≡◌, ◌==◌, ℕ, ◌<◌, ◌∙◌, sym, ap, List, [], ◌∷◌, ◌++◌, refl, arith, Bool, true, false, cond, length, map, append_assoc, append-nil}
use Rattle.std.specs.Global.{Vec}
use Rattle.std.specs.List.{onto_first, slice_split}
use Rattle.std.proofs.lemmas.List.{map-append}
use Rattle.std.proofs.lemmas.List.Splits.{slice_split_at, slice_split_none}
use Rattle.pulsar_grammar.specs.Parsed.{IsWithinLine}
use Rattle.pulsar_work.specs.Form.{lines_of, without_empty_end}

abbrev is_feed : ℕ → Bool
is_feed b = b == 10

onto-some : (x : ℕ) (ls : List (List ℕ)) → 0 < length ls → 0 < length (onto_first x ls)
onto-some x [] h = absurd (omega arith)
onto-some x (l ∷ ls) h = omega arith

split-step : (x : ℕ) (ls : List (List ℕ)) (b : Bool) → 0 < length ls → 0 < length (cond b ([] ∷ ls) (onto_first x ls))
split-step x ls true h = omega arith
split-step x ls false h = onto-some x ls h

split-some : (bytes : List ℕ) → 0 < length (slice_split is_feed bytes)
split-some [] = omega arith
split-some (x ∷ bytes) = split-step x (slice_split is_feed bytes) (is_feed x) (split-some bytes)

next : (line : List ℕ) (ls : List (List ℕ)) → 0 < length ls → without_empty_end (line ∷ ls) ≡ line ∷ without_empty_end ls
next line [] h = absurd (omega arith)
next [] (l ∷ ls) h = refl
next (b ∷ line) (l ∷ ls) h = refl

-- a line that ends with a line feed
pub line-feed : (line rest : List ℕ) → IsWithinLine line → lines_of (line ++ 10 ∷ rest) ≡ line ∷ lines_of rest
line-feed line rest w =
    ap without_empty_end (slice_split_at is_feed line 10 rest w refl) ∙ next line (slice_split is_feed rest) (split-some rest)

-- the last line, which has none
pub last-none : lines_of [] ≡ []
last-none = refl

last-of : (b : ℕ) (rest : List ℕ) → without_empty_end ((b ∷ rest) ∷ []) ≡ (b ∷ rest) ∷ []
last-of b rest = refl

pub last-some : (rest : List ℕ) → IsWithinLine rest → 0 < length rest → lines_of rest ≡ rest ∷ []
last-some [] w h = absurd (omega arith)
last-some (b ∷ rest) w h = ap without_empty_end (slice_split_none is_feed (b ∷ rest) w) ∙ last-of b rest

-- one line more is found
pub lines-next : (found : List (List ℕ)) (bytes rest line after : List ℕ) → found ++ lines_of rest ≡ lines_of bytes → rest ≡ line ++ 10 ∷ after → IsWithinLine line
    → (found ++ line ∷ []) ++ lines_of after ≡ lines_of bytes
lines-next found bytes rest line after so is w =
    append_assoc found (line ∷ []) (lines_of after) ∙ ap (λ ls. found ++ ls) (sym (line-feed line after w) ∙ ap lines_of (sym is)) ∙ so

-- the same of the lines in memory
module _ (new old : List (Vec ℕ)) (v : Vec ℕ) (bytes rest : List ℕ) where
  pub lines-more : (line after : List ℕ) → new ≡ old ++ v ∷ [] → v.items ≡ line → map (λ l. l.items) old ++ lines_of rest ≡ lines_of bytes → rest ≡ line ++ 10 ∷ after → IsWithinLine line
      → map (λ l. l.items) new ++ lines_of after ≡ lines_of bytes
  lines-more line after more is so cut within =
      ap (λ ls. ls ++ lines_of after) (ap (λ ls. map (λ l. l.items) ls) more ∙ map-append (λ l. l.items) old (v ∷ []) ∙ ap (λ t. map (λ l. l.items) old ++ t ∷ []) is)
      ∙ lines-next (map (λ l. l.items) old) bytes rest line after so cut within

  pub lines-last : new ≡ old ++ v ∷ [] → v.items ≡ rest → map (λ l. l.items) old ++ lines_of rest ≡ lines_of bytes → IsWithinLine rest → 0 < length rest → map (λ l. l.items) new ≡ lines_of bytes
  lines-last more is so within some =
      ap (λ ls. map (λ l. l.items) ls) more ∙ map-append (λ l. l.items) old (v ∷ []) ∙ ap (λ t. map (λ l. l.items) old ++ t ∷ []) is ∙ ap (λ ls. map (λ l. l.items) old ++ ls) (sym (last-some rest within some)) ∙ so

pub lines-none : (old : List (Vec ℕ)) (bytes rest : List ℕ) → map (λ l. l.items) old ++ lines_of rest ≡ lines_of bytes → length rest ≡ 0 → map (λ l. l.items) old ≡ lines_of bytes
lines-none old bytes [] so none = sym (append-nil (map (λ l. l.items) old)) ∙ so
lines-none old bytes (b ∷ rest) so none = absurd (omega (arith, none))
