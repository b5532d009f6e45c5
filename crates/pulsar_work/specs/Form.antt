-- The words of `produce` and `consume`, and the lines of a source.
use Rattle.std.specs.Prelude.{ℕ, ◌==◌, if◌then◌else◌, List, [], ◌∷◌, Option, Some, None, codes, string_bytes}
use Rattle.std.specs.List.{slice_split}
use Rattle.std.specs.Option.{option_map}
use Rattle.std.specs.Str.{bytes_eq}
use Rattle.pulsar_grammar.specs.Words.{number}
use Rattle.pulsar_work.specs.declared.form.Form.{Form}
use Rattle.pulsar_work.specs.declared.form.Form.TheVariants as form

-- what the words ask for: each line of the source is sent to a topic, or so many messages of a topic are taken by a subscription
pub data Asking : Type 0 where
  Produce : (url topic : List ℕ) → Asking
  Consume : (url topic subscription : List ℕ) (count : ℕ) → Asking

-- `produce URL TOPIC`, or `consume URL TOPIC SUB COUNT`
abbrev pub form_of : List (List ℕ) → Option Asking
form_of (word ∷ url ∷ topic ∷ []) = if bytes_eq word (codes "produce") then Some (Produce url topic) else None
form_of (word ∷ url ∷ topic ∷ subscription ∷ count ∷ []) =
    if bytes_eq word (codes "consume") then option_map (Consume url topic subscription) (number count) else None
form_of _ = None

abbrev pub url_of : Asking → List ℕ
url_of (Produce url topic) = url
url_of (Consume url topic subscription count) = url

-- a list without its last item where that is empty
abbrev pub without_empty_end : List (List ℕ) → List (List ℕ)
without_empty_end [] = []
without_empty_end ([] ∷ []) = []
without_empty_end (line ∷ lines) = line ∷ without_empty_end lines

-- the lines of a source end with a line feed, which the last one may lack
abbrev pub lines_of : List ℕ → List (List ℕ)
lines_of bytes = without_empty_end (slice_split (λ b. b == 10) bytes)

-- FOR THE CODE'S CONTRACTS ALONE

abbrev pub asking : Form → Asking
asking (form.Produce url topic) = Produce (string_bytes url) (string_bytes topic)
asking (form.Consume url topic subscription count) = Consume (string_bytes url) (string_bytes topic) (string_bytes subscription) count
