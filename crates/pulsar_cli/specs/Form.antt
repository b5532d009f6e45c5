-- The forms of the program's words, and what the demo's form prints.
use Rattle.std.specs.Prelude.{◌≡◌, ◌⊎◌, ◌&&◌, ℕ, if◌then◌else◌, nat_le, codes, List, [], ◌∷◌, ◌++◌, Option, Some, None}
use Rattle.std.specs.Fmt.{decimal}
use Rattle.std.specs.Option.{option_map, option_or}
use Rattle.std.specs.Str.{bytes_eq}
use Rattle.pulsar_wire.specs.Field.{◌>>=◌}
use Rattle.pulsar_calls.specs.Steps.{Step}
use Rattle.pulsar_grammar.specs.Words.{number}
use Rattle.pulsar_work.specs.Form.{Asking, form_of}
use Rattle.pulsar_cli.specs.Demo.{IsDemo, Numbers}
use Rattle.pulsar_cli.specs.Script.{Adds, AddsFront, HasFault, Seen}

pub data Form : Type 0 where
  Script : Form
  Demo : (seed count : ℕ) → Form
  Job : Asking → Form

-- the most messages of a demo
abbrev pub most : ℕ
most = 100000

abbrev pub demo_if : (seed count : ℕ) → Option Form
demo_if seed count = if nat_le 1 count && nat_le count most then Some (Demo seed count) else None

abbrev pub demo_of : (seed count : List ℕ) → Option Form
demo_of s c = number s >>= λ seed. number c >>= λ count. demo_if seed count

-- `script` alone; `demo`, a seed and a count
abbrev pub form_in_memory : List (List ℕ) → Option Form
form_in_memory (w ∷ []) = if bytes_eq w (codes "script") then Some Script else None
form_in_memory (w ∷ s ∷ c ∷ []) = if bytes_eq w (codes "demo") then demo_of s c else None
form_in_memory _ = None

-- one of these, or a form of `produce` or `consume`
abbrev pub form : List (List ℕ) → Option Form
form ws = option_or (form_in_memory ws) (option_map Job (form_of ws))

-- the line that a demo prints
abbrev pub line : Numbers → List ℕ
line n =
    codes "sent " ++ decimal n.sent ++ codes " received " ++ decimal n.received ++ codes " bytes " ++ decimal n.bytes ++ codes " acked " ++ decimal n.acked ++ 10 ∷ []

-- this is the line of a demo
pub record IsLine (seed count : ℕ) (text : List ℕ) : Type 0 where
  pub history : List Step
  pub numbers : Numbers
  pub demo : IsDemo seed count history numbers
  pub says : text ≡ line numbers

-- How a demo ended: with status 0 its line was printed, with 3 nothing was, and with 5 the sink took a front of the line at the most.
pub record Shows (seed count status : ℕ) (sink : Seen) : Type 0 where
  pub known : (status ≡ 0) ⊎ ((status ≡ 3) ⊎ (status ≡ 5))
  pub done : status ≡ 0 → (text : List ℕ) × IsLine seed count text × Adds sink.before sink.after text
  pub lacks_memory : status ≡ 3 → sink.after ≡ sink.before
  pub sink_failed : status ≡ 5 → HasFault sink × (text : List ℕ) × IsLine seed count text × AddsFront sink.before sink.after text
