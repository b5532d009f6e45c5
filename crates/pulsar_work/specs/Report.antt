-- What `produce` and `consume` print: a line for each receipt or item, and how the run ended.
use Rattle.std.specs.Prelude.{ℕ, List, [], ◌∷◌, ◌++◌, length, map, codes, Option, Some, None}
use Rattle.std.specs.Global.{Vec}
use Rattle.std.specs.List.{flat_map}
use Rattle.std.specs.Fmt.{decimal}
use Rattle.pulsar_wire.specs.Row.{Values, reading}
use Rattle.pulsar_wire.specs.Rows.{message_id, send_receipt}
use Rattle.pulsar_wire.specs.Failures.{Failure}
use Rattle.pulsar_calls.specs.declared.effect.Effect.{Effect}
use Rattle.pulsar_calls.specs.declared.event.Event.{Event}
use Rattle.pulsar_calls.specs.Content.{Receipt, Failed, Shown, Ends, Hands, Faults, shown}
use Rattle.pulsar_calls.specs.Steps.{Step}
use Rattle.pulsar_printing.specs.ErrorText.{failure}
use Rattle.pulsar_printing.specs.Text.{line}
use Rattle.pulsar_printing.specs.WordText.{word}

-- the effects of the entries of a trace, in order
abbrev pub shown_in : List (Event × Vec Effect) → List Shown
shown_in entries = flat_map (λ e. map shown e.1.items) entries

-- the effects of a history, oldest first; the newest step of a history is its first
abbrev pub effects_of : List Step → List Shown
effects_of [] = []
effects_of (s ∷ h) = effects_of h ++ s.effects

-- where a message was stored: the numbers of its ledger and of its entry there, and `~` where the broker did not tell them
abbrev pub stored_at : Option (Values message_id) → List ℕ
stored_at None = codes "~"
stored_at (Some id) = decimal id.0 ++ codes ":" ++ decimal id.1.0

-- the id that a receipt tells
abbrev pub id_in : Option (Values send_receipt) → Option (Values message_id)
id_in None = None
id_in (Some receipt) = receipt.1.1.0

abbrev pub sent : List ℕ → List ℕ
sent receipt = codes "sent " ++ stored_at (id_in (reading send_receipt receipt))

-- the line of an effect, if it has one: a receipt's, or the data of an item as a word
abbrev pub line_of : Shown → List (List ℕ)
line_of (Ends ticket (Receipt receipt)) = sent receipt ∷ []
line_of (Hands ticket topic id batch_size metadata payload) = word payload ∷ []
line_of _ = []

abbrev pub lines_told : List Shown → List (List ℕ)
lines_told es = flat_map line_of es

-- the errors: a call has ended with one, or an item was one
abbrev pub error_of : Shown → List Failure
error_of (Ends ticket (Failed f)) = f ∷ []
error_of (Faults ticket f) = f ∷ []
error_of _ = []

abbrev pub errors_of : List Shown → List Failure
errors_of es = flat_map error_of es

-- the last line: how many receipts or items there were, or the first error
abbrev pub last_line : List Failure → ℕ → List ℕ
last_line [] count = codes "done " ++ decimal count
last_line (f ∷ fs) count = codes "failed " ++ failure f

abbrev pub report_of : List Shown → List ℕ
report_of es = flat_map line (lines_told es) ++ line (last_line (errors_of es) (length (lines_told es)))

abbrev pub report : List Step → List ℕ
report h = report_of (effects_of h)

-- the first of a list
abbrev pub first : {A : Type 0} → List A → Option A
first [] = None
first (x ∷ xs) = Some x
