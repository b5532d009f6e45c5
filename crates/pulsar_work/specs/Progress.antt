-- For the code's contracts alone: what is known of a job by the effects of its client.
use Rattle.std.specs.Prelude.{◌≡◌, ◌<◌, ℕ, Bool, true, false, List, [], ◌∷◌, ◌++◌, length, map, string_bytes, slice_get, Option, Some, None}
use Rattle.std.specs.List.{flat_map}
use Rattle.pulsar_wire.specs.Views.{message_id_values}
use Rattle.pulsar_calls.specs.Content.{Asked, Ack, Shown, Connect}
use Rattle.pulsar_work.specs.Calls.{ack_of, has_ended_well, is_over, items_of}
use Rattle.pulsar_work.specs.Report.{errors_of}
use Rattle.pulsar_work.specs.declared.progress.Dial.{Dial}
use Rattle.pulsar_work.specs.declared.progress.Owed.{Owed}
use Rattle.pulsar_work.specs.declared.progress.Progress.{Progress}

-- the acknowledgement that is still to be asked for
abbrev pub owed_ack : Option Owed → List Asked
owed_ack None = []
owed_ack (Some o) = Ack 1 (string_bytes o.topic) (message_id_values o.id) false ∷ []

abbrev pub is_empty : {A : Type 0} → List A → Bool
is_empty [] = true
is_empty (x ∷ xs) = false

-- What is known after these effects, and these acknowledgements.
pub record Knows (p : Progress) (es : List Shown) (acked : List Asked) : Type 0 where
  pub ended : (t : ℕ) → slice_get p.ended.items t ≡ Some true → has_ended_well t es ≡ true
  pub marked : (t : ℕ) → has_ended_well t es ≡ true → slice_get p.ended.items t ≡ Some true
  pub all : (t : ℕ) → t < p.first_open → has_ended_well t es ≡ true
  pub good : p.failed ≡ false → errors_of es ≡ []
  pub bad : p.failed ≡ true → is_empty (errors_of es) ≡ false
  pub given : p.given ≡ length (items_of es)
  pub acks : flat_map ack_of es ≡ acked ++ owed_ack p.owed
  pub over : p.is_over ≡ true → is_over es ≡ true

-- WHAT IS TO BE DIALED

abbrev pub wanted_of : Shown → List ℕ
wanted_of (Connect l host port) = l ∷ []
wanted_of _ = []

abbrev pub wanted_in : List Shown → List ℕ
wanted_in es = flat_map wanted_of es

abbrev pub links_of : List Dial → List ℕ
links_of ds = map (λ d. d.link) ds
