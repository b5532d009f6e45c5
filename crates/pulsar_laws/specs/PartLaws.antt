-- What follows of calls with parts: what becomes of each part, and what the call answers.
use Rattle.std.specs.Prelude.{◌≡◌, ◌⊎◌, ℕ, ◌+◌, ◌≤◌, Bool, true, false, if◌then◌else◌, List, [], ◌∷◌, Option, Some, None}
use Rattle.pulsar_run.specs.Laws.{In}
use Rattle.pulsar_wire.specs.Failures.{Failure, OfConnection, OfPartialSend, Shutdown, Sent, NoMore, Went, Failed as Fails}
use Rattle.pulsar_calls.specs.declared.act.Act.{Act}
use Rattle.pulsar_calls.specs.declared.act.Act.TheVariants.{Answers, Does}
use Rattle.pulsar_calls.specs.declared.act.Action.TheVariants.{OfTopic}
use Rattle.pulsar_calls.specs.declared.act.TopicAsk.TheVariants.{Store}
use Rattle.pulsar_calls.specs.declared.act.Makes.TheVariants.{Nothing}
use Rattle.pulsar_calls.specs.declared.act.Outcome.TheVariants as outcome
use Rattle.pulsar_calls.specs.declared.act.Procedure.TheVariants as procedure
use Rattle.pulsar_calls.specs.declared.act.Who.TheVariants.{Call}
use Rattle.pulsar_calls.specs.Content.{Said, Failed, Sends, numbers_from}
use Rattle.pulsar_calls.specs.Who.{is_same}
use Rattle.pulsar_acts.specs.Run.{Entry, Then, IsRun, Rests}
use Rattle.pulsar_machine.specs.Options.{Options}
use Rattle.pulsar_laws.specs.Laws.{Answered, counted, deeds, outcomes, started}
use Rattle.pulsar_laws.specs.ProducerLaws.{queued_times}

-- how often the message of a call was given away: its frame was queued, or it was stored with others
abbrev pub stores_by : (ticket : ℕ) → Act → ℕ
stores_by t (Does who (OfTopic n (Store x))) = if is_same (Call t) who then 1 else 0
stores_by t _ = 0

abbrev pub given_times : Options → (ticket : ℕ) → List Entry → ℕ
given_times o t log = queued_times o t log + counted (stores_by t) log

-- What is said of a part is what became of its send: it went where its message was given away; it failed so where it was not, and the call of its
-- ticket ended with just this.
abbrev pub PartSo : Options → (ticket : ℕ) → List Entry → Option Failure → Type 0
PartSo o u log None = 1 ≤ given_times o u log
PartSo o u log (Some f) = (given_times o u log ≡ 0) × In (Then (Answers (Call u) (record { makes = Nothing; said = Failed f }))) log

-- what is said of the parts of these tickets, in their order
abbrev pub PartsSo : Options → List Entry → (tickets : List ℕ) → Sent → Type 0
PartsSo o log [] NoMore = Unit {0}
PartsSo o log (u ∷ us) (Went t more) = (t ≡ u) × PartSo o u log None × PartsSo o log us more
PartsSo o log (u ∷ us) (Fails f more) = PartSo o u log (Some f) × PartsSo o log us more
PartsSo o log _ _ = ⊥

abbrev pub some_failed : Sent → Bool
some_failed NoMore = false
some_failed (Went t more) = some_failed more
some_failed (Fails f more) = true

-- A call with parts answers what became of each, in their order: their tickets where each of them went, and else which of them failed and why. Where the
-- client is stopped before, it fails so.
abbrev pub PartsAreReported : Type 0
PartsAreReported = (o : Options) (log : List Entry) (t first count : ℕ) (said : Said) →
    IsRun o log → Rests o log → started (Call t) log ≡ Some (procedure.Gather first count) →
    In (Answered (record { makes = Nothing; said = said })) (deeds (Call t) log) →
    (In outcome.Stopped (outcomes (Call t) log) × (said ≡ Failed (OfConnection Shutdown))) ⊎
    ((sent : Sent) × PartsSo o log (numbers_from first count) sent
    × (said ≡ (if some_failed sent then Failed (OfPartialSend sent) else Sends (numbers_from first count))))
