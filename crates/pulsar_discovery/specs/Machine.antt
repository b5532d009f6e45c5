-- The searches as machines: what each says after the outcomes that it was told.  (Pulsar binary protocol, Partitioned topics
-- discovery; Topic lookup; Producer; Consumer)
use Rattle.std.specs.Prelude.{◌≡◌, ℕ, List, [], ◌∷◌, map, Some, Result, Ok, Err}
use Rattle.pulsar_wire.specs.declared.error.ConnectionError.{ConnectionError}
use Rattle.pulsar_frame.specs.Message.{MessageValues}
use Rattle.pulsar_frame.specs.Shown.{message_values}
use Rattle.pulsar_wire.specs.Failures.{Disconnected, Failure, OfConnection, failure, fault}
use Rattle.pulsar_session.specs.Link.{message_of}
use Rattle.pulsar_frame.specs.Reply.{reply}
use Rattle.pulsar_addresses.specs.Address.{Place, named, place}
use Rattle.pulsar_searches.specs.Plans as plans
use Rattle.pulsar_searches.specs.declared.plan.Answer.{Answer}
use Rattle.pulsar_searches.specs.declared.plan.Answer.TheVariants as answer
use Rattle.pulsar_searches.specs.declared.plan.SearchPlan.{SearchPlan}
use Rattle.pulsar_searches.specs.declared.plan.Sought.{Sought}
use Rattle.pulsar_searches.specs.declared.turn.Action.{Action}
use Rattle.pulsar_searches.specs.declared.turn.Action.TheVariants as action
use Rattle.pulsar_searches.specs.declared.turn.SearchOutcome.{SearchOutcome as Happened}
use Rattle.pulsar_searches.specs.declared.turn.SearchOutcome.TheVariants as happened
use Rattle.pulsar_searches.specs.declared.turn.Ways.{Ways}
use Rattle.pulsar_discovery.specs.declared.outcome.Found.{Found}
use Rattle.pulsar_discovery.specs.declared.outcome.Found.TheVariants as found
use Rattle.pulsar_discovery.specs.declared.outcome.Next.{Next}
use Rattle.pulsar_discovery.specs.declared.outcome.Next.TheVariants as next
use Rattle.pulsar_discovery.specs.declared.outcome.Outcome.{Outcome}
use Rattle.pulsar_discovery.specs.declared.outcome.Outcome.TheVariants as outcome
use Rattle.pulsar_discovery.specs.declared.outcome.Told.{Told}
use Rattle.pulsar_discovery.specs.declared.outcome.Told.TheVariants.{Begun, Then}
use Rattle.pulsar_discovery.specs.declared.machine.Machine.{Machine}
use Rattle.pulsar_discovery.specs.declared.machine.MachineStage.{MachineStage}
use Rattle.pulsar_discovery.specs.declared.machine.MachineStage.TheVariants as stage
use Rattle.pulsar_searches.specs.declared.transition.Transition.TheVariants.{Stays, Gives}
use Rattle.pulsar_searches.specs.Transitions.{SearchTransition}

-- WHAT A MACHINE IS TOLD, AND WHAT IT SAYS, by their content

abbrev pub told_link : Result ℕ ConnectionError → Happened
told_link (Ok link) = happened.GotLink link
told_link (Err e) = happened.Failed (fault e)

abbrev pub told : Outcome → Told
told outcome.Start = Begun
told (outcome.Link link) = Then (told_link link)
told (outcome.Reply message) = Then (happened.Replied (reply (message_values message)))
told (outcome.Failed e) = Then (happened.Failed (fault e))
told outcome.Moment = Then happened.Woken

pub data Step : Type 0 where
  Get : Place → Step
  Ask : (link : ℕ) (message : MessageValues) → Step
  Wait : (delay : ℕ) → Step
  Done : Answer → Step
  Refuse : Failure → Step

abbrev pub answer_of : Found → Answer
answer_of (found.Address a) = answer.Address (place a)
answer_of (found.Count n) = answer.Count n
answer_of (found.Addresses names) = answer.Addresses (map named names.items)
answer_of (found.Reply link message) = answer.Reply (record { link = link; reply = reply (message_values message) })

abbrev pub step : Next → Step
step (next.Get a) = Get (place a)
step (next.Ask link message) = Ask link (message_values message)
step (next.Wait delay) = Wait delay
step (next.Done x) = Done (answer_of x)
step (next.Refuse e) = Refuse (failure e)

-- the message of a request has the request number 0, and the connection gives it another
abbrev pub does : Action → Step
does (action.Get p) = Get p
does (action.Ask link request) = Ask link (message_of 0 0 request)
does (action.Wait delay) = Wait delay

abbrev pub step_of : SearchTransition SearchPlan (Result Answer Failure) → Step
step_of (Stays s act) = does act
step_of (Gives (Ok x)) = Done x
step_of (Gives (Err f)) = Refuse f

-- THE MACHINE

-- what was waited for is lost
abbrev pub lost : Failure
lost = OfConnection Disconnected

-- Outside its procedure nothing is waited for. To begin once more is an outcome that the plan doesn't wait for.
abbrev pub turns : Ways → MachineStage → Told → SearchTransition SearchPlan (Result Answer Failure)
turns w (stage.New p) Begun = plans.begins w p
turns w (stage.New p) (Then o) = plans.fails lost
turns w (stage.On s) Begun = plans.told w s (happened.Failed Disconnected)
turns w (stage.On s) (Then o) = plans.told w s o
turns w stage.Over o = plans.fails lost

abbrev pub stands : SearchTransition SearchPlan (Result Answer Failure) → MachineStage
stands (Stays s act) = stage.On s
stands (Gives x) = stage.Over

-- where the machine of a procedure stands after outcomes, the newest first
abbrev pub stage_after : Ways → Sought → List Told → MachineStage
stage_after w p [] = stage.New p
stage_after w p (o ∷ outcomes) = stands (turns w (stage_after w p outcomes) o)

-- what it says after an outcome and those before it: the next action of its procedure, or its end
abbrev pub next_after : Ways → Sought → Told → List Told → Step
next_after w p o outcomes = step_of (turns w (stage_after w p outcomes) o)

-- a machine stands for a procedure and the outcomes that it was told, the newest first
abbrev pub StandsFor : Ways → Sought → List Told → Machine → Type 0
StandsFor w p outcomes m = (m.ways ≡ w) × (m.stage ≡ Some (stage_after w p outcomes))

-- An outcome makes a machine say what comes next.
abbrev pub Goes : Machine → Told → Next → Machine → Type 0
Goes old o said new =
    (s : MachineStage) → old.stage ≡ Some s
    → (step said ≡ step_of (turns old.ways s o)) × (new.ways ≡ old.ways) × (new.stage ≡ Some (stands (turns old.ways s o)))

-- So after one more outcome it says what its procedure says after them all, and stands for it and them.
abbrev pub Extends : Machine → Told → Next → Machine → Type 0
Extends old o said new =
    (w : Ways) (p : Sought) (outcomes : List Told) → StandsFor w p outcomes old
    → (step said ≡ next_after w p o outcomes) × StandsFor w p (o ∷ outcomes) new
