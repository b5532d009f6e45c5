-- What every run has of operations that are made again: a question for the number of partitions of a topic, one for its broker, and a command that makes
-- a producer or a subscription, wherever a plan makes them: one that searches, builds a producer or a consumer, sends, sends batches, subscribes again.
use Rattle.std.specs.Prelude.{◌≡◌, ◌⊎◌, ℕ, ◌+◌, Bool, true, false, if◌then◌else◌, List, [], ◌∷◌, Option, Some, None, Err}
use Rattle.pulsar_wire.specs.Failures.{Fault}
use Rattle.pulsar_searches.specs.Plans as search
use Rattle.pulsar_searches.specs.Plans.{is_retryable}
use Rattle.pulsar_searches.specs.declared.count.Counting.{Counting}
use Rattle.pulsar_searches.specs.declared.count.Counting.TheVariants as count
use Rattle.pulsar_searches.specs.declared.look.Looking.{Looking}
use Rattle.pulsar_searches.specs.declared.look.Looking.TheVariants as look
use Rattle.pulsar_searches.specs.declared.making.Command.{Command}
use Rattle.pulsar_searches.specs.declared.making.Making.{Making}
use Rattle.pulsar_searches.specs.declared.making.Making.TheVariants as make
use Rattle.pulsar_searches.specs.declared.names.Naming.{Naming}
use Rattle.pulsar_searches.specs.declared.names.Naming.TheVariants as name
use Rattle.pulsar_searches.specs.declared.plan.SearchPlan.{SearchPlan}
use Rattle.pulsar_searches.specs.declared.plan.SearchPlan.TheVariants as searching
use Rattle.pulsar_searches.specs.declared.retry.Retrying.TheVariants as retry
use Rattle.pulsar_searches.specs.declared.transition.Transition.TheVariants.{Stays, Gives}
use Rattle.pulsar_producer.specs.declared.batching.Batching.{Batching}
use Rattle.pulsar_producer.specs.declared.batching.Batching.TheVariants as batch
use Rattle.pulsar_producer.specs.declared.building.BuildingProducer.{BuildingProducer}
use Rattle.pulsar_producer.specs.declared.building.BuildingProducer.TheVariants as produce
use Rattle.pulsar_producer.specs.declared.sending.Sending.{Sending}
use Rattle.pulsar_producer.specs.declared.sending.Sending.TheVariants as send
use Rattle.pulsar_consumer.specs.declared.building.BuildingConsumer.{BuildingConsumer}
use Rattle.pulsar_consumer.specs.declared.building.BuildingConsumer.TheVariants as consume
use Rattle.pulsar_consumer.specs.declared.resuming.Resuming.{Resuming}
use Rattle.pulsar_consumer.specs.declared.resuming.Resuming.TheVariants as resume
use Rattle.pulsar_calls.specs.declared.act.Act.TheVariants.{Starts, Told}
use Rattle.pulsar_calls.specs.declared.act.Action.{Action}
use Rattle.pulsar_calls.specs.declared.act.Action.TheVariants.{Wait}
use Rattle.pulsar_calls.specs.declared.act.Outcome.{Outcome}
use Rattle.pulsar_calls.specs.declared.act.Outcome.TheVariants as outcome
use Rattle.pulsar_calls.specs.declared.act.Who.{Who}
use Rattle.pulsar_calls.specs.Who.{is_same}
use Rattle.pulsar_plans.specs.Plan.{news_in, told}
use Rattle.pulsar_plans.specs.Transitions.{PlanTransition}
use Rattle.pulsar_plans.specs.declared.plan.Plan.{Plan}
use Rattle.pulsar_plans.specs.declared.plan.Plan.TheVariants as plan
use Rattle.pulsar_plans.specs.declared.service.Service.{Service}
use Rattle.pulsar_plans.specs.declared.service.Service.TheVariants as service
use Rattle.pulsar_acts.specs.Run.{Entry, Then, IsRun, view}
use Rattle.pulsar_machine.specs.Options.{Options}
use Rattle.pulsar_laws.specs.RetryLaws.{HasRetried, IsNotReady, MayRetry}

-- WHERE AN OPERATION STANDS

pub data Operation : Type 0 where
  Counts : Operation
  Looks : Operation
  Makes : Operation

pub data Stage : Type 0 where
  InCount : Counting → Stage
  InLook : Looking → Stage
  InMaking : Command → Making → Stage

abbrev pub named_at : Naming → Stage
named_at (name.Counting c) = InCount c
named_at (name.Whole l) = InLook l
named_at (name.Part l p) = InLook l

abbrev pub resumed_at : Command → Resuming → Stage
resumed_at c (resume.Looking l) = InLook l
resumed_at c (resume.Making m) = InMaking c m

abbrev pub searched_at : SearchPlan → Option Stage
searched_at (searching.Counting t c) = Some (InCount c)
searched_at (searching.Looking t l) = Some (InLook l)
searched_at (searching.Naming t n) = Some (named_at n)
searched_at (searching.Retrying t retry.Resting) = None
searched_at (searching.Retrying t (retry.Looking l)) = Some (InLook l)
searched_at (searching.Making c m) = Some (InMaking c m)

abbrev pub built_at : BuildingProducer → Option Stage
built_at (produce.Naming n) = Some (named_at n)
built_at (produce.Numbering p) = None
built_at (produce.Making c m number left made) = Some (InMaking c m)
built_at (produce.Closing left f) = None

abbrev pub sent_at : Sending → Option Stage
sent_at (send.Waiting m) = None
sent_at (send.Drawing m) = None
sent_at (send.Asked kept) = None
sent_at send.Sent = None
sent_at (send.Recalling m) = None
sent_at (send.Looking m c l) = Some (InLook l)
sent_at (send.Making m c k) = Some (InMaking c k)
sent_at (send.Remaking m) = None
sent_at (send.Ending f) = None

abbrev pub batched_at : Batching → Option Stage
batched_at batch.Resting = None
batched_at batch.Taking = None
batched_at (batch.Sending ms count s) = sent_at s
batched_at batch.Settling = None

abbrev pub subscribed_at : BuildingConsumer → Option Stage
subscribed_at (consume.Naming n) = Some (named_at n)
subscribed_at (consume.Numbering topic place) = None
subscribed_at (consume.Making c m number) = Some (InMaking c m)

abbrev pub served_at : Service → Option Stage
served_at service.Resting = None
served_at service.Taking = None
served_at service.Asking = None
served_at service.Recalling = None
served_at (service.Resuming s) = Some (resumed_at s.command s.resuming)
served_at (service.Reviving link) = None
served_at service.Failing = None
served_at service.Closing = None

-- In which operation a plan stands. A search that rests by itself stands in none: no call begins with one.
abbrev pub stage : Plan → Option Stage
stage plan.Building = None
stage (plan.Getting request s) = None
stage (plan.Asking w) = None
stage (plan.Awaiting w) = None
stage (plan.Searching w s) = searched_at s
stage (plan.Producing w order b) = built_at b
stage (plan.Sending w e share s) = sent_at s
stage (plan.Reporting w e) = None
stage (plan.Storing share) = None
stage plan.Stored = None
stage (plan.Batching w e b) = batched_at b
stage (plan.Leaving f) = None
stage (plan.Gathering first count left failures) = None
stage (plan.Shutting numbers) = None
stage (plan.Visiting r n left x) = None
stage (plan.Subscribing w order b) = subscribed_at b
stage (plan.Serving w n s) = served_at s
stage plan.Acknowledging = None
stage (plan.Departing consumer n) = None
stage plan.Stopping = None

-- An operation is not under way, or it is, or it rests until it is made again. A question for a broker is over once this is known: its link is got then.
-- A command looks for its broker each time that it is made again.
pub data Progress : Type 0 where
  Absent : Progress
  Busy : Progress
  Resting : Progress

abbrev pub count_goes : Counting → Progress
count_goes (count.Getting again n) = Busy
count_goes (count.Asked again n l) = Busy
count_goes (count.Resting n l) = Resting

abbrev pub look_goes : Looking → Progress
look_goes (look.Getting s) = Busy
look_goes (look.Asked s l) = Busy
look_goes (look.Resting s l) = Resting
look_goes (look.Reaching place) = Absent

abbrev pub look_within : Making → Progress
look_within (make.Getting n) = Absent
look_within (make.Asked n l) = Absent
look_within (make.Retrying retry.Resting n) = Absent
look_within (make.Retrying (retry.Looking l) n) = look_goes l

abbrev pub making_goes : Making → Progress
making_goes (make.Getting n) = Busy
making_goes (make.Asked n l) = Busy
making_goes (make.Retrying retry.Resting n) = Resting
making_goes (make.Retrying (retry.Looking l) n) = Busy

abbrev pub goes_at : Operation → Stage → Progress
goes_at Counts (InCount c) = count_goes c
goes_at Counts (InLook l) = Absent
goes_at Counts (InMaking c m) = Absent
goes_at Looks (InCount c) = Absent
goes_at Looks (InLook l) = look_goes l
goes_at Looks (InMaking c m) = look_within m
goes_at Makes (InCount c) = Absent
goes_at Makes (InLook l) = Absent
goes_at Makes (InMaking c m) = making_goes m

abbrev pub goes_in : Operation → Option Stage → Progress
goes_in x None = Absent
goes_in x (Some s) = goes_at x s

abbrev pub progress : Operation → Option Plan → Progress
progress x None = Absent
progress x (Some p) = goes_in x (stage p)

-- HOW OFTEN IT IS MADE AGAIN

-- one that was not under way begins, if it does
abbrev pub begins_at : (after : Progress) → (retries : ℕ) → ℕ
begins_at Absent n = n
begins_at Busy n = 0
begins_at Resting n = 1

abbrev pub goes_to : (after : Progress) → (retries : ℕ) → ℕ
goes_to Absent n = n
goes_to Busy n = n
goes_to Resting n = n + 1

abbrev pub comes_to : (before after : Progress) → (retries : ℕ) → ℕ
comes_to Absent after n = begins_at after n
comes_to Busy after n = goes_to after n
comes_to Resting after n = n

-- how often the operation in which one stands has come to rest since it began
abbrev pub retries : Options → Who → Operation → List Entry → ℕ
retries o who x [] = 0
retries o who x (Then (Starts w p) ∷ log) = if is_same who w then 0 else retries o who x log
retries o who x (Then (Told n) ∷ log) =
    if is_same who n.who
    then comes_to (progress x ((view o log).stand who)) (progress x ((view o (Then (Told n) ∷ log)).stand who)) (retries o who x log)
    else retries o who x log
retries o who x (e ∷ log) = retries o who x log

-- An operation that rests, to be made again, was made again fewer times than the options allow.
abbrev pub AgainWhileAllowed : Type 0
AgainWhileAllowed = (o : Options) (log : List Entry) (who : Who) (x : Operation) (before : ℕ) → IsRun o log →
    progress x ((view o log).stand who) ≡ Resting → retries o who x log ≡ before + 1 → MayRetry o.chosen.operation.max_retries before

-- WHERE IT FAILS

-- what tells how a request went
abbrev pub answers_ask : Outcome → Bool
answers_ask (outcome.Replied r) = true
answers_ask outcome.TimedOut = true
answers_ask outcome.Disconnected = true
answers_ask (outcome.Refused cause) = true
answers_ask _ = false

-- A question fails so that another time may help where the broker says that it is not ready; and a command by the fault with which it fails.
abbrev pub CountMayPass : Counting → Outcome → Type 0
CountMayPass (count.Asked again n l) (outcome.Replied r) = IsNotReady 22 1 r.content
CountMayPass (count.Asked again n l) _ = ⊥
CountMayPass (count.Getting again n) u = ⊥
CountMayPass (count.Resting n l) u = ⊥

abbrev pub LookMayPass : Looking → Outcome → Type 0
LookMayPass (look.Asked s l) (outcome.Replied r) = IsNotReady 24 2 r.content
LookMayPass (look.Asked s l) _ = ⊥
LookMayPass (look.Getting s) u = ⊥
LookMayPass (look.Resting s l) u = ⊥
LookMayPass (look.Reaching place) u = ⊥

abbrev pub FailsWith : Command → Making → Outcome → Fault → Type 0
FailsWith c (make.Getting n) u f = ⊥
FailsWith c (make.Asked n l) u f = search.verdict c.answer (news_in u) ≡ Err f
FailsWith c (make.Retrying r n) u f = ⊥

abbrev pub WithinMayPass : Making → Outcome → Type 0
WithinMayPass (make.Getting n) u = ⊥
WithinMayPass (make.Asked n l) u = ⊥
WithinMayPass (make.Retrying retry.Resting n) u = ⊥
WithinMayPass (make.Retrying (retry.Looking l) n) u = LookMayPass l u

abbrev pub MayPass : Operation → Stage → Outcome → Type 0
MayPass Counts (InCount c) u = CountMayPass c u
MayPass Counts (InLook l) u = ⊥
MayPass Counts (InMaking c m) u = ⊥
MayPass Looks (InCount c) u = ⊥
MayPass Looks (InLook l) u = LookMayPass l u
MayPass Looks (InMaking c m) u = WithinMayPass m u
MayPass Makes (InCount c) u = ⊥
MayPass Makes (InLook l) u = ⊥
MayPass Makes (InMaking c m) u = (f : Fault) × FailsWith c m u f × (is_retryable f ≡ true)

-- a plan gives an operation up: it stands in none any more
abbrev pub GivesUp : PlanTransition → Type 0
GivesUp (Stays p action) = stage p ≡ None
GivesUp (Gives verdict) = Unit {0}

-- it rests until it makes it again
abbrev pub RestsFor : Operation → (delay : ℕ) → PlanTransition → Type 0
RestsFor x delay t = (p : Plan) × (t ≡ Stays p (Wait delay)) × (progress x (Some p) ≡ Resting)

-- Where an operation fails so that another time may help, it is made again behind the wait of the options if it was made again fewer times than they
-- allow; and it is given up if it was made again as often.
abbrev pub MadeAgainOrGivenUp : Type 0
MadeAgainOrGivenUp = (o : Options) (log : List Entry) (who : Who) (x : Operation) (p : Plan) (s : Stage) (u : Outcome) → IsRun o log →
    (view o log).stand who ≡ Some p → stage p ≡ Some s → answers_ask u ≡ true → MayPass x s u →
    (MayRetry o.chosen.operation.max_retries (retries o who x log) × RestsFor x o.chosen.operation.retry_delay (told p u))
    ⊎ (HasRetried o.chosen.operation.max_retries (retries o who x log) × GivesUp (told p u))

-- One that rests is made again once its wait is over.
abbrev pub GoesOn : Operation → PlanTransition → Type 0
GoesOn x t = (p : Plan) × (action : Action) × (t ≡ Stays p action) × (progress x (Some p) ≡ Busy)

abbrev pub MadeAgainInTime : Type 0
MadeAgainInTime = (p : Plan) (x : Operation) → progress x (Some p) ≡ Resting → GoesOn x (told p outcome.Woken)

-- A command that fails so that no other time may help is given up at once.
abbrev pub GivenUpAtOnce : Type 0
GivenUpAtOnce = (p : Plan) (c : Command) (m : Making) (u : Outcome) (f : Fault) →
    stage p ≡ Some (InMaking c m) → answers_ask u ≡ true → FailsWith c m u f → is_retryable f ≡ false → GivesUp (told p u)
