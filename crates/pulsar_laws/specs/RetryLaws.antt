-- What every run has of waiting and of trying again: when an alarm comes, and how often an attempt and an operation are made.
use Rattle.std.specs.Prelude.{◌≡◌, ◌⊎◌, ℕ, ◌+◌, ◌*◌, ◌-◌, ◌^◌, ◌≤◌, ◌<◌, min, bytes_eq, ◌&&◌, not, Bool, true, false, if◌then◌else◌, List, [], ◌∷◌, Option, Some, None, Result, Err, pos}
use Rattle.std.specs.List.{list_any}
use Rattle.std.specs.Option.{option_map}
use Rattle.pulsar_run.specs.Laws.{InThisStep}
use Rattle.pulsar_wire.specs.declared.error.IoKind.TheVariants.{ConnectionRefused, TimedOut}
use Rattle.pulsar_wire.specs.Failures.{Failure, Fault, OfConnection}
use Rattle.pulsar_frame.specs.Reply.{Reply as Content, is_body}
use Rattle.pulsar_addresses.specs.Address.{Place, address_key}
use Rattle.pulsar_addresses.specs.Backoff.{jitter}
use Rattle.pulsar_searches.specs.Plans as search
use Rattle.pulsar_searches.specs.Plans.{count_begins, count_told, look_begins, look_told, made_gets, made_told, is_retryable}
use Rattle.pulsar_searches.specs.Replies.{fails_by, is_choice, query}
use Rattle.pulsar_searches.specs.declared.count.Counting.TheVariants as count
use Rattle.pulsar_searches.specs.declared.look.Looking.TheVariants as look
use Rattle.pulsar_searches.specs.declared.look.Search.{Search}
use Rattle.pulsar_searches.specs.declared.making.Command.{Command}
use Rattle.pulsar_searches.specs.declared.making.Making.{Making}
use Rattle.pulsar_searches.specs.declared.making.Making.TheVariants as make
use Rattle.pulsar_searches.specs.declared.plan.Sought.TheVariants as sought
use Rattle.pulsar_searches.specs.declared.retry.Retrying.TheVariants as retry
use Rattle.pulsar_searches.specs.declared.turn.Action.{Action as Wish}
use Rattle.pulsar_searches.specs.declared.turn.Action.TheVariants as wish
use Rattle.pulsar_searches.specs.declared.turn.SearchOutcome.{SearchOutcome as News}
use Rattle.pulsar_searches.specs.declared.turn.SearchOutcome.TheVariants as news
use Rattle.pulsar_searches.specs.declared.turn.Ways.{Ways}
use Rattle.pulsar_producer.specs.Topic as topic
use Rattle.pulsar_calls.specs.declared.act.Act.{Act}
use Rattle.pulsar_calls.specs.declared.act.Act.TheVariants.{Answers, Comes, Dials, Does, Told}
use Rattle.pulsar_calls.specs.declared.act.Action.TheVariants.{OfTopic, Shut, StopAll, Wait}
use Rattle.pulsar_calls.specs.declared.act.TopicAsk.TheVariants.{Flush, Store}
use Rattle.pulsar_calls.specs.declared.act.Alarm.{Alarm}
use Rattle.pulsar_calls.specs.declared.act.Alarm.TheVariants.{Batch, CheckIdle, KeepAlive, Retry, Wake}
use Rattle.pulsar_calls.specs.declared.act.End.{End}
use Rattle.pulsar_calls.specs.declared.act.LinkAct.TheVariants.{Ends}
use Rattle.pulsar_calls.specs.declared.act.Outcome.TheVariants as outcome
use Rattle.pulsar_calls.specs.declared.act.Part.TheVariants.{Rings, ToLink}
use Rattle.pulsar_calls.specs.declared.act.Procedure.{Procedure}
use Rattle.pulsar_calls.specs.declared.act.Procedure.TheVariants as procedure
use Rattle.pulsar_calls.specs.declared.act.Who.{Who}
use Rattle.pulsar_calls.specs.Who.{turn_of as taken_as}
use Rattle.pulsar_links.specs.Alarms.{is_same_alarm, moment_of, rings}
use Rattle.pulsar_links.specs.Links.{Change, Remains, Becomes, IsOver}
use Rattle.pulsar_links.specs.Seats.{Seat}
use Rattle.pulsar_links.specs.declared.addresses.Pause.{Pause}
use Rattle.pulsar_links.specs.declared.addresses.Series.{Series}
use Rattle.pulsar_links.specs.declared.addresses.Series.TheVariants.{Nobody, Runs, Pauses, Serves}
use Rattle.pulsar_producer_table.specs.Producers.{is_bare, numbers_at, timeout_at, topic_after}
use Rattle.pulsar_producer_table.specs.declared.table.Topic.{Topic}
use Rattle.pulsar_acts.specs.Rules.{notice}
use Rattle.pulsar_acts.specs.Run.{Entry, Begins, Then, IsRun, Rests, view}
use Rattle.pulsar_acts.specs.View.{Turned, View, builds, turned}
use Rattle.pulsar_machine.specs.Options.{Chosen, Options}
use Rattle.pulsar_laws.specs.Laws.{Acted, Deed, deeds, started, ways_in}
use Rattle.pulsar_searches.specs.declared.transition.Transition.TheVariants.{Stays, Gives}
use Rattle.pulsar_searches.specs.Transitions.{SearchTransition}

-- WHEN AN ALARM COMES

-- a moment and a delay count to the end of 64 bits, and a power of two to that of 32
abbrev pub to_64 : ℕ → ℕ
to_64 n = min n (2 ^ 64 - 1)

abbrev pub to_32 : ℕ → ℕ
to_32 n = min n (2 ^ 32 - 1)

-- So long the attempt waits that follows that of a link: the least delay, doubled for each retry before it, up to the greatest delay; and on top as
-- many times the least delay as are drawn for the link.
abbrev pub wait_behind : Chosen → (link retries : ℕ) → ℕ
wait_behind o l n =
    to_64 (min (to_64 (o.connection.min_backoff * to_32 (2 ^ n))) o.connection.max_backoff + to_64 (o.connection.min_backoff * jitter o.seed l))

-- The alarm that an act sets, and how long it is to wait. A link that becomes ready is kept alive from then on, and from each time on that it was looked
-- at; where a link is over the attempt is set that is to follow.
abbrev pub set_by : Chosen → (link : ℕ) → Change → Option Pause → Option (Alarm × ℕ)
set_by o l Remains pause = None
set_by o l Becomes pause = Some (KeepAlive l, o.connection.keep_alive)
set_by o l IsOver None = None
set_by o l IsOver (Some p) = Some (Retry l, wait_behind o l p.retries)

abbrev pub set_on : Chosen → Option Turned → Option (Alarm × ℕ)
set_on o None = None
set_on o (Some t) = set_by o t.link t.change t.pause

abbrev pub set_again : Chosen → Alarm → Option (Alarm × ℕ)
set_again o (Retry l) = None
set_again o (Wake who) = None
set_again o (Batch n) = None
set_again o (KeepAlive l) = Some (KeepAlive l, o.connection.keep_alive)
set_again o CheckIdle = Some (CheckIdle, 60000)

-- What is stored waits from its first message on, so long as the options of its producer say. Where nothing is stored nothing waits.
abbrev pub set_stored : (number : ℕ) → (was_bare is_bare : Bool) → Option ℕ → Option (Alarm × ℕ)
set_stored n true false (Some timeout) = Some (Batch n, timeout)
set_stored n true false None = None
set_stored n true true timeout = None
set_stored n false b timeout = None

abbrev pub row_with : topic.Act → Option Topic → Option Topic
row_with act row = option_map (topic_after act) row

abbrev pub set_at : View → (number : ℕ) → topic.Act → Option (Alarm × ℕ)
set_at v n act =
    set_stored n (is_bare (v.producers.topics n)) (is_bare (row_with act (v.producers.topics n))) (timeout_at v.producers (v.producers.topics n))

-- a plan waits so long as it asks for; and the idle check comes a minute after the first Build that ends Ok, and each minute from then on
abbrev pub sets : View → Act → Option (Alarm × ℕ)
sets v (Comes (ToLink l x)) = set_on v.chosen (turned v (Comes (ToLink l x)))
sets v (Comes (Rings a)) = if rings v.now a v.alarms then set_again v.chosen a else None
sets v (Does who (Wait delay)) = Some (Wake who, delay)
sets v (Does who (OfTopic n (Store x))) = set_at v n (topic.Stores (taken_as who) x)
sets v (Does who (OfTopic n Flush)) = set_at v n (topic.Flushes (taken_as who))
sets v (Answers who verdict) = if not v.calls.is_built && builds verdict.makes false then Some (CheckIdle, 60000) else None
sets v _ = None

-- An act clears the alarm that rings, that for a link that is over, those for what is stored where nothing is any more, and all with the Stop.
abbrev pub is_over : Change → Bool
is_over Remains = false
is_over Becomes = false
is_over IsOver = true

abbrev pub cleared_on : Option Turned → Alarm → Bool
cleared_on None a = false
cleared_on (Some t) a = is_over t.change && is_same_alarm a (KeepAlive t.link)

abbrev pub cleared_at : View → (number : ℕ) → topic.Act → Alarm → Bool
cleared_at v n act a = is_bare (row_with act (v.producers.topics n)) && is_same_alarm a (Batch n)

abbrev pub clears : View → Act → Alarm → Bool
clears v (Comes (ToLink l x)) a = cleared_on (turned v (Comes (ToLink l x))) a
clears v (Comes (Rings b)) a = rings v.now b v.alarms && is_same_alarm a b
clears v (Does who (OfTopic n (Store x))) a = cleared_at v n (topic.Stores (taken_as who) x) a
clears v (Does who (OfTopic n Flush)) a = cleared_at v n (topic.Flushes (taken_as who)) a
clears v (Does who (Shut t)) a = list_any (λ n. is_same_alarm a (Batch n)) (numbers_at (v.producers.built t))
clears v (Does who StopAll) a = true
clears v _ a = false

-- the moment of an alarm, by the newest act that set or cleared it: that of the act, later by what the alarm is to wait
abbrev pub moment_by : (now : ℕ) → Option (Alarm × ℕ) → (clears : Bool) → Alarm → Option ℕ → Option ℕ
moment_by now None clears a before = if clears then None else before
moment_by now (Some set) clears a before = if is_same_alarm a set.0 then Some (to_64 (now + set.1)) else (if clears then None else before)

abbrev pub newest_moment : Options → Alarm → List Entry → Option ℕ
newest_moment o a [] = None
newest_moment o a (Begins e ∷ log) = newest_moment o a log
newest_moment o a (Then act ∷ log) =
    moment_by (view o log).now (sets (view o log) act) (clears (view o log) act a) a (newest_moment o a log)

-- An alarm is set to the moment at which it was set last, later by what the options say; and to none where it was cleared since.
abbrev pub MomentsAreSet : Type 0
MomentsAreSet = (o : Options) (log : List Entry) (a : Alarm) → moment_of a (view o log).alarms ≡ newest_moment o a log

-- A plan waits so long as the options say.
abbrev pub PlansWait : Type 0
PlansWait = (o : Options) (log : List Entry) (who : Who) (delay : ℕ) → IsRun o (Then (Does who (Wait delay)) ∷ log) →
    delay ≡ o.chosen.operation.retry_delay

-- Whoever looks for brokers does so by the options: so often it asks again, and so long it waits before.
abbrev pub WaysAreChosen : Type 0
WaysAreChosen = (o : Options) (log : List Entry) (who : Who) (p : Procedure) (w : Ways) → IsRun o log → started who log ≡ Some p → ways_in p ≡ Some w →
    (w.retry_delay ≡ o.chosen.operation.retry_delay) × (w.max_retries ≡ o.chosen.operation.max_retries)

-- HOW OFTEN AN ATTEMPT IS MADE

abbrev pub is_free : Series → Bool
is_free Nobody = true
is_free (Runs starter retries link) = false
is_free (Pauses link) = false
is_free (Serves link) = false

-- the attempts of the series of an address, from the one on with which it began, while nothing ran for it
abbrev pub attempts_in : Options → (key : List ℕ) → List Entry → ℕ
attempts_in o key [] = 0
attempts_in o key (Then (Dials p starter retries) ∷ log) =
    if bytes_eq (address_key p) key then (if is_free ((view o log).addresses.base key).series then 1 else attempts_in o key log + 1)
    else attempts_in o key log
attempts_in o key (_ ∷ log) = attempts_in o key log

-- The retries with which an attempt is made are those that its series has made: the n-th attempt is the (n-1)-th retry.
abbrev pub RetriesAreCounted : Type 0
RetriesAreCounted = (o : Options) (log : List Entry) (p : Place) (starter : Who) (n : ℕ) → IsRun o (Then (Dials p starter n) ∷ log) →
    attempts_in o (address_key p) (Then (Dials p starter n) ∷ log) ≡ n + 1

-- The attempt of a link ends, and its series has made as many retries as the options allow.
abbrev pub IsSpent : Options → Entry → List Entry → Type 0
IsSpent o e older =
    (l : ℕ) × (end : End) × (seat : Seat) × (e ≡ Then (Comes (ToLink l (Ends end)))) × ((view o older).links.live l ≡ Some seat)
    × (attempts_in o (address_key seat.address) older ≡ o.chosen.connection.max_retries + 1)

-- One is told that its attempt failed so that another may help only behind the first attempt and as many retries as the options allow.
abbrev pub AttemptsAreSpent : Type 0
AttemptsAreSpent =
    ((o : Options) (log : List Entry) (who : Who) → IsRun o (Then (Told (notice who (outcome.Failed ConnectionRefused))) ∷ log) → InThisStep (IsSpent o) log)
    × ((o : Options) (log : List Entry) (who : Who) → IsRun o (Then (Told (notice who (outcome.Failed TimedOut))) ∷ log) → InThisStep (IsSpent o) log)

-- HOW OFTEN AN OPERATION IS MADE

-- what a machine comes to along what it is told, and how often it rested on the way
abbrev pub turn_along : {S A : Type 0} → (S → News → SearchTransition S A) → SearchTransition S A → List News → SearchTransition S A
turn_along told (Gives a) os = Gives a
turn_along told (Stays s action) [] = Stays s action
turn_along told (Stays s action) (o ∷ os) = turn_along told (told s o) os

abbrev pub one_if : Bool → ℕ
one_if b = if b then 1 else 0

abbrev pub rests_along : {S A : Type 0} → (S → Wish → Bool) → (S → News → SearchTransition S A) → SearchTransition S A → List News → ℕ
rests_along test told (Gives a) os = 0
rests_along test told (Stays s action) [] = one_if (test s action)
rests_along test told (Stays s action) (o ∷ os) = one_if (test s action) + rests_along test told (told s o) os

-- fewer retries than the options allow were made, so far as 32 bits count them; or as many
abbrev pub MayRetry : Option ℕ → (retries : ℕ) → Type 0
MayRetry None n = Unit {0}
MayRetry (Some most) n = to_32 n < most

abbrev pub HasRetried : Option ℕ → (retries : ℕ) → Type 0
HasRetried None n = ⊥
HasRetried (Some most) n = most ≤ n

-- It is made again behind a wait where fewer retries were made than the options allow; and it is given up, with this failure, where as many were.
abbrev pub AgainOrNot : {S A : Type 0} → Ways → (retries : ℕ) → (rests : S) → Failure → SearchTransition S (Result A Failure) → Type 0
AgainOrNot w n rests f turn =
    (MayRetry w.max_retries n × (turn ≡ Stays rests (wish.Wait w.retry_delay))) ⊎ (HasRetried w.max_retries n × (turn ≡ Gives (Err f)))

-- A question rests where it waits; and a command does so before it looks for the broker again, which may wait for itself.
abbrev pub is_wait : {S : Type 0} → S → Wish → Bool
is_wait s (wish.Wait delay) = true
is_wait s _ = false

abbrev pub rests_making : Making → Wish → Bool
rests_making (make.Getting n) action = false
rests_making (make.Asked n l) action = false
rests_making (make.Retrying retry.Resting n) action = true
rests_making (make.Retrying (retry.Looking l) n) action = false

-- a reply tells that it failed since the service is not ready
abbrev pub IsNotReady : (body fails : ℕ) → Content → Type 0
IsNotReady body fails r = (is_body body r.body ≡ true) × (fails_by (pos fails) r.response ≡ true) × (is_choice (pos 6) r.error ≡ true)

-- A question for the number of partitions, or for the broker of a topic, is asked again so where the service is not ready,
abbrev pub CountsAgain : Type 0
CountsAgain = (w : Ways) (t : List ℕ) (os : List News) (again : Bool) (n l : ℕ) (a : Wish) (r : Content) →
    turn_along (count_told w t) (count_begins w t) os ≡ Stays (count.Asked again n l) a → IsNotReady 22 1 r →
    AgainOrNot w (rests_along is_wait (count_told w t) (count_begins w t) os) (count.Resting n l) (query r.error r.text)
    (count_told w t (count.Asked again n l) (news.Replied r))

abbrev pub LooksAgain : Type 0
LooksAgain = (w : Ways) (t : List ℕ) (os : List News) (s : Search) (l : ℕ) (a : Wish) (r : Content) →
    turn_along (look_told w t) (look_begins w) os ≡ Stays (look.Asked s l) a → IsNotReady 24 2 r →
    AgainOrNot w (rests_along is_wait (look_told w t) (look_begins w) os) (look.Resting s l) (query r.error r.text)
    (look_told w t (look.Asked s l) (news.Replied r))

-- and a command that makes a producer or a subscription where it failed so that another time may help; where it failed otherwise, it is given up.
abbrev pub MakesAgain : Type 0
MakesAgain = (w : Ways) (c : Command) (place : Place) (os : List News) (n l : ℕ) (a : Wish) (o : News) (f : Fault) →
    turn_along (made_told w c) (made_gets 0 place) os ≡ Stays (make.Asked n l) a → search.verdict c.answer o ≡ Err f →
    (is_retryable f ≡ true → AgainOrNot w (rests_along rests_making (made_told w c) (made_gets 0 place) os) (make.Retrying retry.Resting n) (OfConnection f)
    (made_told w c (make.Asked n l) o))
    × (is_retryable f ≡ false → made_told w c (make.Asked n l) o ≡ Gives (Err (OfConnection f)))

-- how often one waited
abbrev pub waits_in : List Deed → ℕ
waits_in [] = 0
waits_in (Acted (Wait delay) ∷ ds) = waits_in ds + 1
waits_in (d ∷ ds) = waits_in ds

-- Who asks for the number of partitions of a topic, or for its broker, waits so often only as the options allow, in every run: before each wait fewer
-- retries were made than that.
abbrev pub IsAllowed : Option ℕ → (waits : ℕ) → Type 0
IsAllowed most n = (before : ℕ) → n ≡ before + 1 → MayRetry most before

abbrev pub QuestionsAreBounded : Type 0
QuestionsAreBounded = (o : Options) (log : List Entry) (who : Who) (w : Ways) (t : List ℕ) → IsRun o log → Rests o log →
    (started who log ≡ Some (procedure.Search w (sought.CountPartitions t))) ⊎ (started who log ≡ Some (procedure.Search w (sought.Look t))) →
    IsAllowed o.chosen.operation.max_retries (waits_in (deeds who log))
