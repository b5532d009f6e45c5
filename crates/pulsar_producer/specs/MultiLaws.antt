-- What follows of every history of a producer of many topics, and of every send and close by it, in plain words. `h` has the acts of a
-- history, newest first, and `later` those behind them.
use Rattle.std.specs.Prelude.{◌≡◌, ◌⊎◌, ℕ, bytes_eq, Bool, true, false, if◌then◌else◌, List, [], ◌∷◌, ◌++◌, Option, Some, None, Result, Err}
use Rattle.std.specs.Cmp.Lexicographic.{slice_cmp}
use Rattle.std.specs.List.{list_all}
use Rattle.std.specs.Option.{is_some, option_to_list}
use Rattle.std.specs.Ordering.{nat_cmp}
use Rattle.std.specs.declared.cmp.Ordering.TheVariants.{Less}
use Rattle.pulsar_messages.specs.Content.{ProducerMessageValues, ProducerOptionsValues}
use Rattle.pulsar_wire.specs.Failures.{Failure}
use Rattle.pulsar_searches.specs.declared.turn.Ways.{Ways}
use Rattle.pulsar_producer.specs.MultiPlans.{close_told, multi_failure, multi_send_told}
use Rattle.pulsar_producer.specs.MultiTopic.{Act, Takes, Passes, Hands, Joins, Removes, Seen, found, is_free, names, next_holder, seen}
use Rattle.pulsar_producer.specs.Plans.{Builds, build_told}
use Rattle.pulsar_producer.specs.declared.building.BuildingProducer.{BuildingProducer}
use Rattle.pulsar_outgoing.specs.declared.orders.ProducerOrder.{ProducerOrder}
use Rattle.pulsar_producer.specs.News.{News}
use Rattle.pulsar_searches.specs.declared.transition.Transition.TheVariants.{Stays, Gives}
use Rattle.pulsar_producer.specs.declared.multi_topic.closing.MultiClosing.{MultiClosing}
use Rattle.pulsar_producer.specs.declared.multi_topic.closing.MultiClosing.TheVariants as close
use Rattle.pulsar_outgoing.specs.declared.multi_topic.Dispatch.{Dispatch}
use Rattle.pulsar_outgoing.specs.declared.multi_topic.MultiAsk.TheVariants.{PassTurn}
use Rattle.pulsar_producer.specs.declared.multi_topic.deed.MultiDeed.TheVariants.{Asks}
use Rattle.pulsar_producer.specs.declared.multi_topic.deed.MultiNews.{MultiNews}
use Rattle.pulsar_producer.specs.declared.multi_topic.deed.MultiNews.TheVariants.{Told}
use Rattle.pulsar_outgoing.specs.declared.multi_topic.Taker.{Taker}
use Rattle.pulsar_producer.specs.declared.multi_topic.sending.MultiSending.{MultiSending}
use Rattle.pulsar_producer.specs.declared.multi_topic.sending.MultiSending.TheVariants as send

-- TURNS

-- whom an act gives the turn
abbrev pub turn_if : Option Taker → Taker → Option Taker
turn_if None t = Some t
turn_if (Some other) t = None

abbrev pub gives_turn : Act → Seen → Option Taker
gives_turn (Takes t) v = turn_if v.holder t
gives_turn Passes v = next_holder v
gives_turn (Hands topic m) v = None
gives_turn (Joins topic p) v = None
gives_turn (Removes topic) v = None

-- those who wanted their turn, and those who were given it, in order
abbrev pub takers : List Act → List Taker
takers [] = []
takers (Takes t ∷ h) = takers h ++ t ∷ []
takers (Passes ∷ h) = takers h
takers (Hands topic m ∷ h) = takers h
takers (Joins topic p ∷ h) = takers h
takers (Removes topic ∷ h) = takers h

abbrev pub served : Option (List ℕ) → ProducerOptionsValues → List Act → List Taker
served name o [] = []
served name o (act ∷ h) = served name o h ++ option_to_list (gives_turn act (seen name o h))

-- First come, first served: those who were given their turn, and behind them those who wait for it, are those who wanted it, in the order in
-- which they came.
abbrev pub FirstComeFirstServed : Type 0
FirstComeFirstServed = (name : Option (List ℕ)) (o : ProducerOptionsValues) (h : List Act) → served name o h ++ (seen name o h).waiting ≡ takers h

-- acts that leave the turn where it is
abbrev pub keeps : Act → Bool
keeps Passes = false
keeps (Takes t) = true
keeps (Hands topic m) = true
keeps (Joins topic p) = true
keeps (Removes topic) = true

-- One has the turn at a time: who has it keeps it until it is passed on, and meanwhile nobody is given it.
abbrev pub MultiOneAtATime : Type 0
MultiOneAtATime = (name : Option (List ℕ)) (o : ProducerOptionsValues) (later h : List Act) (t : Taker)
    → (seen name o h).holder ≡ Some t → list_all keeps later ≡ true
    → ((seen name o (later ++ h)).holder ≡ Some t) × ((act : Act) → keeps act ≡ true → gives_turn act (seen name o (later ++ h)) ≡ None)

-- Nobody waits while the turn is free.
abbrev pub MultiNobodyWaitsForFree : Type 0
MultiNobodyWaitsForFree = (name : Option (List ℕ)) (o : ProducerOptionsValues) (h : List Act) → is_free (seen name o h) ≡ true → (seen name o h).waiting ≡ []

-- TOPICS

-- each of these texts is behind this one
abbrev pub AreBehind : (text : List ℕ) → List (List ℕ) → Type 0
AreBehind t [] = Unit {0}
AreBehind t (u ∷ us) = (slice_cmp nat_cmp t u ≡ Less) × AreBehind t us

abbrev pub Ascend : List (List ℕ) → Type 0
Ascend [] = Unit {0}
Ascend (t ∷ ts) = AreBehind t ts × Ascend ts

-- The topics stand in the order of texts, each once.
abbrev pub TopicsAscend : Type 0
TopicsAscend = (name : Option (List ℕ)) (o : ProducerOptionsValues) (h : List Act) → Ascend (names (seen name o h))

-- A topic has a producer where one joined, and was not removed since.
abbrev pub was_joined : (topic : List ℕ) → List Act → Bool
was_joined t [] = false
was_joined t (Takes u ∷ h) = was_joined t h
was_joined t (Passes ∷ h) = was_joined t h
was_joined t (Hands topic m ∷ h) = was_joined t h
was_joined t (Joins topic p ∷ h) = if bytes_eq t topic then true else was_joined t h
was_joined t (Removes topic ∷ h) = if bytes_eq t topic then false else was_joined t h

abbrev pub ThereUntilRemoved : Type 0
ThereUntilRemoved = (name : Option (List ℕ)) (o : ProducerOptionsValues) (h : List Act) (t : List ℕ) → is_some (found t (seen name o h).topics) ≡ was_joined t h

-- SENDS AND CLOSES

abbrev pub has_ended : Builds → Bool
has_ended (Stays b deed) = false
has_ended (Gives r) = true

-- A send that passes its turn gives next how its message goes on, or why it failed, whatever it is told. So it passes its turn once.
abbrev pub SendPassesAtItsEnd : Type 0
SendPassesAtItsEnd = (w : Ways) (s s' : MultiSending) (n : MultiNews) → multi_send_told w s n ≡ Stays s' (Asks PassTurn)
    → (given : Result Dispatch Failure) × (s' ≡ send.Passing given) × ((x : MultiNews) → multi_send_told w s' x ≡ Gives given)

-- It ends only so, or where it has not got its turn.
abbrev pub SendEndsBehindItsTurn : Type 0
SendEndsBehindItsTurn = (w : Ways) (s : MultiSending) (n : MultiNews) (given : Result Dispatch Failure) → multi_send_told w s n ≡ Gives given
    → (s ≡ send.Passing given) ⊎ ((topic : List ℕ) × (m : ProducerMessageValues) × (s ≡ send.Waiting topic m) × (given ≡ Err (multi_failure n)))

-- It holds up all who come later while it builds the producer of its topic: it keeps its turn until that has ended.
abbrev pub SendKeepsItsTurnWhileItBuilds : Type 0
SendKeepsItsTurnWhileItBuilds = (w : Ways) (o : ProducerOrder) (m : ProducerMessageValues) (b : BuildingProducer) (n : News) (s : MultiSending)
    → multi_send_told w (send.Building o m b) (Told n) ≡ Stays s (Asks PassTurn) → has_ended (build_told w o b n) ≡ true

-- Where that fails, this send fails so. It joins nothing, so the next send to the topic builds again.
abbrev pub FailedBuildFailsItsSend : Type 0
FailedBuildFailsItsSend = (w : Ways) (o : ProducerOrder) (m : ProducerMessageValues) (b : BuildingProducer) (n : News) (f : Failure)
    → build_told w o b n ≡ Gives (Err f) → multi_send_told w (send.Building o m b) (Told n) ≡ Stays (send.Passing (Err f)) (Asks PassTurn)

-- And so of a close.
abbrev pub ClosePassesAtItsEnd : Type 0
ClosePassesAtItsEnd = (s s' : MultiClosing) (n : MultiNews) → close_told s n ≡ Stays s' (Asks PassTurn)
    → (given : Result (List ℕ) Failure) × (s' ≡ close.Passing given) × ((x : MultiNews) → close_told s' x ≡ Gives given)

abbrev pub CloseEndsBehindItsTurn : Type 0
CloseEndsBehindItsTurn = (s : MultiClosing) (n : MultiNews) (given : Result (List ℕ) Failure) → close_told s n ≡ Gives given
    → (s ≡ close.Passing given) ⊎ ((topic : List ℕ) × (s ≡ close.Waiting topic) × (given ≡ Err (multi_failure n)))
