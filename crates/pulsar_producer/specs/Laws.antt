-- What follows of every history of a topic producer, of every send and of every building, in plain words. `h` has the acts of a history,
-- newest first, and `later` those behind them.
use Rattle.std.specs.Prelude.{◌≡◌, ℕ, ◌+◌, ◌<◌, ◌==◌, ◌&&◌, Bool, true, false, if◌then◌else◌, List, [], ◌∷◌, ◌++◌, Option, Some, None}
use Rattle.std.specs.List.{list_all, list_any}
use Rattle.std.specs.Option.{is_some, option_to_list}
use Rattle.pulsar_messages.specs.Content.{ProducerMessageValues}
use Rattle.pulsar_searches.specs.declared.turn.Ways.{Ways}
use Rattle.pulsar_producer.specs.Plans.{Sent, send_of, send_told}
use Rattle.pulsar_producer.specs.Routing.{Policy, Routed, IsRouted, chosen, count}
use Rattle.pulsar_producer.specs.Topic.{Act, Takes, Passes, Draws, Remakes, Closes, Stores, Flushes, Cuts, TakesBatch, Halts, Seen, Setup, drawn, is_free, next_holder, seen}
use Rattle.pulsar_producer.specs.declared.deed.Deed.{Deed}
use Rattle.pulsar_producer.specs.declared.deed.Deed.TheVariants.{Does, TakesTurn, Sends, PassesTurn, Recalls, Numbers, ClosesProducer, Settles, Rests}
use Rattle.pulsar_producer.specs.declared.deed.Deed.TheVariants as deed
use Rattle.pulsar_outgoing.specs.declared.news.Drawn.{Drawn}
use Rattle.pulsar_producer.specs.News.{News}
use Rattle.pulsar_outgoing.specs.declared.news.News.TheVariants.{Queued, Drew}
use Rattle.pulsar_producer.specs.declared.deed.Send.{Send}
use Rattle.pulsar_outgoing.specs.declared.multi_topic.Taker.{Taker}
use Rattle.pulsar_outgoing.specs.declared.multi_topic.Taker.TheVariants.{Call, Copy}
use Rattle.pulsar_outgoing.specs.declared.orders.Errand.{Errand}
use Rattle.pulsar_producer.specs.declared.sending.Sending.{Sending}
use Rattle.pulsar_producer.specs.declared.sending.Sending.TheVariants.{Drawing, Asked}
use Rattle.pulsar_searches.specs.declared.transition.Transition.TheVariants.{Stays, Gives}

-- HISTORIES

-- what is seen of a topic producer is that of this history
abbrev pub StandsFor : Seen → Setup → List Act → Type 0
StandsFor v s h = v ≡ seen s h

-- NUMBERS

-- A number that is drawn is greater than each that was drawn before it: so none is drawn twice.
abbrev pub NumbersRise : Type 0
NumbersRise = (s : Setup) (later h : List Act) (m n : ℕ) →
    drawn (seen s h) ≡ Some m → drawn (seen s (later ++ Draws ∷ h)) ≡ Some n → m < n

-- how many numbers the draws of a history have given
abbrev pub given_by : Act → Seen → ℕ
given_by (Takes t) v = 0
given_by Passes v = 0
given_by Draws v = if is_some (drawn v) then 1 else 0
given_by (Remakes l g) v = 0
given_by Closes v = 0
given_by (Stores t e) v = 0
given_by (Flushes t) v = 0
given_by Cuts v = 0
given_by TakesBatch v = 0
given_by Halts v = 0

abbrev pub draws_of : Setup → List Act → ℕ
draws_of s [] = 0
draws_of s (act ∷ h) = draws_of s h + given_by act (seen s h)

-- It is the first number and how many were drawn before, whatever else was done: each draw draws one.
abbrev pub NumbersCount : Type 0
NumbersCount = (s : Setup) (h : List Act) (n : ℕ) → drawn (seen s h) ≡ Some n → n ≡ s.first_number + draws_of s h

-- A message that is refused has spent its number, and all else is as if it had not been drawn.
abbrev pub RefusedSpendsItsNumber : Type 0
RefusedSpendsItsNumber = (s : Setup) (h : List Act) (n : ℕ) → drawn (seen s h) ≡ Some n →
    seen s (Passes ∷ Draws ∷ h) ≡ record (seen s (Passes ∷ h)) { next = n + 1 }

-- TURNS

-- whom an act gives the turn
abbrev pub turn_if : Option Taker → Taker → Option Taker
turn_if None t = Some t
turn_if (Some other) t = None

abbrev pub gives_turn : Act → Seen → Option Taker
gives_turn (Takes t) v = turn_if v.holder t
gives_turn Passes v = next_holder v
gives_turn Draws v = None
gives_turn (Remakes l g) v = None
gives_turn Closes v = None
gives_turn (Stores t e) v = None
gives_turn (Flushes t) v = None
gives_turn Cuts v = None
gives_turn TakesBatch v = None
gives_turn Halts v = None

-- each of these is greater
abbrev pub AreAbove : ℕ → List ℕ → Type 0
AreAbove t [] = Unit {0}
AreAbove t (u ∷ us) = (t < u) × AreAbove t us

-- the tickets of the calls among these
abbrev pub tickets : List Taker → List ℕ
tickets [] = []
tickets (Call t ∷ ts) = t ∷ tickets ts
tickets (Copy consumer ticket key ∷ ts) = tickets ts

-- The turn is passed on to the first of those that wait, and that one waits no longer. Where that is a call, its ticket is the lowest of the
-- calls that wait.
abbrev pub LowestIsNext : Type 0
LowestIsNext = (s : Setup) (h : List Act) (t : ℕ) → next_holder (seen s h) ≡ Some (Call t) →
    AreAbove t (tickets (seen s (Passes ∷ h)).waiting) × ((seen s h).waiting ≡ Call t ∷ (seen s (Passes ∷ h)).waiting)

abbrev pub FirstIsNext : Type 0
FirstIsNext = (s : Setup) (h : List Act) (t : Taker) → next_holder (seen s h) ≡ Some t →
    (seen s h).waiting ≡ t ∷ (seen s (Passes ∷ h)).waiting

-- who waits: those that wanted their turn and have not got it
abbrev pub is_taker : Taker → Taker → Bool
is_taker (Call t) (Call u) = t == u
is_taker (Call t) (Copy consumer ticket key) = false
is_taker (Copy consumer ticket key) (Call u) = false
is_taker (Copy consumer ticket key) (Copy other made more) = (consumer == other) && (key == more)

abbrev pub is_listed : Taker → List Taker → Bool
is_listed t ts = list_any (λ u. is_taker t u) ts

-- One whose turn is taken waits, until it has it.
abbrev pub WaitsInLine : Type 0
WaitsInLine = (s : Setup) (h : List Act) (t : Taker) → is_free (seen s h) ≡ false → is_listed t (seen s (Takes t ∷ h)).waiting ≡ true

-- those who wanted their turn, and those who were given it, in order
abbrev pub taker_of : Act → List Taker
taker_of (Takes t) = t ∷ []
taker_of Passes = []
taker_of Draws = []
taker_of (Remakes l g) = []
taker_of Closes = []
taker_of (Stores t e) = []
taker_of (Flushes t) = []
taker_of Cuts = []
taker_of TakesBatch = []
taker_of Halts = []

abbrev pub takers : List Act → List Taker
takers [] = []
takers (act ∷ h) = takers h ++ taker_of act

abbrev pub served : Setup → List Act → List Taker
served s [] = []
served s (act ∷ h) = served s h ++ option_to_list (gives_turn act (seen s h))

-- each of these tickets is greater than those before it
abbrev pub Ascend : List ℕ → Type 0
Ascend [] = Unit {0}
Ascend (t ∷ ts) = AreAbove t ts × Ascend ts

-- Where calls come in the order of their tickets it is first come, first served, whatever copies come between them: those who were given
-- their turn, and behind them those who wait for it, are those who wanted it, in the order in which they came. So a copy that comes between
-- two sends stays between them.
abbrev pub FirstComeFirstServed : Type 0
FirstComeFirstServed = (s : Setup) (h : List Act) → Ascend (tickets (takers h)) → served s h ++ (seen s h).waiting ≡ takers h

-- acts that leave the turn where it is
abbrev pub keeps : Act → Bool
keeps Passes = false
keeps (Takes t) = true
keeps Draws = true
keeps (Remakes l g) = true
keeps Closes = true
keeps (Stores t e) = true
keeps (Flushes t) = true
keeps Cuts = true
keeps TakesBatch = true
keeps Halts = true

-- One has the turn at a time: who has it keeps it until it is passed on, and meanwhile nobody is given it.
abbrev pub OneAtATime : Type 0
OneAtATime = (s : Setup) (later h : List Act) (t : Taker) → (seen s h).holder ≡ Some t → list_all keeps later ≡ true →
    ((seen s (later ++ h)).holder ≡ Some t) × ((act : Act) → keeps act ≡ true → gives_turn act (seen s (later ++ h)) ≡ None)

-- Nobody waits while the turn is free.
abbrev pub NobodyWaitsForFree : Type 0
NobodyWaitsForFree = (s : Setup) (h : List Act) → is_free (seen s h) ≡ true → (seen s h).waiting ≡ []

-- SENDS

-- what a step does, and where it stands
abbrev pub deeds_in : Sent → List Deed
deeds_in (Stays s d) = d ∷ []
deeds_in (Gives a) = []

abbrev pub state_in : Sent → Option Sending
state_in (Stays s d) = Some s
state_in (Gives a) = None

-- where a send stands after news, oldest first, and what it does on the way
abbrev pub state_after : Ways → Errand → Option Sending → List News → Option Sending
state_after w e None ns = None
state_after w e (Some s) [] = Some s
state_after w e (Some s) (n ∷ ns) = state_after w e (state_in (send_told w e s n)) ns

abbrev pub deeds_of : Ways → Errand → Option Sending → List News → List Deed
deeds_of w e None ns = []
deeds_of w e (Some s) [] = []
deeds_of w e (Some s) (n ∷ ns) = deeds_in (send_told w e s n) ++ deeds_of w e (state_in (send_told w e s n)) ns

abbrev pub is_send : Deed → Bool
is_send (Sends link send) = true
is_send (Does a) = false
is_send (TakesTurn n) = false
is_send (deed.Draws n) = false
is_send (PassesTurn n) = false
is_send (Recalls n) = false
is_send (deed.Remakes n link g) = false
is_send Numbers = false
is_send (deed.Holds link n) = false
is_send (ClosesProducer link n) = false
is_send (deed.TakesBatch n) = false
is_send (Settles reports) = false
is_send Rests = false

-- A send that was told that its frame is queued asks for no frame of its message again, whatever it is told.
abbrev pub QueuedIsNotAskedAgain : Type 0
QueuedIsNotAskedAgain = (w : Ways) (e : Errand) (s : Option Sending) (before later : List News) (m : Option ProducerMessageValues) →
    state_after w e s before ≡ Some (Asked m) → list_any is_send (deeds_of w e (state_after w e s (before ++ Queued ∷ [])) later) ≡ false

-- Each frame that it asks for bears the number that was just drawn for it, and the name that its producer has then.
abbrev pub EachFrameHasItsNumber : Type 0
EachFrameHasItsNumber = (w : Ways) (e : Errand) (s : Sending) (n : News) (link : ℕ) (send : Send) → deeds_in (send_told w e s n) ≡ Sends link send ∷ [] →
    (d : Drawn) × (m : ProducerMessageValues) × (n ≡ Drew d) × (s ≡ Drawing m) × (link ≡ d.link) × (send ≡ send_of e d m)

-- ROUTES

-- The partition of a message is one of those that are there, and so is the one that was used last.
abbrev pub PartitionIsThere : Type 0
PartitionIsThere = (ps : List Policy) (m : ProducerMessageValues) (r : Routed) (i : ℕ) → IsRouted r → chosen ps m r ≡ Some i → i < count r
