-- What arises from acts for the consumers of a client: what calls on them begin, what plans are told at once, and whom an act serves.
-- (Pulsar binary protocol, Consumer)
use Rattle.std.specs.Prelude.{ℕ, List, [], ◌∷◌, map, Option, Some, None}
use Rattle.std.specs.Option.{option_to_list}
use Rattle.pulsar_messages.specs.Words.{Words}
use Rattle.pulsar_wire.specs.Failures.{Exhausted}
use Rattle.pulsar_exchange.specs.Request.{closed_consumer}
use Rattle.pulsar_searches.specs.declared.turn.Ways.{Ways}
use Rattle.pulsar_incoming.specs.Content.{ConsumerWanted}
use Rattle.pulsar_incoming.specs.Naming.{order_of}
use Rattle.pulsar_incoming.specs.declared.naming.Ordered.{Ordered}
use Rattle.pulsar_incoming.specs.declared.naming.Ordered.TheVariants as ordered
use Rattle.pulsar_calls.specs.declared.act.Act.{Act}
use Rattle.pulsar_calls.specs.declared.act.Act.TheVariants.{Starts, Told}
use Rattle.pulsar_calls.specs.declared.act.End.{End}
use Rattle.pulsar_calls.specs.declared.act.Makes.{Makes}
use Rattle.pulsar_calls.specs.declared.act.Makes.TheVariants as makes
use Rattle.pulsar_calls.specs.declared.act.Notice.{Notice}
use Rattle.pulsar_calls.specs.declared.act.Outcome.{Outcome}
use Rattle.pulsar_calls.specs.declared.act.Outcome.TheVariants as outcome
use Rattle.pulsar_calls.specs.declared.act.Procedure.{Procedure}
use Rattle.pulsar_calls.specs.declared.act.Procedure.TheVariants as procedure
use Rattle.pulsar_calls.specs.declared.act.CallRefusal.{CallRefusal}
use Rattle.pulsar_calls.specs.declared.act.CallRefusal.TheVariants as refusal
use Rattle.pulsar_calls.specs.declared.act.Who.{Who}
use Rattle.pulsar_calls.specs.declared.act.Who.TheVariants.{Consumer}
use Rattle.pulsar_calls.specs.declared.act.Word.{Word}
use Rattle.pulsar_calls.specs.declared.act.Word.TheVariants as word
use Rattle.pulsar_calls.specs.declared.content.Joining.{Joining}
use Rattle.pulsar_calls.specs.Who.{ticket_of}
use Rattle.pulsar_consumer_table.specs.Consumers as consumer
use Rattle.pulsar_consumer_table.specs.Consumers.{Consumers, Member, over_rows}
use Rattle.pulsar_consumer_table.specs.declared.numbers.Numbering.{Numbering}
use Rattle.pulsar_consumer_table.specs.declared.numbers.Numbering.TheVariants.{Has, InUse, Spent}
use Rattle.pulsar_calls.specs.Notices.{notice}
use Rattle.pulsar_consumer_table.specs.Notices.{due_to, heard_at, lost_at, stopped_seekers, word_to}
use Rattle.pulsar_acts.specs.View.{View, member_on, setup_of, ways_of}
use Rattle.pulsar_machine.specs.Options.{Chosen}
use Rattle.pulsar_links.specs.Seats.{Seat, answer_at, arrival_at, closing, is_asked}

abbrev pub tells : Who → Outcome → List Act
tells who o = Told (notice who o) ∷ []

-- a call is refused, or not
abbrev pub unless : Option CallRefusal → Procedure → Procedure
unless None p = p
unless (Some r) p = procedure.Refuse r

-- CALLS ON CONSUMERS. One names a consumer by the ticket of the call that built it.

abbrev pub subscribes_by : Option Ways → Ordered → Procedure
subscribes_by ways ordered.Nothing = procedure.Refuse refusal.NoTopics
subscribes_by ways ordered.Several = procedure.Refuse refusal.ManyTopics
subscribes_by None (ordered.One order) = procedure.Refuse refusal.NoAddress
subscribes_by (Some ways) (ordered.One order) = procedure.Subscribe ways order

abbrev pub subscribes : Chosen → (ticket : ℕ) → ConsumerWanted → Procedure
subscribes o t w = subscribes_by (ways_of o) (order_of o.seed t w)

-- what is said of messages is asked for on the link of its live subscription, where one is
abbrev pub acknowledges : Consumers → (ticket : ℕ) → (ℕ → Words) → Procedure
acknowledges cs t says =
    unless (consumer.why_not cs t) (procedure.Acknowledge (consumer.link_at (cs.rows t)) (says (consumer.number_at (cs.rows t))))

abbrev pub leaves : Consumers → (ticket : ℕ) → Procedure
leaves cs t = unless (consumer.why_not cs t) (procedure.Leave t (consumer.number_at (cs.rows t)))

abbrev pub tells_word : Who → Word → List Act
tells_word who w = tells who (outcome.Word w)

-- what one is told who takes a number for a new consumer
abbrev pub numbering_said : Numbering → Outcome
numbering_said (Has n) = outcome.Word (word.Numbered n)
numbering_said InUse = outcome.Word word.InUse
numbering_said Spent = outcome.Refused Exhausted

-- WHAT FOLLOWS A VERDICT

-- A consumer is served by a plan of its own, which begins with it.
abbrev pub serves : Who → Joining → Ways → Act
serves w j ways = Starts (Consumer j.number (ticket_of w)) (procedure.Serve ways j.number)

abbrev pub serves_by : Option Ways → Who → Joining → List Act
serves_by ways w j = map (serves w j) (option_to_list ways)

-- WHOM AN ACT SERVES

-- and of one that is made
abbrev pub made_due : (ℕ → Option Seat) → (key : ℕ) → Who → Makes → List Notice
made_due live key w makes.Nothing = []
made_due live key w makes.Client = []
made_due live key w (makes.Consumer j) = due_to (ticket_of w) (member_on live j.link (setup_of key j))
made_due live key w (makes.RawConsumer l made) = []
made_due live key w (makes.Producer b) = []

-- a consumer whose close is asked for needs no plan any more
abbrev pub closed_at : View → (link : ℕ) → Words → (ticket : ℕ) → Member → List Notice
closed_at v l request t m =
    word_to t m (consumer.word_of_close (closed_consumer request) l (is_asked (answer_at v.now request (v.links.live l))) m)

abbrev pub heard_on : View → (link : ℕ) → List Notice
heard_on v l = over_rows (heard_at l (arrival_at (v.links.live l))) v.consumers

abbrev pub lost_on : View → (link : ℕ) → End → List Notice
lost_on v l end = over_rows (lost_at l (closing end v.now (v.links.live l))) v.consumers

-- THE STOP

abbrev pub stopped_on : View → List Notice
stopped_on v = over_rows stopped_seekers v.consumers
