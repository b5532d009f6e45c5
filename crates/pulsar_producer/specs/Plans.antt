-- Plans of producers: machines over the news of what they do. A state is told news; it stays in a state, with what is done there, or it
-- gives its value. A line is a rule.  (Pulsar binary protocol, Producer)
use Rattle.std.specs.Prelude.{ℕ, Bool, ◌&&◌, not, List, [], ◌∷◌, ◌++◌, Option, Some, None, Result, Ok, Err, if◌then◌else◌}
use Rattle.pulsar_messages.specs.Content.{ProducerMessageValues}
use Rattle.pulsar_wire.specs.Failures.{Fault, Disconnected, Failure, OfConnection}
use Rattle.pulsar_frame.specs.Reply.{Reply}
use Rattle.pulsar_addresses.specs.Address.{Named, Place}
use Rattle.pulsar_searches.specs.Plans.{fault_of, is_lost, look_begins, look_told, made_gets, made_told, names_begins, names_told, verdict}
use Rattle.pulsar_searches.specs.declared.look.Looking.{Looking}
use Rattle.pulsar_searches.specs.declared.making.Command.{Command}
use Rattle.pulsar_searches.specs.declared.making.Making.{Making}
use Rattle.pulsar_searches.specs.declared.making.Served.{Served}
use Rattle.pulsar_searches.specs.declared.names.Naming.{Naming}
use Rattle.pulsar_searches.specs.declared.turn.Ways.{Ways}
use Rattle.pulsar_producer.specs.Commands.{command}
use Rattle.pulsar_outgoing.specs.Errors.{in_producer}
use Rattle.pulsar_messages.specs.Message.{with_version}
use Rattle.pulsar_outgoing.specs.Replies.{given}
use Rattle.pulsar_outgoing.specs.declared.content.Built.{Built}
use Rattle.pulsar_producer.specs.declared.deed.Deed.{Deed}
use Rattle.pulsar_producer.specs.declared.deed.Deed.TheVariants.{Does, TakesTurn, Draws, Sends, PassesTurn, Recalls, Remakes, Numbers, Holds, ClosesProducer, Rests}
use Rattle.pulsar_outgoing.specs.declared.news.Drawn.{Drawn}
use Rattle.pulsar_producer.specs.News.{News}
use Rattle.pulsar_outgoing.specs.declared.news.News.TheVariants.{Told, Queued, InLine, HasTurn, Drew, Recalled, Numbered, Ready, HasBatch, Done}
use Rattle.pulsar_producer.specs.declared.deed.Send.{Send}
use Rattle.pulsar_outgoing.specs.declared.orders.Errand.{Errand}
use Rattle.pulsar_producer.specs.declared.sending.Sending.{Sending}
use Rattle.pulsar_producer.specs.declared.sending.Sending.TheVariants as send
use Rattle.pulsar_outgoing.specs.declared.orders.ProducerOrder.{ProducerOrder}
use Rattle.pulsar_producer.specs.declared.building.Part.{Part}
use Rattle.pulsar_producer.specs.declared.building.BuildingProducer.{BuildingProducer}
use Rattle.pulsar_producer.specs.declared.building.BuildingProducer.TheVariants as build
use Rattle.pulsar_searches.specs.declared.transition.Transition.TheVariants.{Stays, Gives}
use Rattle.pulsar_searches.specs.Transitions.{SearchTransition}
use Rattle.pulsar_producer.specs.Transitions.{ProducerTransition}

-- a plan within a plan: its states are states of the outer one, and the outer one goes on with what it gives
abbrev pub nested : {S T A B : Type 0} → SearchTransition S A → (S → T) → (A → ProducerTransition T B) → ProducerTransition T B
nested (Stays s action) within on = Stays (within s) (Does action)
nested (Gives a) within on = on a

-- the same for a plan that may fail: what follows its value, and what follows its failure
abbrev pub either_way : {T A B : Type 0} → (A → ProducerTransition T B) → (Failure → ProducerTransition T B) → Result A Failure → ProducerTransition T B
either_way on otherwise (Ok a) = on a
either_way on otherwise (Err f) = otherwise f

abbrev pub or_else : {S T A B : Type 0} → SearchTransition S (Result A Failure) → (S → T) → (A → ProducerTransition T B) →
    (Failure → ProducerTransition T B) → ProducerTransition T B
or_else turn within on otherwise = nested turn within (either_way on otherwise)

-- Why a plan fails at news. What it doesn't wait for counts as the loss of what it waits for.
abbrev pub fault_told : News → Fault
fault_told (Told o) = fault_of o
fault_told Queued = Disconnected
fault_told InLine = Disconnected
fault_told (HasTurn version) = Disconnected
fault_told (Drew d) = Disconnected
fault_told (Recalled c) = Disconnected
fault_told (Numbered n) = Disconnected
fault_told Ready = Disconnected
fault_told (HasBatch items) = Disconnected
fault_told Done = Disconnected

-- A SEND. Its turn is over once its frame is queued, and then its outcome is the answer: it is not asked for again. Where its link is not
-- ready, or ends while its frame stands in the line, the producer is made again, and another number is drawn.

abbrev pub Sent : Type 0
Sent = ProducerTransition Sending (Result Reply Failure)

abbrev pub send_begins : Errand → ProducerMessageValues → Sent
send_begins e m = Stays (send.Waiting m) (TakesTurn e.producer)

abbrev pub send_draws : Errand → ProducerMessageValues → Sent
send_draws e m = Stays (send.Drawing m) (Draws e.producer)

-- the turn is over, and then it fails
abbrev pub send_ends : Errand → Failure → Sent
send_ends e f = Stays (send.Ending f) (PassesTurn e.producer)

abbrev pub send_recalls : Errand → ProducerMessageValues → Sent
send_recalls e m = Stays (send.Recalling m) (Recalls e.producer)

-- a message whose frame is to stand in the line is kept, since it may have to be asked again
abbrev pub kept : Errand → (room : Bool) → ProducerMessageValues → Option ProducerMessageValues
kept e room m = if e.block && not room then Some m else None

abbrev pub send_of : Errand → Drawn → ProducerMessageValues → Send
send_of e d m = record { producer = e.producer; name = d.name; sequence = d.number; message = m; block = e.block }

abbrev pub send_asks : Errand → Drawn → ProducerMessageValues → Sent
send_asks e d m = Stays (send.Asked (kept e d.room m)) (Sends d.link (send_of e d m))

-- a link that is not ready, or numbers that are spent
abbrev pub not_drawn : Errand → ProducerMessageValues → Fault → Sent
not_drawn e m f = if is_lost f then send_recalls e m else send_ends e (in_producer f)

-- a frame that was refused, or dropped from the line
abbrev pub not_queued : Errand → Option ProducerMessageValues → Fault → Sent
not_queued e None f = send_ends e (in_producer f)
not_queued e (Some m) f = not_drawn e m f

-- a receipt answers it
abbrev pub receipt : Result Reply Fault → Sent
receipt (Ok r) = Gives (Ok r)
receipt (Err f) = Gives (Err (in_producer f))

-- it was made again
abbrev pub send_remakes : Errand → ProducerMessageValues → Served → Sent
send_remakes e m s = Stays (send.Remaking m) (Remakes e.producer s.link (given s.reply))

abbrev pub send_makes : Errand → ProducerMessageValues → Command → SearchTransition Making (Result Served Failure) → Sent
send_makes e m c turn = or_else turn (send.Making m c) (send_remakes e m) (send_ends e)

abbrev pub send_looks : Errand → ProducerMessageValues → Command → SearchTransition Looking (Result Place Failure) → Sent
send_looks e m c turn = or_else turn (send.Looking m c) (λ place. send_makes e m c (made_gets 0 place)) (send_ends e)

abbrev pub in_waiting : Errand → ProducerMessageValues → News → Sent
in_waiting e m (HasTurn version) = send_draws e (with_version version m)
in_waiting e m n = Gives (Err (in_producer (fault_told n)))

abbrev pub in_drawing : Errand → ProducerMessageValues → News → Sent
in_drawing e m (Drew d) = send_asks e d m
in_drawing e m n = not_drawn e m (fault_told n)

abbrev pub in_asked : Errand → Option ProducerMessageValues → News → Sent
in_asked e kept Queued = Stays send.Sent (PassesTurn e.producer)
in_asked e kept InLine = Stays (send.Asked kept) Rests
in_asked e kept n = not_queued e kept (fault_told n)

-- its outcome is waited for, and nothing else
abbrev pub in_sent : News → Sent
in_sent (Told o) = receipt (verdict 7 o)
in_sent n = Stays send.Sent Rests

abbrev pub in_recalling : Ways → Errand → ProducerMessageValues → News → Sent
in_recalling w e m (Recalled c) = send_looks e m c (look_begins w)
in_recalling w e m n = send_ends e (in_producer (fault_told n))

abbrev pub in_looking : Ways → Errand → ProducerMessageValues → Command → Looking → News → Sent
in_looking w e m c l (Told o) = send_looks e m c (look_told w c.topic l o)
in_looking w e m c l n = Stays (send.Looking m c l) Rests

abbrev pub in_making : Ways → Errand → ProducerMessageValues → Command → Making → News → Sent
in_making w e m c k (Told o) = send_makes e m c (made_told w c k o)
in_making w e m c k n = Stays (send.Making m c k) Rests

abbrev pub in_remaking : Errand → ProducerMessageValues → News → Sent
in_remaking e m Done = send_draws e m
in_remaking e m n = send_ends e (in_producer (fault_told n))

abbrev pub send_told : Ways → Errand → Sending → News → Sent
send_told w e (send.Waiting m) n = in_waiting e m n
send_told w e (send.Drawing m) n = in_drawing e m n
send_told w e (send.Asked kept) n = in_asked e kept n
send_told w e send.Sent n = in_sent n
send_told w e (send.Recalling m) n = in_recalling w e m n
send_told w e (send.Looking m c l) n = in_looking w e m c l n
send_told w e (send.Making m c k) n = in_making w e m c k n
send_told w e (send.Remaking m) n = in_remaking e m n
send_told w e (send.Ending f) n = Gives (Err f)

-- A BUILDING. The names of the topic are found, and for each a number is drawn and a producer is made. Where one can't be made, those that
-- were made are closed in order, whatever the answers, and then it fails.

abbrev pub Builds : Type 0
Builds = ProducerTransition BuildingProducer (Result (List Built) Failure)

abbrev pub build_closes : List Built → Failure → Builds
build_closes [] f = Gives (Err f)
build_closes (p ∷ left) f = Stays (build.Closing left f) (ClosesProducer p.link p.number)

-- the next name is taken, behind those for which a topic producer was made; this is done before it
abbrev pub build_next : Deed → List Named → List Built → Builds
build_next d [] made = Gives (Ok made)
build_next d (n ∷ left) made = Stays (build.Numbering (record { topic = n.name; place = n.place; left = left; made = made })) d

-- one more was made
abbrev pub built : (topic : List ℕ) (number : ℕ) → Served → Built
built topic number s = record { topic = topic; number = number; link = s.link; given = given s.reply }

abbrev pub build_made : (topic : List ℕ) (number : ℕ) → List Named → List Built → Served → Builds
build_made topic number left made s = build_next (Holds s.link number) left (made ++ built topic number s ∷ [])

abbrev pub build_makes : Command → (number : ℕ) → List Named → List Built → SearchTransition Making (Result Served Failure) → Builds
build_makes c number left made turn =
    or_else turn (λ k. build.Making c k number left made) (build_made c.topic number left made) (build_closes made)

abbrev pub build_numbered : ProducerOrder → Part → (number : ℕ) → Builds
build_numbered o p number = build_makes (command p.topic number o.name o.options) number p.left p.made (made_gets 0 p.place)

abbrev pub build_names : SearchTransition Naming (Result (List Named) Failure) → Builds
build_names turn = or_else turn build.Naming (λ names. build_next Numbers names []) (λ f. Gives (Err f))

abbrev pub build_begins : Ways → ProducerOrder → Builds
build_begins w o = build_names (names_begins w o.topic)

abbrev pub in_naming : Ways → ProducerOrder → Naming → News → Builds
in_naming w o n (Told x) = build_names (names_told w o.topic n x)
in_naming w o n y = Stays (build.Naming n) Rests

abbrev pub in_numbering : ProducerOrder → Part → News → Builds
in_numbering o p (Numbered number) = build_numbered o p number
in_numbering o p Done = Stays (build.Numbering p) Numbers
in_numbering o p y = build_closes p.made (OfConnection (fault_told y))

abbrev pub in_producing : Ways → Command → Making → (number : ℕ) → List Named → List Built → News → Builds
in_producing w c k number left made (Told x) = build_makes c number left made (made_told w c k x)
in_producing w c k number left made y = Stays (build.Making c k number left made) Rests

abbrev pub in_closing : List Built → Failure → News → Builds
in_closing left f (Told x) = build_closes left f
in_closing left f y = Stays (build.Closing left f) Rests

abbrev pub build_told : Ways → ProducerOrder → BuildingProducer → News → Builds
build_told w o (build.Naming n) y = in_naming w o n y
build_told w o (build.Numbering p) y = in_numbering o p y
build_told w o (build.Making c k number left made) y = in_producing w c k number left made y
build_told w o (build.Closing left f) y = in_closing left f y
