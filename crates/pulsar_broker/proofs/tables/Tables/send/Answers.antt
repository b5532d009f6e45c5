use Rattle.std.proofs.Common.{◌≡◌, ◌∙◌, sym, ap, refl, subst, ℕ, List, [], ◌++◌, Option, Some, None}
use Rattle.std.specs.Option.{option_map}
use Rattle.pulsar_frame.specs.Payload.{PayloadValues, payload_values}
use Rattle.pulsar_broker.specs.History.{bytes_for}
use Rattle.pulsar_broker.specs.Kept.{IsAnswered, owed_on, producers_in, state_in}
use Rattle.pulsar_broker.specs.State.{State, Turn, owed_to}
use Rattle.pulsar_broker.specs.State.{answer_send}
use Rattle.pulsar_broker.proofs.Answering.{sent_so, unanswered}
use Rattle.pulsar_broker.proofs.tables.Tables.send.Goals as goal

at_none : (s : State) (link producer sequence : ℕ) (payload : Option PayloadValues) (topic : Option (List ℕ)) → payload ≡ None →
    answer_send link producer sequence payload topic s ≡ record { state = s; given = [] }
at_none s link producer sequence payload topic is = ap (λ p. answer_send link producer sequence p topic s) is

at_nobody : (s : State) (link producer sequence : ℕ) (payload : Option PayloadValues) (topic : Option (List ℕ)) → topic ≡ None →
    answer_send link producer sequence payload topic s ≡ record { state = s; given = [] }
at_nobody s link producer sequence payload topic is = ap (λ t. answer_send link producer sequence payload t s) is ∙ by payload
  where
    by : (p : Option PayloadValues) → answer_send link producer sequence p None s ≡ record { state = s; given = [] }
    by None = refl
    by (Some p) = refl

abbrev turn_of : (c : goal.In_ok-post) → Option PayloadValues → Option (List ℕ) → Turn
turn_of c payload topic = answer_send c.args.link c.args.producer c.args.sequence payload topic (state_in c.args.self.now)

pub returns-in_default : goal.returns-in_default
returns-in_default c =
    let s = state_in c.args.self.now in
    let topic = producers_in c.args.self.now.producers c.args.link c.args.producer in
    let payload = option_map payload_values c.args.payload in
    unanswered (answer_send c.args.link c.args.producer c.args.sequence payload topic s) c.args.self.now c.args.out.now c.new.result.items c.new.ensures.items
    (at_none s c.args.link c.args.producer c.args.sequence payload topic (ap (option_map payload_values) c.in_default.is))

pub returns-in_default-topic_at : goal.returns-in_default-topic_at
returns-in_default-topic_at c =
    let s = state_in c.args.self.now in
    let topic = producers_in c.args.self.now.producers c.args.link c.args.producer in
    let payload = option_map payload_values c.args.payload in
    unanswered (answer_send c.args.link c.args.producer c.args.sequence payload topic s) c.args.self.now c.args.out.now c.new-in_default-topic_at.result.items c.new-in_default-topic_at.ensures.items
    (at_nobody s c.args.link c.args.producer c.args.sequence payload topic (sym c.in_default-topic_at.ensures))

pub returns : goal.returns
returns c =
    let topic = c.deref.result.now in
    let p = payload_values c.in-Some.payload in
    let made : Some topic ≡ producers_in c.args.self.now.producers c.args.link c.args.producer = ap (λ x. Some x) c.deref.ensures ∙ c.in-Some-topic_at.ensures in
    let said : Some p ≡ option_map payload_values c.args.payload = sym (ap (option_map payload_values) c.in-Some.is) in
    let place = c.in_ok-place.ensures in
    let sent = sent_so c.args.self.now c.store_in.new.topics c.args.link c.args.producer c.args.sequence c.in_ok-place.place topic p c.args.out.now c.post.new.self c.in_ok-place.seats.items
    place.place place.topics place.listed place.seats place.ordered
    (λ l. c.in_ok-post.ensures l ∙ ap (λ m. owed_on c.args.out.now l ++ bytes_for l (owed_to c.args.link m)) c.receipt.ensures) in
    subst (λ t. IsAnswered (turn_of c (option_map payload_values c.args.payload) t) c.args.self.now (record c.args.self.now { topics = c.store_in.new.topics }) c.args.out.now c.post.new.self c.in_ok-place.seats.items) made
    (subst (λ x. IsAnswered (turn_of c x (Some topic)) c.args.self.now (record c.args.self.now { topics = c.store_in.new.topics }) c.args.out.now c.post.new.self c.in_ok-place.seats.items) said sent)
