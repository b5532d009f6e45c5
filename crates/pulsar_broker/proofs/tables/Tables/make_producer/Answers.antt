use Rattle.std.proofs.Common.{◌≡◌, ◌∙◌, ap, ◌++◌, Some, string_bytes}
use Rattle.std.specs.Option.{option_copied}
use Rattle.pulsar_broker.specs.Answers as answers
use Rattle.pulsar_broker.specs.Asked.{MakesProducer}
use Rattle.pulsar_broker.specs.History.{bytes_for}
use Rattle.pulsar_broker.specs.Kept.{owed_on, producers_in, state_in}
use Rattle.pulsar_broker.specs.State.{answer, owed_to, with_producer}
use Rattle.pulsar_broker.proofs.Answering.{answered_so, one_frame}
use Rattle.pulsar_broker.proofs.Answering.{producers_set}
use Rattle.pulsar_broker.proofs.tables.Tables.make_producer.Goals as goal

pub returns : goal.returns
returns c url payload =
    let s = state_in c.args.self.now in
    let new = record c.args.self.now { producers = c.set_producer.new.producers } in
    let named : Some (string_bytes c.in_ok-topic.topic) ≡ Some c.args.topic.now = ap (λ x. Some x) c.in_ok-topic.ensures.ok in
    answered_so (answer url c.args.link payload (MakesProducer c.args.topic.now c.args.producer c.args.request (option_copied c.args.name)) s) c.args.self.now new c.args.out.now c.post.new.self c.new.result.items
    c.new.ensures.items
    (producers_set s c.args.link c.args.producer (Some (string_bytes c.in_ok-topic.topic)) (producers_in c.set_producer.new.producers) c.in_ok-set_producer.ensures
    ∙ ap (λ t. with_producer c.args.link c.args.producer t s) named)
    (one_frame (owed_on c.args.out.now) (owed_on c.post.new.self) (owed_to c.args.link (answers.producer_made c.args.producer c.args.request (option_copied c.args.name)))
    (λ l. c.in_ok-post.ensures l ∙ ap (λ m. owed_on c.args.out.now l ++ bytes_for l (owed_to c.args.link m)) c.in_ok-answer.ensures))
    (λ h. record { served = h.served; listed = record { listed = h.listed.listed; seated = h.listed.seated } })
