use Rattle.std.proofs.Common.{◌∙◌, ap, ◌++◌, None}
use Rattle.pulsar_broker.specs.Answers as answers
use Rattle.pulsar_broker.specs.Asked.{ClosesProducer}
use Rattle.pulsar_broker.specs.History.{bytes_for}
use Rattle.pulsar_broker.specs.Kept.{owed_on, producers_in, state_in}
use Rattle.pulsar_broker.specs.State.{answer, owed_to}
use Rattle.pulsar_broker.proofs.Answering.{answered_so, one_frame}
use Rattle.pulsar_broker.proofs.Answering.{producers_set}
use Rattle.pulsar_broker.proofs.tables.Tables.close_producer.Goals as goal

pub returns : goal.returns
returns c url payload =
    let s = state_in c.args.self.now in
    let new = record c.args.self.now { producers = c.drop_producer.new.producers } in
    answered_so (answer url c.args.link payload (ClosesProducer c.args.producer c.args.request) s) c.args.self.now new c.args.out.now c.post.new.self c.new.result.items
    c.new.ensures.items
    (producers_set s c.args.link c.args.producer None (producers_in c.drop_producer.new.producers) c.drop_producer.ensures)
    (one_frame (owed_on c.args.out.now) (owed_on c.post.new.self) (owed_to c.args.link (answers.succeeded c.args.request))
    (λ l. c.in_ok-post.ensures l ∙ ap (λ m. owed_on c.args.out.now l ++ bytes_for l (owed_to c.args.link m)) c.succeeded.ensures))
    (λ h. record { served = h.served; listed = record { listed = h.listed.listed; seated = h.listed.seated } })
