use Rattle.std.proofs.Common.{◌∙◌, ap, ◌++◌}
use Rattle.pulsar_broker.specs.Answers as answers
use Rattle.pulsar_broker.specs.Asked.{ClosesConsumer}
use Rattle.pulsar_broker.specs.History.{bytes_for}
use Rattle.pulsar_broker.specs.Kept.{owed_on, state_in}
use Rattle.pulsar_broker.specs.State.{answer, owed_to}
use Rattle.pulsar_broker.proofs.Answering.{answered_so, one_frame}
use Rattle.pulsar_broker.proofs.tables.Tables.close_consumer.Goals as goal

pub returns : goal.returns
returns c url payload =
    answered_so (answer url c.args.link payload (ClosesConsumer c.args.number c.args.request) (state_in c.args.self.now)) c.args.self.now c.close.new.self c.args.out.now c.post.new.self c.new.result.items
    c.new.ensures.items c.close.ensures.after
    (one_frame (owed_on c.args.out.now) (owed_on c.post.new.self) (owed_to c.args.link (answers.succeeded c.args.request))
    (λ l. c.in_ok-post.ensures l ∙ ap (λ m. owed_on c.args.out.now l ++ bytes_for l (owed_to c.args.link m)) c.succeeded.ensures))
    c.close.ensures.kept
