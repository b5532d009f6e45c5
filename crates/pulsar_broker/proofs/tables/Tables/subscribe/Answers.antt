use Rattle.std.proofs.Common.{◌∙◌, ap, ◌++◌}
use Rattle.pulsar_broker.specs.Answers as answers
use Rattle.pulsar_broker.specs.Asked.{Subscribes}
use Rattle.pulsar_broker.specs.History.{bytes_for}
use Rattle.pulsar_broker.specs.Kept.{owed_on, state_in}
use Rattle.pulsar_broker.specs.State.{answer, joined, owed_to}
use Rattle.pulsar_broker.proofs.Answering.{answered_so, one_frame}
use Rattle.pulsar_broker.proofs.Answering.{joined_kept}
use Rattle.pulsar_broker.proofs.tables.Tables.subscribe.Goals as goal

pub returns : goal.returns
returns c url payload =
    let s = state_in c.args.self.now in
    let topic = c.args.topic.now in
    let subscription = c.args.subscription.now in
    answered_so (answer url c.args.link payload (Subscribes topic subscription c.args.number c.args.request c.args.position) s) c.args.self.now c.seat.new.self c.args.out.now c.post.new.self c.new.result.items
    c.new.ensures.items
    (c.in_ok-seat.ensures.after ∙ ap (joined c.args.link c.args.number topic subscription c.args.position) c.close.ensures.after)
    (one_frame (owed_on c.args.out.now) (owed_on c.post.new.self) (owed_to c.args.link (answers.succeeded c.args.request))
    (λ l. c.in_ok-post.ensures l ∙ ap (λ m. owed_on c.args.out.now l ++ bytes_for l (owed_to c.args.link m)) c.succeeded.ensures))
    (λ h. joined_kept c.close.new.self c.seat.new.self c.args.link c.args.number topic subscription c.args.position c.in_ok-seat.ensures.after c.in_ok-seat.ensures.listed (c.close.ensures.kept h))
