use Rattle.std.proofs.Common.{refl}
use Rattle.pulsar_frame.specs.Shown.{message_values}
use Rattle.pulsar_broker.specs.Kept.{owed_on, state_in}
use Rattle.pulsar_broker.specs.State.{owed_to, to}
use Rattle.pulsar_broker.proofs.Answering.{answered_so, one_frame}
use Rattle.pulsar_broker.proofs.tables.Tables.say.Goals as goal

pub returns : goal.returns
returns c =
    answered_so (record { state = state_in c.args.self.now; given = to c.args.link (message_values c.args.message) }) c.args.self.now c.args.self.now c.args.out.now c.post.new.self c.new.result.items
    c.new.ensures.items refl
    (one_frame (owed_on c.args.out.now) (owed_on c.post.new.self) (owed_to c.args.link (message_values c.args.message)) c.in_ok-post.ensures)
    (λ h. h)
