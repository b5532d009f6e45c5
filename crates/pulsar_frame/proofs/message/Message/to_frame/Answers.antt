use Rattle.std.proofs.Common.{arith}
use Rattle.pulsar_frame.specs.Frame.{FitsFrame}
use Rattle.pulsar_frame.specs.Shown.{message_values}
use Rattle.pulsar_frame.proofs.Written.{written_again}
use Rattle.pulsar_frame.proofs.message.Message.to_frame.Goals as goal

pub returns-clause-again : goal.returns-clause-again
unfolding FitsFrame
returns-clause-again c =
    let fits : FitsFrame (message_values c.args.self.now) = omega (arith, c.in-Some.ensures.total) in
    written_again (message_values c.args.self.now) fits c.in_ok-encode_command.ensures.again c.in_ok-write_behind.ensures.again
