use Rattle.std.proofs.Common.{arith}
use Rattle.pulsar_frame.specs.Shown.{message_of}
use Rattle.pulsar_frame.proofs.Written.{length-frame_bytes}
use Rattle.pulsar_frame.proofs.message.frame_len.Goals as goal

pub returns : goal.returns
returns c = omega (arith, length-frame_bytes (message_of c.args.command.now c.args.payload), c.command_len.ensures, c.len_behind.ensures, c.saturating_add.ensures, c.saturating_add-2.ensures)
