use Rattle.std.proofs.Common.{◌≡◌, ◌*◌, length}
use Rattle.pulsar_wire.specs.Command.{command_spelling}
use Rattle.pulsar_speed.specs.Samples.{sample_message}
use Rattle.pulsar_speed.specs.Tallies.{number_in}
use Rattle.pulsar_speed.proofs.encoding.command.Given as goal

abbrev pub invariant-loop : goal.invariant-loop
invariant-loop l = record {
  spelled : l.bytes.items ≡ command_spelling (sample_message l.fn.sample 2).command;
  count : l.tally.count ≡ l.counter;
  bytes : l.tally.bytes ≡ l.counter * length (command_spelling (sample_message l.fn.sample 2).command);
  sum : l.tally.sum ≡ l.counter * number_in (sample_message l.fn.sample 2);
}
