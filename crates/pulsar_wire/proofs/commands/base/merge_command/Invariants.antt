use Rattle.std.proofs.Common.{◌≡◌, length}
use Rattle.pulsar_wire.specs.Run.{run}
use Rattle.pulsar_wire.specs.CommandMerge.{command_step}
use Rattle.pulsar_wire.specs.Views.{command_values}
use Rattle.pulsar_wire.proofs.commands.base.merge_command.Given as goal

abbrev pub invariant-loop-rest : goal.invariant-loop-rest
invariant-loop-rest l = run command_step (command_values l.command) l.rest ≡ run command_step (command_values l.fn.command) l.bytes

abbrev pub decreases-loop-rest : goal.decreases-loop-rest
decreases-loop-rest l = length l.rest
