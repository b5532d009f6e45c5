use Rattle.std.proofs.Common.{refl}
use Rattle.pulsar_wire.specs.Command.{command_spelling}
use Rattle.pulsar_wire.specs.Views.{command_values}
use Rattle.pulsar_wire.proofs.CommandTrip.{written_trip}
use Rattle.pulsar_wire.proofs.Ranges.{on_ok_both, short_end}
use Rattle.pulsar_wire.proofs.commands.base.encode_command.Goals as goal

pub returns-clause-again : goal.returns-clause-again
returns-clause-again c =
    let it = command_values c.args.command.now in
    on_ok_both c.write_command.result (λ d fits. written_trip it fits (short_end c.write_command.new.out c.args.out.now.items (command_spelling it) (d c.args.out.now.items refl))) c.write_command.ensures.ok c.write_command.ensures.fits
