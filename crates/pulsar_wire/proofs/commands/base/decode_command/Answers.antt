use Rattle.std.proofs.Common.{refl, sym, ◌∙◌}
use Rattle.std.proofs.lemmas.Result.{err_from_is_err_and}
use Rattle.pulsar_wire.specs.Views.{command_values}
use Rattle.pulsar_wire.proofs.Merging.{Refuses-on}
use Rattle.pulsar_wire.proofs.CommandMerging.{command-run_from}
use Rattle.pulsar_wire.proofs.commands.base.decode_command.Goals as goal

pub returns-in_err-merge_command : goal.returns-in_err-merge_command
returns-in_err-merge_command c =
    let p = err_from_is_err_and c.from_residual.result c.from_residual.ensures.1 in
    rw (p.1, p.2) (Refuses-on c.in_err-merge_command.field-0.0 _ _ (λ none. sym (command-run_from (command_values c.new-command.result) c.args.bytes.now c.new-command.ensures.empty) ∙ rw none refl) c.in_err-merge_command.ensures)

pub returns : goal.returns
returns c = sym (command-run_from (command_values c.new-command.result) c.args.bytes.now c.new-command.ensures.empty) ∙ rw (c.in_ok-merge_command.ensures, c.settle.ensures) refl
