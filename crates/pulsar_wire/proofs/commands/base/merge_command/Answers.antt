use Rattle.std.proofs.Common.{◌<◌, length, sym, ◌∙◌, arith}
use Rattle.std.proofs.lemmas.Bool.{eqb-true}
use Rattle.std.proofs.lemmas.Bool.Decides.{nat_tests}
use Rattle.std.proofs.lemmas.Result.{err_from_is_err_and}
use Rattle.pulsar_wire.specs.Shown.{field}
use Rattle.pulsar_wire.specs.CommandMerge.{command_step}
use Rattle.pulsar_wire.specs.Views.{command_values}
use Rattle.pulsar_wire.proofs.Fields.{field-takes}
use Rattle.pulsar_wire.proofs.Merging.{Refuses-on}
use Rattle.pulsar_wire.proofs.Running.{run-done, run-stop, run-next, run-refused}
use Rattle.pulsar_wire.proofs.commands.base.merge_command.Goals as goal

pub returns-in_default : goal.returns-in_default
returns-in_default c =
    let long : 0 < length c.loop-rest.rest.now = grind (arith, nat_tests) in
    sym c.loop-rest.invariant ∙ run-stop command_step (command_values c.loop-rest.command) c.loop-rest.rest.now long (sym c.in_default.ensures)

pub returns-in_err-put : goal.returns-in_err-put
returns-in_err-put c =
    let p = err_from_is_err_and c.from_residual.result c.from_residual.ensures.1 in
    rw (p.1, p.2) (Refuses-on c.in_err-put.field-0.0 _ _ (λ none. sym c.loop-rest.invariant ∙ run-refused command_step (command_values c.loop-rest.command) c.loop-rest.rest.now (field c.in-Some.number c.in-Some.value) c.in-Some.after.now (sym c.in-Some.ensures) none) c.in_err-put.ensures)

pub loop-rest-smaller : goal.loop-rest-smaller
loop-rest-smaller c = omega (arith, field-takes.shorter c.loop-rest.rest.now (field c.in-Some.number c.in-Some.value) c.in-Some.after.now (sym c.in-Some.ensures))

pub loop-rest-preserved : goal.loop-rest-preserved
loop-rest-preserved c =
    sym (run-next command_step (command_values c.loop-rest.command) (command_values c.put.new.self) c.loop-rest.rest.now (field c.in-Some.number c.in-Some.value) c.in-Some.after.now (sym c.in-Some.ensures) c.in_ok-put.ensures) ∙ c.loop-rest.invariant

pub returns : goal.returns
returns c = sym c.loop-rest.invariant ∙ run-done command_step (command_values c.loop-rest.command) c.loop-rest.rest.now (eqb-true _ _ (sym c.loop-rest-test.ensures))
