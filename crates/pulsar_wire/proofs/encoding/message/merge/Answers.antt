use Rattle.std.proofs.Common.{◌<◌, length, sym, ◌∙◌, arith}
use Rattle.std.proofs.lemmas.Bool.Decides.{nat_tests}
use Rattle.std.proofs.lemmas.Result.{err_from_is_err_and}
use Rattle.std.proofs.lemmas.Bool.{eqb-true}
use Rattle.pulsar_wire.specs.Shown.{field}
use Rattle.pulsar_wire.proofs.Fields.{field-takes}
use Rattle.pulsar_wire.proofs.Merging.{merged-done, merged-stop, merged-next, merged-refused, Refuses-on}
use Rattle.pulsar_wire.proofs.encoding.message.merge.Goals as goal

pub returns-in_default : goal.returns-in_default
returns-in_default g c =
    let long : 0 < length c.loop-rest.rest.now = grind (arith, nat_tests) in
    sym c.loop-rest.invariant ∙ merged-stop g.M.Message.shape (g.M.Message.values c.loop-rest.message) c.loop-rest.rest.now long (sym c.in_default.ensures)

pub returns-in_err-put : goal.returns-in_err-put
returns-in_err-put g c =
    let p = err_from_is_err_and c.from_residual.result c.from_residual.ensures.1 in
    rw (p.1, p.2) (Refuses-on c.in_err-put.field-0.0 _ _ (λ none. sym c.loop-rest.invariant ∙ merged-refused g.M.Message.shape (g.M.Message.values c.loop-rest.message) c.loop-rest.rest.now (field c.in-Some.number c.in-Some.value) c.in-Some.after.now (sym c.in-Some.ensures) none) c.in_err-put.ensures)

pub loop-rest-smaller : goal.loop-rest-smaller
loop-rest-smaller g c = omega (arith, field-takes.shorter c.loop-rest.rest.now (field c.in-Some.number c.in-Some.value) c.in-Some.after.now (sym c.in-Some.ensures))

pub loop-rest-preserved : goal.loop-rest-preserved
loop-rest-preserved g c =
    sym (merged-next g.M.Message.shape (g.M.Message.values c.loop-rest.message) (g.M.Message.values c.put.new.self) c.loop-rest.rest.now (field c.in-Some.number c.in-Some.value) c.in-Some.after.now (sym c.in-Some.ensures) c.in_ok-put.ensures) ∙ c.loop-rest.invariant

pub returns : goal.returns
returns g c = sym c.loop-rest.invariant ∙ merged-done g.M.Message.shape (g.M.Message.values c.loop-rest.message) c.loop-rest.rest.now (eqb-true _ _ (sym c.loop-rest-test.ensures))
