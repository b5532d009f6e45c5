use Rattle.std.proofs.Common.{◌<◌, length, sym, ◌∙◌, arith}
use Rattle.std.proofs.lemmas.Bool.{eqb-true}
use Rattle.std.proofs.lemmas.Bool.Decides.{nat_tests}
use Rattle.pulsar_wire.proofs.Fields.{varint-takes}
use Rattle.pulsar_wire.proofs.Packed.{with_numbers-done, with_numbers-stop, with_numbers-next}
use Rattle.pulsar_wire.proofs.encoding.content.push_packed.Goals as goal

pub returns-in_default : goal.returns-in_default
returns-in_default c =
    let long : 0 < length c.loop-rest.rest.now = grind (arith, nat_tests) in
    sym c.loop-rest.invariant ∙ with_numbers-stop c.loop-rest.slot.items c.loop-rest.rest.now long (sym c.in_default.ensures)

pub loop-rest-smaller : goal.loop-rest-smaller
loop-rest-smaller c = omega (arith, varint-takes.shorter c.loop-rest.rest.now c.in-Some.n c.in-Some.after.now (sym c.in-Some.ensures))

pub loop-rest-preserved : goal.loop-rest-preserved
loop-rest-preserved c = rw c.in_ok-push_number.ensures (sym (with_numbers-next c.loop-rest.slot.items c.loop-rest.rest.now c.in-Some.n c.in-Some.after.now (sym c.in-Some.ensures)) ∙ c.loop-rest.invariant)

pub returns : goal.returns
returns c = sym c.loop-rest.invariant ∙ with_numbers-done c.loop-rest.slot.items c.loop-rest.rest.now (eqb-true _ _ (sym c.loop-rest-test.ensures))
