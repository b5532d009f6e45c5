use Rattle.std.proofs.Common.{rules, ◌<◌, length}
use Rattle.pulsar_work.proofs.Told.{first-in}
use Rattle.pulsar_work.proofs.printing.first_in.Goals as goal

pub returns-in-Some : goal.returns-in-Some
returns-in-Some c =
    let within : c.loop-effect.effect-index < length c.args.effects.now = search rules in
    first-in c.args.effects.now c.loop-effect.effect-index c.effect-item.result _ within c.effect-item.is c.loop-effect.invariant c.in-Some.ensures
