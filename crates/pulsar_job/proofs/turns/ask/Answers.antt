use Rattle.std.proofs.Common.{map}
use Rattle.pulsar_calls.specs.Content.{asked, shown}
use Rattle.pulsar_job.proofs.Goings.{asks-of, learned}
use Rattle.pulsar_job.proofs.turns.ask.Goals as goal

pub returns : goal.returns
returns g c =
    let called = c.in_ok-call.ensures in
    let learns = learned _ _ _ _ c.deref.ensures.value c.in_ok-learn.ensures.knows c.in_ok-learn.ensures.dials c.in_ok-learn.ensures.rest in
    asks-of (asked c.args.call) (map shown c.in_ok-receipt.receipt.effects.items) _ _ c.args.progress.now c.call.new.self c.learn.new.self c.in_ok-receipt.ensures called.knows called.one called.rest.0 called.rest.3
    called.rest.4 learns.knows learns.dials learns.calls learns.stopped learns.before
