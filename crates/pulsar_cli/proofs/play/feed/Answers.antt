use Rattle.std.proofs.Common.{List, subst, sym}
use Rattle.pulsar_broker.specs.History.{Act}
use Rattle.pulsar_broker.specs.Stands.{StandsFor}
use Rattle.pulsar_cli.specs.Demo.{url}
use Rattle.pulsar_cli.proofs.Demos.{feed-more}
use Rattle.pulsar_cli.proofs.play.feed.Goals as goal

pub loop-effect-preserved : goal.loop-effect-preserved
loop-effect-preserved c = λ acts stands.
    subst (λ (a : List Act). StandsFor url a c.feed_one.new.broker)
    (sym (feed-more c.args.effects.now c.loop-effect.effect-index c.effect-item.result acts c.loop-effect-test.true c.effect-item.is))
    (c.in_ok-feed_one.ensures _ (c.loop-effect.invariant acts stands))
