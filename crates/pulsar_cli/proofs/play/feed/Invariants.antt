use Rattle.std.proofs.Common.{List, map, take}
use Rattle.pulsar_calls.specs.Content.{shown}
use Rattle.pulsar_broker.specs.History.{Act}
use Rattle.pulsar_broker.specs.Stands.{StandsFor}
use Rattle.pulsar_cli.specs.Demo.{fed_in, url}
use Rattle.pulsar_cli.proofs.play.feed.Given as goal

abbrev pub invariant-loop-effect : goal.invariant-loop-effect
invariant-loop-effect l =
    (acts : List Act) → StandsFor url acts l.fn.broker → StandsFor url (fed_in (map shown (take l.effect-index l.effects)) acts) l.broker
