use Rattle.pulsar_calls.specs.Content.{heard}
use Rattle.pulsar_cli.proofs.Courses.{plays-turn}
use Rattle.pulsar_cli.proofs.course.turn.Goals as goal

pub returns : goal.returns
returns g c = λ seed count. plays-turn (heard c.args.event.value) _ _ _ (c.in_ok-submit.ensures seed count) (c.in_ok-exchanges.ensures seed count)
