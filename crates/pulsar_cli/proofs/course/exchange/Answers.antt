use Rattle.pulsar_cli.proofs.Courses.{plays-exchange}
use Rattle.pulsar_cli.proofs.course.exchange.Goals as goal

pub returns : goal.returns
returns g c = λ seed count. plays-exchange c.in_ok-wrote.wrote _ _ _ (c.in_ok-wrote.ensures seed count) (c.in_ok-receive.ensures seed count)
