use Rattle.std.proofs.Common.{[]}
use Rattle.std.proofs.lemmas.Result.{MatchResult-weaker}
use Rattle.pulsar_run.proofs.Steps.{good}
use Rattle.pulsar_client.proofs.pulsar.Pulsar.drive.Goals as goal

pub returns-clause-run : goal.returns-clause-run
returns-clause-run g c =
    MatchResult-weaker c.take_all-all.result c.take_all-all.ensures.stands (λ all stands. good (stands _ [] c.in_ok-client.ensures.stands).stands) (λ e u. u)
