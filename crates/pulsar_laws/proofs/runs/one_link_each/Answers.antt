use Rattle.pulsar_laws.proofs.links.Attempts.{attempts_follow_lem}
use Rattle.pulsar_laws.proofs.links.OneEach.{one_link_each_lem}
use Rattle.pulsar_laws.proofs.runs.one_link_each.Goals as goal

pub returns : goal.returns
returns c = λ o log l seat run live. one_link_each_lem attempts_follow_lem o log l seat run live
