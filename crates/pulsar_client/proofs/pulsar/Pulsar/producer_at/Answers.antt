use Rattle.std.proofs.Common.{◌∙◌, ap}
use Rattle.pulsar_client.proofs.Stepping.{seen_of}
use Rattle.pulsar_client.proofs.pulsar.Pulsar.producer_at.Goals as goal

pub returns : goal.returns
returns g c = λ o h taken s run. c.get.ensures.value ∙ ap (λ v. v.producers.built c.args.ticket) (seen_of c.args.self.now.tables s.stands run)
