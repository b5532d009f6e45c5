use Rattle.std.proofs.Common.{◌∙◌, ap}
use Rattle.pulsar_consumer_table.specs.Consumers.{built_at}
use Rattle.pulsar_client.proofs.Stepping.{seen_of}
use Rattle.pulsar_client.proofs.pulsar.Pulsar.consumer_at.Goals as goal

pub returns : goal.returns
returns g c = λ o h taken s run.
    c.built.ensures ∙ ap (λ v. built_at (v.consumers.rows c.args.ticket)) (seen_of c.args.self.now.tables s.stands run)
