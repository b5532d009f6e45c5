use Rattle.std.proofs.Common.{◌↔◌, subst, sym}
use Rattle.std.specs.Bool.{IsTrue}
use Rattle.pulsar_consumer_table.specs.Consumers.{IsHeard}
use Rattle.pulsar_consumer_table.specs.KeptConsumers.{rows_in}
use Rattle.pulsar_consumer_table.proofs.Finding.{one_lives}
use Rattle.pulsar_consumer_table.proofs.table.Consumers.hears_on.Goals as goal

pub returns-clause-one : goal.returns-clause-one
returns-clause-one c =
    let rows = c.args.self.now.rows in
    subst (λ b. IsTrue b ↔ IsHeard c.args.link (rows_in rows)) (sym c.is_heard.ensures) (one_lives c.args.link rows)
