use Rattle.std.proofs.Common.{◌∙◌}
use Rattle.pulsar_consumer_table.specs.Consumers.{NotRevived}
use Rattle.pulsar_consumer_table.specs.KeptConsumers.{consumers_in}
use Rattle.pulsar_consumer_table.proofs.Asking.{changed_is}
use Rattle.pulsar_consumer_table.proofs.table.Consumers.fails.Goals as goal

pub returns-clause-after : goal.returns-clause-after
returns-clause-after c =
    c.in_ok-serves.ensures.after
    ∙ changed_is c.args.ticket (NotRevived c.args.failure) (consumers_in c.args.self.now.rows c.args.self.now.numbers)
