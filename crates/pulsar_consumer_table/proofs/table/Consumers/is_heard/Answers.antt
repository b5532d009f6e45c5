use Rattle.std.proofs.Common.{◌∙◌}
use Rattle.pulsar_consumer_table.specs.Consumers.{lives_at}
use Rattle.pulsar_consumer_table.proofs.Rows.{any_row}
use Rattle.pulsar_consumer_table.proofs.table.Consumers.is_heard.Goals as goal

pub returns-then-self : goal.returns-then-self
returns-then-self c = c.any_lives.ensures.lives ∙ any_row (lives_at c.args.link) c.args.self.now.rows c.any_lives.ensures.ordered
