use Rattle.std.proofs.Common.{rules}
use Rattle.std.specs.BTreeMap.{is_at}
use Rattle.std.specs.Ordering.{nat_cmp}
use Rattle.pulsar_consumer_table.specs.Consumers.{stopped}
use Rattle.pulsar_consumer_table.proofs.Retaining.{each_changed, keys_stay}
use Rattle.pulsar_consumer_table.proofs.hearing.stop_all.Goals as goal

pub returns-clause-rows : goal.returns-clause-rows
returns-clause-rows c = λ t. each_changed _ stopped (λ f k v b w f' h. search rules) (is_at (nat_cmp t)) _ c.args.rows.now.entries c.retain.new.self.entries c.retain.ensures.filtered

pub returns-clause-tickets : goal.returns-clause-tickets
returns-clause-tickets c = keys_stay _ stopped (λ f k v b w f' h. search rules) _ c.args.rows.now.entries c.retain.new.self.entries c.retain.ensures.filtered
