use Rattle.std.proofs.Common.{◌∙◌, ap, rules}
use Rattle.std.proofs.lemmas.Map.Made.{lookup-map_values, map_same_pairs}
use Rattle.std.specs.BTreeMap.{is_at}
use Rattle.std.specs.Map.{lookup}
use Rattle.std.specs.Ordering.{nat_cmp}
use Rattle.pulsar_producer.specs.Topic.{Halts}
use Rattle.pulsar_producer_table.specs.KeptProducers.{producers_of}
use Rattle.pulsar_producer_table.specs.Producers.{topic_after}
use Rattle.pulsar_producer_table.proofs.table.Producers.halt.Goals as goal

pub returns : goal.returns
returns c =
    let ps = producers_of c.args.self.now in
    let es = c.args.self.now.topics.entries in
    let all = map_same_pairs _ (topic_after Halts) _ (λ k v b w f' t. search rules) es _ c.retain.ensures.filtered in
    λ i. record ps { topics = λ n. (ap (lookup (is_at (nat_cmp n))) all ∙ lookup-map_values (topic_after Halts) (is_at (nat_cmp n)) es) i }
