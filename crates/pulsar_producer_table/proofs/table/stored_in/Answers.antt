use Rattle.std.proofs.Common.{◌∙◌, ◌++◌, ℕ, ap, map, sym, take}
use Rattle.std.specs.BTreeMap.{get}
use Rattle.std.specs.List.{flat_map}
use Rattle.std.specs.Ordering.{nat_cmp}
use Rattle.pulsar_producer.specs.declared.routing.Partition.{Partition}
use Rattle.pulsar_producer_table.specs.Producers.{stored_at}
use Rattle.pulsar_producer_table.proofs.Grown.{flat_map_end, map_more}
use Rattle.pulsar_producer_table.proofs.table.stored_in.Goals as goal

pub loop-partition-preserved : goal.loop-partition-preserved
loop-partition-preserved c =
    let stores = λ (n : ℕ). stored_at (get nat_cmp c.args.topics.now n) in
    let number = λ (q : Partition). q.number in
    let qs = c.args.partitions.now in
    let i = c.loop-partition.partition-index in
    let q = c.partition-item.result in
    c.in_ok-store_tickets.ensures
    ∙ ap (λ ts. ts ++ stores q.number) c.loop-partition.invariant
    ∙ sym (ap (flat_map stores) (map_more number qs i q c.loop-partition-test.true c.partition-item.is)
    ∙ flat_map_end stores (map number (take i qs)) q.number)
