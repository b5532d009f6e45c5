use Rattle.std.proofs.Common.{◌∙◌, ap, sym, map, take}
use Rattle.std.specs.BTreeMap.{get}
use Rattle.std.specs.Ordering.{nat_cmp}
use Rattle.pulsar_producer.specs.Topic.{Closes}
use Rattle.pulsar_producer.specs.declared.routing.Partition.{Partition}
use Rattle.pulsar_producer_table.specs.Producers.{changed, shut_all}
use Rattle.pulsar_producer_table.proofs.Grown.{map_more}
use Rattle.pulsar_producer_table.proofs.Producing.{shut_end, topics_changed}
use Rattle.pulsar_producer_table.proofs.table.close_all.Goals as goal

pub loop-partition-preserved : goal.loop-partition-preserved
loop-partition-preserved c = λ ps same.
    let number = λ (q : Partition). q.number in
    let qs = c.args.partitions.now in
    let i = c.loop-partition.partition-index in
    let q = c.partition-item.result in
    ap (λ ns. shut_all ns ps) (map_more number qs i q c.loop-partition-test.true c.partition-item.is)
    ∙ shut_end (map number (take i qs)) q.number ps
    ∙ ap (changed q.number Closes) (c.loop-partition.invariant ps same)
    ∙ sym (topics_changed (record ps { topics = get nat_cmp c.loop-partition.topics }) Closes q.number (get nat_cmp c.close.new.topics) c.close.ensures)
