use Rattle.std.proofs.Common.{◌≡◌, take}
use Rattle.std.specs.List.{flat_map}
use Rattle.pulsar_consumer_table.specs.KeptConsumers.{consumers_in}
use Rattle.pulsar_producer_table.specs.KeptProducers.{producers_of}
use Rattle.pulsar_acts.specs.Tables.{unused_act}
use Rattle.pulsar_acts.proofs.tables.alarms.ends_idle.Given as goal

abbrev pub invariant-loop-link : goal.invariant-loop-link
invariant-loop-link l =
    l.acts.items ≡ flat_map (unused_act (consumers_in l.consumers.rows l.consumers.numbers) (producers_of l.producers)) (take l.link-index l.links)
