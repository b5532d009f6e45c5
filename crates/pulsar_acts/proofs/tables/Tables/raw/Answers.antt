use Rattle.std.proofs.Common.{◌∙◌, ap}
use Rattle.pulsar_consumer_table.specs.Consumers as consumer
use Rattle.pulsar_producer_table.specs.Producers.{names_in}
use Rattle.pulsar_acts.specs.Tables.{view_of}
use Rattle.pulsar_acts.proofs.tables.Tables.raw.Goals as goal

pub returns-clause-after : goal.returns-clause-after
returns-clause-after c =
    let v = view_of c.args.self.now in
    let named = c.in_ok-name.ensures ∙ ap (λ n. consumer.names_in n v.consumers) c.named_consumer-consumer.ensures in
    c.in_ok-is_used.ensures.after
    ∙ (λ i. record v { consumers = named i; producers = names_in (c.named_producer-producer.ensures i) v.producers })
