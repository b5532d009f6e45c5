use Rattle.std.proofs.Common.{◌∙◌, sym, ap, subst}
use Rattle.pulsar_messages.specs.Content.{message_content}
use Rattle.pulsar_producer.specs.Routing.{IsRouted, chosen_on}
use Rattle.pulsar_producer.proofs.Routes.{partition_is_there}
use Rattle.pulsar_producer.proofs.routing.PartitionedProducer.choose_partition.Goals as goal

pub returns-in-Some-clause-below : goal.returns-in-Some-clause-below
returns-in-Some-clause-below g c =
    partition_is_there _ (message_content c.args.message.now) c.args.self.now c.in-Some.index (subst IsRouted c.self.view_is c.self.invariant)
    (ap (λ said. chosen_on said (message_content c.args.message.now) c.args.self.now) (sym c.advice-advice.ensures) ∙ sym c.in-Some.ensures.chosen)
