use Rattle.std.proofs.Common.{◌∙◌, ap, map}
use Rattle.pulsar_producer.proofs.MultiMaps.{found_is, removed_is}
use Rattle.pulsar_producer.proofs.multi_topic.producer.take.Goals as goal
use Rattle.pulsar_producer.specs.MultiKept.{named}

pub returns-clause-producer : goal.returns-clause-producer
returns-clause-producer c = c.remove.ensures.value ∙ found_is c.args.topic.now _

pub returns-clause-left : goal.returns-clause-left
returns-clause-left c = ap (map named) c.remove.ensures.entries ∙ removed_is c.args.topic.now _
