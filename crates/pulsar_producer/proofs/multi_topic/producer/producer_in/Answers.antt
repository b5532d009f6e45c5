use Rattle.std.proofs.Common.{◌∙◌}
use Rattle.pulsar_producer.proofs.MultiMaps.{found_is}
use Rattle.pulsar_producer.proofs.multi_topic.producer.producer_in.Goals as goal

pub returns : goal.returns
returns c = c.get.ensures.value ∙ found_is c.args.topic.now _
