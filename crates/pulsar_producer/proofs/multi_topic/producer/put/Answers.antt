use Rattle.std.proofs.Common.{◌∙◌, ap, map}
use Rattle.pulsar_producer.proofs.MultiMaps.{put_is}
use Rattle.pulsar_producer.proofs.multi_topic.producer.put.Goals as goal
use Rattle.pulsar_producer.specs.MultiKept.{named}

pub returns : goal.returns
returns c = ap (map named) c.in_ok-insert.ensures.entries ∙ put_is c.args.topic c.args.producer _
