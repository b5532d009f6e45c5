use Rattle.std.proofs.Common.{◌∙◌, ap, map}
use Rattle.pulsar_messages.specs.Content.{property}
use Rattle.pulsar_messages.proofs.PutProperty.{property_put}
use Rattle.pulsar_messages.proofs.message_builder.put_property.Goals as goal

pub returns : goal.returns
returns c = ap (map property) c.in_ok-insert.ensures.entries ∙ property_put c.args.key c.args.value _
