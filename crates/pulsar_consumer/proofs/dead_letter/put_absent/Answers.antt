use Rattle.std.proofs.Common.{◌∙◌, ap, sym, map}
use Rattle.pulsar_messages.specs.Content.{property}
use Rattle.pulsar_consumer.proofs.Copying.{put_where_absent}
use Rattle.pulsar_consumer.proofs.dead_letter.put_absent.Goals as goal

pub returns : goal.returns
returns c =
    ap (λ es. map property es) c.in_ok-insert.ensures.entries
    ∙ put_where_absent c.args.name.now c.args.value.now c.in_ok-name.name c.in_ok-from_str.field-0 c.args.properties.now.entries
    c.in_ok-name.ensures.ok c.in_ok-from_str.ensures.ok (sym c.contains_key.ensures ∙ c.if-contains_key.false)
