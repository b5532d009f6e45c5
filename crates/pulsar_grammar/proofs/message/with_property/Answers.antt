use Rattle.std.proofs.Common.{◌∙◌, ap, map}
use Rattle.pulsar_messages.specs.Content.{property}
use Rattle.pulsar_grammar.specs.Parsed.{draft_of}
use Rattle.pulsar_grammar.proofs.Folds.{property_inserted}
use Rattle.pulsar_grammar.proofs.message.with_property.Goals as goal

pub returns : goal.returns
returns c =
    let placed = ap (map property) c.in_ok-insert.ensures.entries ∙ property_inserted c.args.name c.args.value c.args.draft.message.properties.entries in
    ap (λ ps. record (draft_of c.args.draft) { message = record (draft_of c.args.draft).message { properties = ps } }) placed
