use Rattle.std.proofs.Common.{◌∙◌, ap, map}
use Rattle.pulsar_messages.specs.Content.{property}
use Rattle.pulsar_grammar.specs.Parsed.{producer_draft_of}
use Rattle.pulsar_grammar.specs.ProducerWords.{with_options}
use Rattle.pulsar_grammar.proofs.Folds.{property_inserted}
use Rattle.pulsar_grammar.proofs.producer.with_meta.Goals as goal

pub returns : goal.returns
returns c =
    let placed = ap (map property) c.in_ok-insert.ensures.entries ∙ property_inserted c.args.name c.args.value c.args.draft.builder.options.metadata.entries in
    let d = producer_draft_of c.args.draft in
    ap (λ ps. with_options d (record d.wanted.options { metadata = ps })) placed
