use Rattle.std.proofs.Common.{◌∙◌, ap, sym}
use Rattle.std.specs.List.{list_any}
use Rattle.std.specs.Option.{option_copied}
use Rattle.pulsar_consumer_table.specs.Consumers.{has_built}
use Rattle.pulsar_consumer_table.specs.KeptConsumers.{rows_in, tickets_of}
use Rattle.pulsar_consumer_table.proofs.Finding.{having_built, none_built}
use Rattle.pulsar_consumer_table.proofs.table.Consumers.is_built_with.Goals as goal

pub returns-in-Some : goal.returns-in-Some
returns-in-Some c =
    let cs = c.args.self.now in
    c.any_built.ensures
    ∙ ap (list_any (λ t. has_built c.args.number (rows_in cs.rows t))) c.in-Some.ensures
    ∙ having_built c.args.number cs.listing cs.rows (cs.listed c.requires)

pub returns-in-None : goal.returns-in-None
returns-in-None c =
    let cs = c.args.self.now in
    none_built c.args.number cs.listing cs.rows (cs.listed c.requires) (sym c.listed.ensures ∙ ap (λ o. tickets_of (option_copied o)) c.in-None.is)
