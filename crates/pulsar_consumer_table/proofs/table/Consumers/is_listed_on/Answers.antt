use Rattle.std.proofs.Common.{◌∙◌, ap, sym}
use Rattle.std.specs.List.{list_any}
use Rattle.std.specs.Option.{option_copied}
use Rattle.pulsar_consumer_table.specs.Consumers.{lives_at}
use Rattle.pulsar_consumer_table.specs.KeptConsumers.{rows_in, tickets_of}
use Rattle.pulsar_consumer_table.proofs.Living.{some_living}
use Rattle.pulsar_consumer_table.proofs.table.Consumers.is_listed_on.Goals as goal

pub returns-in-Some : goal.returns-in-Some
returns-in-Some c =
    let cs = c.args.self.now in
    c.any_living.ensures
    ∙ ap (list_any (λ t. lives_at c.args.link (rows_in cs.rows t))) c.in-Some.ensures
    ∙ some_living c.args.link cs.heard cs.rows (cs.lives c.requires)

pub returns-in-None : goal.returns-in-None
returns-in-None c =
    let cs = c.args.self.now in
    sym (ap (list_any (λ t. lives_at c.args.link (rows_in cs.rows t))) (sym c.listed.ensures ∙ ap (λ o. tickets_of (option_copied o)) c.in-None.is))
    ∙ some_living c.args.link cs.heard cs.rows (cs.lives c.requires)
