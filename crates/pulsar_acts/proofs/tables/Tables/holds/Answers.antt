use Rattle.std.proofs.Common.{◌∙◌, ap}
use Rattle.std.proofs.lemmas.Result.{on_ok_weaker}
use Rattle.pulsar_producer_table.specs.KeptProducers.{producers_of}
use Rattle.pulsar_producer_table.specs.Producers.{holding}
use Rattle.pulsar_acts.specs.Tables.{view_of}
use Rattle.pulsar_acts.proofs.tables.Tables.holds.Goals as goal

pub returns-clause-sees : goal.returns-clause-sees
returns-clause-sees c =
    let ps = producers_of c.args.self.now.producers in
    let held = c.in_ok-hold.ensures ∙ ap (λ t. holding t c.args.link c.args.number ps) c.ticket_of.ensures in
    on_ok_weaker c.grants.result (λ told. λ i. record (view_of c.args.self.now) { producers = held i }) c.grants.ensures
