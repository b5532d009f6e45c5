use Rattle.std.proofs.lemmas.Result.{on_ok_weaker}
use Rattle.pulsar_acts.specs.Tables.{view_of}
use Rattle.pulsar_acts.proofs.tables.Tables.numbers.Goals as goal

pub returns-in-Some-clause-sees : goal.returns-in-Some-clause-sees
returns-in-Some-clause-sees c =
    on_ok_weaker c.grants.result (λ told. λ i. record (view_of c.args.self.now) { producers = c.draw_number.ensures.after i }) c.grants.ensures

pub returns-in-None-clause-sees : goal.returns-in-None-clause-sees
returns-in-None-clause-sees c =
    on_ok_weaker c.refuses.result (λ told. λ i. record (view_of c.args.self.now) { producers = c.draw_number.ensures.after i }) c.refuses.ensures
