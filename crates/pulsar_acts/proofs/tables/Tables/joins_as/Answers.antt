use Rattle.std.proofs.Common.{ap}
use Rattle.std.proofs.lemmas.Result.{on_ok_weaker}
use Rattle.pulsar_acts.specs.Tables.{view_of}
use Rattle.pulsar_acts.proofs.tables.Tables.joins_as.Goals as goal

pub returns-in-Call-clause-sees : goal.returns-in-Call-clause-sees
returns-in-Call-clause-sees c =
    let v = view_of c.args.self.now in
    rw c.in-Call.is (on_ok_weaker c.join.result (λ is. ap (λ cs. record v { consumers = cs }) is) c.join.ensures)
