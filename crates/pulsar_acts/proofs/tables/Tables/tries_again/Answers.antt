use Rattle.std.proofs.lemmas.Result.{on_ok_weaker}
use Rattle.pulsar_links.specs.Kept.{base_at}
use Rattle.pulsar_acts.specs.Tables.{view_of}
use Rattle.pulsar_acts.proofs.tables.Tables.tries_again.Goals as goal

pub returns-in_default-clause-sees : goal.returns-in_default-clause-sees
returns-in_default-clause-sees c =
    let v = view_of c.args.self.now in
    λ i. record v {
      addresses = record { base = base_at (c.take_pause.ensures.bases i); pause = λ l. c.take_pause.ensures.left l i };
      alarms = c.in_ok-clear.ensures i;
    }

pub returns-clause-sees : goal.returns-clause-sees
returns-clause-sees c =
    let v = view_of c.args.self.now in
    on_ok_weaker c.put.result
    (λ left. λ i. record v {
      addresses = record { base = base_at (c.take_pause.ensures.bases i); pause = λ l. c.take_pause.ensures.left l i };
      alarms = c.in_ok-clear.ensures i;
    })
    c.put.ensures
