use Rattle.std.proofs.Common.{◌∙◌, ap, sym}
use Rattle.std.proofs.lemmas.Result.{on_ok_weaker}
use Rattle.pulsar_calls.specs.declared.act.Alarm.TheVariants.{CheckIdle}
use Rattle.pulsar_links.specs.Alarms.{set}
use Rattle.pulsar_acts.specs.Tables.{view_of}
use Rattle.std.proofs.Common.{true}
use Rattle.pulsar_acts.proofs.Calling.{built_before, built_first, built_never}
use Rattle.pulsar_acts.proofs.tables.Tables.builds.Goals as goal

pub returns-then-self-clause-sees : goal.returns-then-self-clause-sees
returns-then-self-clause-sees c = built_before (view_of c.args.self.now) c.args.makes.now c.if-self.true

pub returns-then-not-builds-clause-sees : goal.returns-then-not-builds-clause-sees
returns-then-not-builds-clause-sees c =
    built_never (view_of c.args.self.now) c.args.makes.now c.if-self.false (sym c.builds.ensures ∙ c.if-not-builds.true)

pub returns-clause-sees : goal.returns-clause-sees
returns-clause-sees c =
    let v = view_of c.args.self.now in
    on_ok_weaker c.set.result
    (λ is. (λ i. record v {
      calls = record { drawn = v.calls.drawn; is_built = true; is_stopped = v.calls.is_stopped };
      alarms = (is ∙ ap (λ m. set CheckIdle m v.alarms) c.later.ensures) i;
    }) ∙ built_first v c.args.makes.now c.if-self.false (sym c.builds.ensures ∙ c.if-not-builds.false))
    c.set.ensures
