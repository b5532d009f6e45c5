use Rattle.std.proofs.Common.{◌∙◌, ap, sym}
use Rattle.std.proofs.lemmas.Result.{on_ok_weaker}
use Rattle.pulsar_calls.specs.declared.act.Alarm.TheVariants.{Batch}
use Rattle.pulsar_links.specs.Alarms.{set}
use Rattle.pulsar_acts.specs.Tables.{view_of}
use Rattle.pulsar_acts.proofs.Storing.{waits_never, waits_no_more, waits_so_long, waits_still}
use Rattle.pulsar_acts.proofs.tables.Tables.waits_from.Goals as goal

pub returns-then-is_bare-clause-sees : goal.returns-then-is_bare-clause-sees
returns-then-is_bare-clause-sees c =
    let v = view_of c.args.self.now in
    on_ok_weaker c.clear.result
    (λ is. (λ i. record v { alarms = is i }) ∙ waits_no_more v c.args.number c.args.was_bare (sym c.is_bare.ensures ∙ c.if-is_bare.true)) c.clear.ensures

pub returns-then-not-was_bare-clause-sees : goal.returns-then-not-was_bare-clause-sees
returns-then-not-was_bare-clause-sees c =
    waits_still (view_of c.args.self.now) c.args.number c.args.was_bare (sym c.is_bare.ensures ∙ c.if-is_bare.false) c.if-not-was_bare.true

pub returns-in-Some-clause-sees : goal.returns-in-Some-clause-sees
returns-in-Some-clause-sees c =
    let v = view_of c.args.self.now in
    on_ok_weaker c.set.result
    (λ is. (λ i. record v { alarms = (is ∙ ap (λ m. set (Batch c.args.number) m v.alarms) c.later.ensures) i })
    ∙ waits_so_long v c.args.number c.args.was_bare c.in-Some.delay (sym c.is_bare.ensures ∙ c.if-is_bare.false) c.if-not-was_bare.false
    (sym c.timeout.ensures ∙ c.in-Some.is))
    c.set.ensures

pub returns-in-None-clause-sees : goal.returns-in-None-clause-sees
returns-in-None-clause-sees c =
    waits_never (view_of c.args.self.now) c.args.number c.args.was_bare (sym c.is_bare.ensures ∙ c.if-is_bare.false) c.if-not-was_bare.false
    (sym c.timeout.ensures ∙ c.in-None.is)
