use Rattle.std.proofs.Common.{◌≡◌, ◌∙◌, ◌||◌, ap, sym, Bool, true, false, cond, refl, take, get_or}
use Rattle.std.proofs.lemmas.List.{take_more}
use Rattle.std.specs.List.{list_any}
use Rattle.pulsar_calls.specs.declared.act.Alarm.TheVariants.{Retry}
use Rattle.pulsar_links.specs.Kept.{addresses_of, base_at, pause_at}
use Rattle.pulsar_acts.specs.View.{is_to_follow}
use Rattle.pulsar_links.specs.Seats.{Base, nobody}
use Rattle.pulsar_calls.proofs.Lists.{any_end}
use Rattle.pulsar_acts.proofs.Turned.{follows_same}
use Rattle.pulsar_acts.proofs.tables.alarms.forget_all.Goals as goal

more : (a b : Bool) (base : Base) → cond a nobody (cond b nobody base) ≡ cond (b || a) nobody base
more true true base = refl
more true false base = refl
more false true base = refl
more false false base = refl

pub loop-alarm-preserved : goal.loop-alarm-preserved
loop-alarm-preserved c =
    let known = addresses_of c.args.addresses.now in
    let now = addresses_of c.loop-alarm.addresses in
    let alarms = c.args.alarms.now in
    let i = c.loop-alarm.alarm-index in
    let alarm = get_or alarms i (Retry 0) in
    record {
      bases = λ key.
          let test = is_to_follow known key in
          let base = base_at c.args.addresses.now.bases key in
          c.in_ok-forget_one.ensures.bases key
          ∙ ap (λ b. cond b nobody (base_at c.loop-alarm.addresses.bases key)) (follows_same now known (λ l. ap (λ ps. pause_at ps l) c.loop-alarm.invariant.pauses) key alarm)
          ∙ ap (cond (test alarm) nobody) (c.loop-alarm.invariant.bases key)
          ∙ more (test alarm) (list_any test (take i alarms)) base
          ∙ ap (λ b. cond b nobody base) (sym (any_end test (take i alarms) alarm))
          ∙ ap (λ seen. cond (list_any test seen) nobody base) (sym (take_more alarms i (Retry 0) c.loop-alarm-test.true));
      pauses = c.in_ok-forget_one.ensures.pauses ∙ c.loop-alarm.invariant.pauses;
    }
