use Rattle.std.proofs.Common.{◌∙◌, [], ◌∷◌, ◌||◌, ap, sym, map}
use Rattle.std.proofs.lemmas.List.{map-append}
use Rattle.std.specs.BTreeSet.{contains}
use Rattle.std.specs.List.{list_any}
use Rattle.pulsar_links.specs.Alarms.{alarm_cmp, is_same_alarm}
use Rattle.pulsar_links.proofs.Ringing.{grown}
use Rattle.pulsar_links.proofs.alarms.add_all.Goals as goal

pub loop-alarm-preserved : goal.loop-alarm-preserved
loop-alarm-preserved c = λ a.
    let before = contains alarm_cmp c.args.found.now a in
    grown a c.in-Some.alarm.now (contains alarm_cmp c.loop-alarm.found a) (contains alarm_cmp c.insert.new.self a) before (map (λ x. x.now) c.loop-alarm.yielded)
    (c.in_ok-insert.ensures.updates.0 a) (c.loop-alarm.invariant a)
    ∙ ap (λ xs. before || list_any (is_same_alarm a) xs) (sym (map-append (λ x. x.now) c.loop-alarm.yielded (c.in-Some.alarm ∷ [])))
