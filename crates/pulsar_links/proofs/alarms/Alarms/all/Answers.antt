use Rattle.std.proofs.Common.{◌∙◌, ap, sym, map, ℕ}
use Rattle.std.proofs.lemmas.Map.Iter.{iter_end}
use Rattle.std.specs.Map.Iter.{deref_pair}
use Rattle.pulsar_calls.specs.declared.act.Alarm.{Alarm}
use Rattle.pulsar_calls.proofs.Lists.{map_map}
use Rattle.pulsar_links.proofs.alarms.Alarms.all.Goals as goal

pub returns : goal.returns
returns c =
    let first = λ (e : Alarm × ℕ). e.0 in
    let whole =
    iter_end deref_pair c.self.inside.moments.entries c.loop-alarm.yielded _ _ _ _
    c.into_iter-alarm-iterator.ensures.into_iter_gives.0 c.loop-alarm.yielded_by c.in-None.is c.next.ensures.steps
    in
    c.loop-alarm.invariant
    ∙ sym (map_map first deref_pair c.loop-alarm.yielded)
    ∙ ap (map first) (whole.0 ∙ c.self.view_is)
