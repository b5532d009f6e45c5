use Rattle.std.proofs.Common.{◌≡◌, ◌∙◌, ℕ, ap, sym, ◌||◌, refl, arith, filter, nat_le, not}
use Rattle.std.proofs.lemmas.Bool.Decides.{nat_tests}
use Rattle.std.proofs.lemmas.Grind.{common_steps}
use Rattle.std.proofs.lemmas.Map.Iter.{iter_end}
use Rattle.std.specs.BTreeSet.{BTreeSet, contains}
use Rattle.std.specs.List.{list_any}
use Rattle.std.specs.Map.Iter.{deref_pair}
use Rattle.std.specs.Ordering.{is_lt, nat_cmp}
use Rattle.pulsar_requests.specs.Soonest.{has_come}
use Rattle.pulsar_calls.specs.declared.act.Alarm.{Alarm}
use Rattle.pulsar_links.specs.Alarms.{alarm_cmp, moment_of, ringing}
use Rattle.pulsar_links.specs.Kept.{is_in}
use Rattle.pulsar_calls.proofs.Lists.{any_end, any_map}
use Rattle.pulsar_links.proofs.Moments.{all_come}
use Rattle.pulsar_links.proofs.Ringing.{ringing_keys, with_both}
use Rattle.pulsar_links.proofs.alarms.Alarms.ringing.Goals as goal

pub loop-alarms-preserved : goal.loop-alarms-preserved
loop-alarms-preserved c = λ a.
    c.in_ok-add_all.ensures a
    ∙ ap (λ b. b || contains alarm_cmp c.in-Some.alarms.now a) (c.loop-alarms.invariant a)
    ∙ sym (any_end (λ e. contains alarm_cmp e.1.now a) c.loop-alarms.yielded _)

passes : (now q : ℕ) → not (is_lt (nat_cmp now q)) ≡ nat_le q now
passes now q = grind (arith, nat_tests, common_steps)

pub returns : goal.returns
returns c =
    let i = c.self.inside in
    let now = c.args.now in
    let gives = λ (a : Alarm) (e : ℕ × BTreeSet Alarm). contains alarm_cmp e.1 a in
    let whole =
    iter_end deref_pair (filter (λ e. not (is_lt (nat_cmp now e.0))) i.alarms.entries) c.loop-alarms.yielded _ _ _ _
    (c.into_iter-alarms-iterator.ensures.into_iter_gives ∙ c.range-alarms-items.ensures.between tt) c.loop-alarms.yielded_by c.in-None.is c.next.ensures.steps
    in
    let has : (a : Alarm) → contains alarm_cmp c.loop-alarms.found a ≡ has_come now (moment_of a i.moments.entries) =
    (λ a. c.loop-alarms.invariant a
    ∙ sym (any_map deref_pair (gives a) c.loop-alarms.yielded)
    ∙ ap (list_any (gives a)) whole.0
    ∙ all_come (is_in a) refl now (λ q. not (is_lt (nat_cmp now q))) (passes now) i.alarms c.range-alarms-items.ensures.ordered (moment_of a i.moments.entries) (λ m. c.self.invariant.listed m a))
    in
    with_both c.in_order.result _ _ _
    (λ found is ordered. is ∙ ringing_keys now i.moments.entries c.self.invariant.ordered c.loop-alarms.found ordered has ∙ ap (ringing now) c.self.view_is)
    c.in_order.ensures.alarms c.in_order.ensures.ordered
