use Rattle.std.proofs.Common.{◌≡◌, ◌∙◌, ℕ, ap, sym, ◌||◌, refl, arith, filter, nat_lt, not}
use Rattle.std.proofs.lemmas.Bool.Decides.{nat_tests}
use Rattle.std.proofs.lemmas.Grind.{common_steps}
use Rattle.std.proofs.lemmas.Map.Iter.{iter_end}
use Rattle.std.specs.BTreeSet.{BTreeSet, contains}
use Rattle.std.specs.List.{list_any}
use Rattle.std.specs.Map.Iter.{deref_pair}
use Rattle.std.specs.Ordering.{is_le, nat_cmp}
use Rattle.pulsar_wire.specs.Orders.{id_order}
use Rattle.pulsar_consumer.specs.KeptIds.{is_in, moment_of}
use Rattle.pulsar_consumer.specs.Redelivery.{Id, due_before, is_early}
use Rattle.pulsar_consumer.proofs.Keeping.{all_early, any_end, any_map, due_keys, with_both}
use Rattle.pulsar_consumer.proofs.kept.KeptIds.due.Goals as goal

pub loop-ids-preserved : goal.loop-ids-preserved
loop-ids-preserved c = λ a.
    c.in_ok-add_all.ensures a
    ∙ ap (λ b. b || contains id_order c.in-Some.ids.now a) (c.loop-ids.invariant a)
    ∙ sym (any_end (λ e. contains id_order e.1.now a) c.loop-ids.yielded _)

passes : (clock q : ℕ) → not (is_le (nat_cmp clock q)) ≡ nat_lt q clock
passes clock q = grind (arith, nat_tests, common_steps)

pub returns : goal.returns
returns c =
    let i = c.self.inside in
    let clock = c.args.clock in
    let gives = λ (a : Id) (e : ℕ × BTreeSet Id). contains id_order e.1 a in
    let whole =
    iter_end deref_pair (filter (λ e. not (is_le (nat_cmp clock e.0))) i.ids.entries) c.loop-ids.yielded _ _ _ _
    (c.into_iter-ids-iterator.ensures.into_iter_gives ∙ c.range-ids-items.ensures.between tt) c.loop-ids.yielded_by c.in-None.is c.next.ensures.steps
    in
    let has : (a : Id) → contains id_order c.loop-ids.found a ≡ is_early clock (moment_of a i.moments.entries) =
    (λ a. c.loop-ids.invariant a
    ∙ sym (any_map deref_pair (gives a) c.loop-ids.yielded)
    ∙ ap (list_any (gives a)) whole.0
    ∙ all_early (is_in a) refl clock (λ q. not (is_le (nat_cmp clock q))) (passes clock) i.ids c.range-ids-items.ensures.ordered (moment_of a i.moments.entries)
    (λ m. c.self.invariant.listed m a))
    in
    with_both c.in_order.result _ _ _
    (λ found is ordered. is ∙ due_keys clock i.moments.entries c.self.invariant.ordered c.loop-ids.found ordered has ∙ ap (due_before clock) c.self.view_is)
    c.in_order.ensures.ids c.in_order.ensures.ordered
