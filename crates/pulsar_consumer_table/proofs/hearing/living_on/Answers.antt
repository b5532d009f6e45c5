use Rattle.std.proofs.Common.{◌∙◌, ◌++◌, ◌∷◌, [], Bor, ℕ, ap, cond, filter, map, subst, sym}
use Rattle.std.proofs.lemmas.List.{map-append}
use Rattle.std.proofs.lemmas.List.Kept.{IsStrictlySortedBy-filter}
use Rattle.std.proofs.lemmas.Map.Iter.{iter_end}
use Rattle.std.specs.List.Sorted.{IsStrictlySortedBy}
use Rattle.std.specs.Ordering.{nat_cmp}
use Rattle.pulsar_consumer_table.specs.Consumers.{lives_at}
use Rattle.pulsar_consumer_table.specs.KeptConsumers.{rows_in}
use Rattle.pulsar_consumer_table.proofs.Rows.{filter_end}
use Rattle.pulsar_consumer_table.proofs.hearing.living_on.Goals as goal

pub loop-ticket-preserved : goal.loop-ticket-preserved
loop-ticket-preserved c =
    let shows = λ (k : Bor ℕ). k.now in
    let test = λ (t : ℕ). lives_at c.args.link (rows_in c.args.rows.now t) in
    let seen = map shows c.loop-ticket.yielded in
    let t = c.in-Some-ticket.ticket.now in
    c.in_ok-add_if.ensures
    ∙ ap (λ b. c.loop-ticket.living.items ++ cond b (t ∷ []) []) c.lives_there-is_so.ensures
    ∙ ap (λ ts. ts ++ cond (test t) (t ∷ []) []) c.loop-ticket.invariant
    ∙ sym (filter_end test seen t)
    ∙ ap (filter test) (sym (map-append shows c.loop-ticket.yielded _))

pub returns-in_default-clause-sorted : goal.returns-in_default-clause-sorted
unfolding IsStrictlySortedBy
returns-in_default-clause-sorted c = subst (IsStrictlySortedBy nat_cmp) (sym c.new-living.ensures.items) tt

pub returns-clause-sorted : goal.returns-clause-sorted
returns-clause-sorted c =
    let shows = λ (k : Bor ℕ). k.now in
    let test = λ (t : ℕ). lives_at c.args.link (rows_in c.args.rows.now t) in
    let keys = c.in-Some.tickets.now.keys in
    let gives = c.into_iter-ticket-iterator.ensures.into_iter_gives in
    let whole = iter_end shows keys c.loop-ticket.yielded _ _ _ _ gives.0 c.loop-ticket.yielded_by c.in-None.is c.next.ensures.steps in
    subst (IsStrictlySortedBy nat_cmp) (sym (c.loop-ticket.invariant ∙ ap (filter test) whole.0)) (IsStrictlySortedBy-filter nat_cmp test keys gives.4)
