use Rattle.std.proofs.Common.{◌≡◌, ◌∙◌, ℕ, ap, sym, ◌||◌, refl, arith, filter, nat_le, not}
use Rattle.std.proofs.lemmas.Bool.Decides.{nat_tests}
use Rattle.std.proofs.lemmas.Grind.{common_steps}
use Rattle.std.proofs.lemmas.Map.Iter.{iter_end}
use Rattle.std.specs.BTreeSet.{BTreeSet, contains}
use Rattle.std.specs.List.{list_any}
use Rattle.std.specs.Map.Iter.{deref_pair}
use Rattle.std.specs.Ordering.{is_lt, nat_cmp}
use Rattle.pulsar_requests.specs.Soonest.{has_come}
use Rattle.pulsar_links.specs.Due.{is_in, moment_at}
use Rattle.pulsar_calls.proofs.Lists.{any_end, any_map}
use Rattle.pulsar_links.proofs.Moments.{all_come}
use Rattle.pulsar_links.proofs.due.DueMoments.come.Goals as goal

pub loop-links-preserved : goal.loop-links-preserved
loop-links-preserved c = λ k.
    c.in_ok-add_all.ensures k
    ∙ ap (λ b. b || contains nat_cmp c.in-Some.links.now k) (c.loop-links.invariant k)
    ∙ sym (any_end (λ e. contains nat_cmp e.1.now k) c.loop-links.yielded _)

passes : (now q : ℕ) → not (is_lt (nat_cmp now q)) ≡ nat_le q now
passes now q = grind (arith, nat_tests, common_steps)

pub returns : goal.returns
returns c = λ k.
    let i = c.self.inside in
    let now = c.args.now in
    let gives = λ (e : ℕ × BTreeSet ℕ). contains nat_cmp e.1 k in
    let whole =
    iter_end deref_pair (filter (λ e. not (is_lt (nat_cmp now e.0))) i.links.entries) c.loop-links.yielded _ _ _ _
    (c.into_iter-links-iterator.ensures.into_iter_gives ∙ c.range-links-items.ensures.between tt) c.loop-links.yielded_by c.in-None.is c.next.ensures.steps
    in
    c.loop-links.invariant k
    ∙ sym (any_map deref_pair gives c.loop-links.yielded)
    ∙ ap (list_any gives) whole.0
    ∙ all_come (is_in k) refl now (λ q. not (is_lt (nat_cmp now q))) (passes now) i.links c.range-links-items.ensures.ordered (moment_at i.moments.entries k) (λ m. c.self.invariant m k)
    ∙ ap (λ ms. has_come now (moment_at ms k)) c.self.view_is
