use Rattle.std.proofs.Common.{◌∙◌, ◌==◌, sym, ap, [], false}
use Rattle.std.specs.BTreeMap.{get}
use Rattle.std.specs.BTreeSet.{contains}
use Rattle.std.specs.List.{list_any}
use Rattle.std.specs.Ordering.{nat_cmp}
use Rattle.pulsar_wire.specs.declared.awaited.Awaited.TheVariants.{Reply}
use Rattle.pulsar_requests.specs.Kept.{excuses, listed}
use Rattle.pulsar_requests.proofs.Timed.{excused_more, placed_where, untouched}
use Rattle.pulsar_requests.proofs.requests.Requests.excuse.Goals as goal
use Rattle.pulsar_requests.proofs.requests.Requests.excuse.Goals.{in-Some, in-None}

pub invariant_of-result : goal.invariant_of-result
invariant_of-result c =
    let i = c.self.inside in
    record {
      fresh = c.self.invariant.fresh;
      indexed = c.self.invariant.indexed;
      ascends = c.self.invariant.ascends;
      so_far = c.self.invariant.so_far;
      ordered = c.self.invariant.ordered;
      are_timed = λ n. elim c.match-get.branch [
        | in-Some w ↦ excused_more c.args.number i.excused.keys c.insert.new.self.keys (get nat_cmp i.waiters n) (contains nat_cmp i.timed n) (contains nat_cmp c.match-get.timed n)
            (list_any (λ p. p == n) w.in-Some.places.now.items) c.in_ok-insert.ensures.updates.0 (ap (λ s. contains nat_cmp s n) w.timed-is ∙ w.untime.ensures n) (c.self.invariant.are_timed n)
            (placed_where c.args.number n i.waiters.entries w.in-Some.places.now.items (ap listed (ap Rattle.std.specs.Option.option_copied (sym w.in-Some.is) ∙ c.get.ensures.value) ∙ c.self.invariant.indexed (Reply c.args.number)))
        | in-None w ↦ excused_more c.args.number i.excused.keys c.insert.new.self.keys (get nat_cmp i.waiters n) (contains nat_cmp i.timed n) (contains nat_cmp c.match-get.timed n)
            false c.in_ok-insert.ensures.updates.0 (ap (λ s. contains nat_cmp s n) w.timed-is ∙ untouched (contains nat_cmp i.timed n) (excuses c.args.number (get nat_cmp i.waiters n))) (c.self.invariant.are_timed n)
            (placed_where c.args.number n i.waiters.entries [] (ap listed (ap Rattle.std.specs.Option.option_copied (sym w.in-None.is) ∙ c.get.ensures.value) ∙ c.self.invariant.indexed (Reply c.args.number)))
      ];
    }
