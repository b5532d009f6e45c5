use Rattle.std.proofs.Common.{◌≡◌, ◌∙◌, ◌==◌, ◌&&◌, ap, sym, cond, true, false}
use Rattle.std.specs.BTreeMap.{get}
use Rattle.std.specs.Ordering.{nat_cmp}
use Rattle.pulsar_consumer.specs.KeptIds.{is_in, is_moment, moment_of}
use Rattle.pulsar_consumer.specs.Redelivery.{is_same_id}
use Rattle.pulsar_consumer.proofs.Keeping.{is_this, listed, unlisted}
use Rattle.pulsar_consumer.proofs.kept.KeptIds.with.Goals as goal

pub invariant_of-result : goal.invariant_of-result
invariant_of-result c =
    let entries = c.self.inside.moments.entries in
    let id = c.args.id in
    let before = c.in_ok-before.before in
    record {
      listed = λ m a.
          let same : is_same_id c.in_ok-again.again a ≡ is_same_id id a = ap (λ k. is_same_id k a) c.in_ok-again.ensures in
          let old = is_in a (get nat_cmp c.self.inside.ids m) in
          let between = is_in a (get nat_cmp c.unlist.new.ids m) in
          listed c.args.due m (is_same_id id a) between (is_in a (get nat_cmp c.list.new.ids m)) (moment_of a entries) (moment_of a c.insert.new.self.entries)
          (c.in_ok-list.ensures m a ∙ ap (λ b. cond ((c.args.due == m) && b) true between) same)
          (unlisted m (is_same_id id a) old between before (moment_of a entries)
          (c.in_ok-unlist.ensures m a ∙ ap (λ b. cond (is_moment m before && b) false old) same) (c.self.invariant.listed m a)
          (λ here. ap (λ k. moment_of k entries) (sym (is_this id a here)) ∙ sym c.in_ok-before.ensures.old))
          (c.in_ok-before.ensures.updates.0 a);
      ordered = c.in_ok-before.ensures.ordered;
    }
