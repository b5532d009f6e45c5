use Rattle.std.proofs.Common.{ℕ, refl, None}
use Rattle.std.specs.BTreeMap.{get}
use Rattle.std.specs.Ordering.{nat_cmp}
use Rattle.pulsar_links.proofs.Timing.{seats, started_after, timed_after}
use Rattle.pulsar_links.proofs.links.Links.end.Goals as goal

pub invariant_of-self-2 : goal.invariant_of-self-2
invariant_of-self-2 c =
    let links = c.args.self.now in
    let after = c.remove.new.self in
    let change = λ (l : ℕ). seats l c.args.link None (get nat_cmp links.live l) (get nat_cmp after l) (c.remove.ensures.updates.0 l) in
    record {
      timed = λ whole. timed_after (λ row. None) c.args.link links.live after change links.due c.keep.new.due (links.timed c.if-self.false)
          c.in_ok-keep.ensures.timed c.in_ok-keep.ensures.others;
      fresh = λ whole. started_after (λ row. None) c.args.link links.live after change links.started refl (links.fresh c.if-self.false);
    }
