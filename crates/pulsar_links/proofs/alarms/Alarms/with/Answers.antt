use Rattle.std.proofs.Common.{◌∙◌, ap, sym}
use Rattle.std.specs.BTreeMap.{get}
use Rattle.std.specs.Ordering.{nat_cmp}
use Rattle.pulsar_links.specs.Alarms.{is_same_alarm, moment_of}
use Rattle.pulsar_links.specs.Kept.{is_in}
use Rattle.pulsar_links.proofs.Ringing.{is_this, listed, unlisted}
use Rattle.pulsar_links.proofs.alarms.Alarms.with.Goals as goal

pub invariant_of-result : goal.invariant_of-result
invariant_of-result c =
    let entries = c.self.inside.moments.entries in
    record {
      listed = λ m a.
          listed c.args.moment m (is_same_alarm c.args.alarm a) (is_in a (get nat_cmp c.unlist.new.alarms m)) (is_in a (get nat_cmp c.list.new.alarms m))
          (moment_of a entries) (moment_of a c.insert.new.self.entries) (c.in_ok-list.ensures m a)
          (unlisted m (is_same_alarm c.args.alarm a) (is_in a (get nat_cmp c.self.inside.alarms m)) (is_in a (get nat_cmp c.unlist.new.alarms m)) c.in_ok-before.before
          (moment_of a entries) (c.in_ok-unlist.ensures m a) (c.self.invariant.listed m a)
          (λ here. ap (λ k. moment_of k entries) (sym (is_this c.args.alarm a here)) ∙ sym c.in_ok-before.ensures.old))
          (c.in_ok-before.ensures.updates.0 a);
      ordered = c.in_ok-before.ensures.ordered;
    }
