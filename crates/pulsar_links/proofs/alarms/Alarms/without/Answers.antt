use Rattle.std.proofs.Common.{◌∙◌, ap, sym}
use Rattle.std.specs.BTreeMap.{get}
use Rattle.std.specs.Ordering.{nat_cmp}
use Rattle.pulsar_links.specs.Alarms.{clear, is_same_alarm, moment_of}
use Rattle.pulsar_links.specs.Due.{is_moment}
use Rattle.pulsar_links.specs.Kept.{is_in}
use Rattle.pulsar_links.proofs.Ringing.{is_this, removed, unlisted}
use Rattle.pulsar_links.proofs.alarms.Alarms.without.Goals as goal

pub invariant_of-result : goal.invariant_of-result
invariant_of-result c =
    let entries = c.self.inside.moments.entries in
    record {
      listed = λ m a.
          unlisted m (is_same_alarm c.args.alarm a) (is_in a (get nat_cmp c.self.inside.alarms m)) (is_in a (get nat_cmp c.unlist.new.alarms m)) c.remove-before.result
          (moment_of a entries) (c.in_ok-unlist.ensures m a) (c.self.invariant.listed m a)
          (λ here. ap (λ k. moment_of k entries) (sym (is_this c.args.alarm a here)) ∙ sym c.remove-before.ensures.value)
          ∙ ap (is_moment m) (sym (c.remove-before.ensures.updates.0 a));
      ordered = c.remove-before.ensures.ordered;
    }

pub returns : goal.returns
returns c =
    c.remove-before.ensures.entries
    ∙ removed c.args.alarm c.self.inside.moments.entries c.self.invariant.ordered
    ∙ ap (clear c.args.alarm) c.self.view_is
