use Rattle.std.proofs.Common.{◌∙◌, ap, sym}
use Rattle.std.specs.BTreeMap.{get}
use Rattle.std.specs.Ordering.{nat_cmp}
use Rattle.pulsar_consumer.specs.KeptIds.{is_in, is_moment, moment_of}
use Rattle.pulsar_consumer.specs.Redelivery.{forget, is_same_id}
use Rattle.pulsar_consumer.proofs.Keeping.{is_this, removed, unlisted}
use Rattle.pulsar_consumer.proofs.kept.KeptIds.without.Goals as goal

pub invariant_of-result : goal.invariant_of-result
invariant_of-result c =
    let entries = c.self.inside.moments.entries in
    record {
      listed = λ m a.
          unlisted m (is_same_id c.args.id.now a) (is_in a (get nat_cmp c.self.inside.ids m)) (is_in a (get nat_cmp c.unlist.new.ids m)) c.remove-before.result
          (moment_of a entries) (c.in_ok-unlist.ensures m a) (c.self.invariant.listed m a)
          (λ here. ap (λ k. moment_of k entries) (sym (is_this c.args.id.now a here)) ∙ sym c.remove-before.ensures.value)
          ∙ ap (is_moment m) (sym (c.remove-before.ensures.updates.0 a));
      ordered = c.remove-before.ensures.ordered;
    }

pub returns : goal.returns
returns c =
    c.remove-before.ensures.entries
    ∙ removed c.args.id.now c.self.inside.moments.entries c.self.invariant.ordered
    ∙ ap (forget c.args.id.now) c.self.view_is
