use Rattle.std.proofs.Common.{◌∙◌, sym, ap, subst}
use Rattle.pulsar_broker.specs.Kept.{IsNamed, state_in}
use Rattle.pulsar_broker.specs.State.{State, without}
use Rattle.pulsar_broker.proofs.Leaving.{closed_before, closed_named, closed_producers, without_nothing}
use Rattle.pulsar_broker.proofs.tables.Tables.close_all.Goals as goal

pub loop-number-preserved : goal.loop-number-preserved
loop-number-preserved c =
    let link = c.args.link in
    let s = state_in c.loop-number.self in
    let before = c.loop-number.invariant in
    record {
      named = λ h. subst IsNamed (sym c.close.ensures.after) (closed_named link c.in-Some.number s (before.named h));
      same = λ h. ap (without link) c.close.ensures.after ∙ closed_before link c.in-Some.number s (before.named h) ∙ before.same h;
      producers = ap (λ (x : State). x.producers) c.close.ensures.after ∙ closed_producers link c.in-Some.number s ∙ before.producers;
      kept = λ h. c.close.ensures.kept (before.kept h);
    }

pub returns-clause-after : goal.returns-clause-after
returns-clause-after c named none =
    let link = c.args.link in
    let s = state_in c.loop-number.self in
    let at_end = c.loop-number.invariant in
    sym (without_nothing link s (at_end.named named) (λ n. ap (λ f. f link n) at_end.producers ∙ none n) c.in_default.ensures.none) ∙ at_end.same named
