use Rattle.std.proofs.Common.{◌∙◌, ap, sym}
use Rattle.pulsar_producer.specs.MultiTopic.{Passes}
use Rattle.pulsar_producer_table.specs.Multis.{next_on}
use Rattle.pulsar_producer_table.proofs.Made.{changed_is, made_is, unchanged}
use Rattle.pulsar_producer_table.proofs.multis.pass_turn.Goals as goal

pub returns-in-Some-clause-next : goal.returns-in-Some-clause-next
returns-in-Some-clause-next c = c.pass_turn.ensures.next ∙ ap next_on (c.in-Some.ensures.value ∙ made_is c.args.ticket _)

pub returns-in-Some-clause-after : goal.returns-in-Some-clause-after
returns-in-Some-clause-after c =
    let written = c.get_mut.follows.holds c.pass_turn.new.self in
    written.0 ∙ changed_is c.args.ticket Passes c.pass_turn.new.self c.in-Some.one.now _ (sym c.in-Some.ensures.value) c.pass_turn.ensures.after

pub returns-in-None-clause-next : goal.returns-in-None-clause-next
returns-in-None-clause-next c = ap next_on (c.in-None.ensures.value ∙ made_is c.args.ticket _)

pub returns-in-None-clause-after : goal.returns-in-None-clause-after
returns-in-None-clause-after c =
    ap (λ kept. kept.entries) c.get_mut.follows.holds-at-none ∙ unchanged c.args.ticket Passes _ (sym c.in-None.ensures.value)
