use Rattle.std.proofs.Common.{◌∙◌, ap, sym, Some}
use Rattle.std.specs.Option.{option_map}
use Rattle.pulsar_producer.specs.MultiTopic.{Takes, is_free}
use Rattle.pulsar_producer_table.proofs.Made.{changed_is, made_is, unchanged}
use Rattle.pulsar_producer_table.proofs.multis.take_turn.Goals as goal

pub returns-in_ok-take_turn-in-Some-clause-has : goal.returns-in_ok-take_turn-in-Some-clause-has
returns-in_ok-take_turn-in-Some-clause-has c =
    ap Some c.in_ok-take_turn-in-Some.ensures.has ∙ ap (option_map is_free) (c.in-Some.ensures.value ∙ made_is c.args.ticket _)

pub returns-in_ok-take_turn-in-Some-clause-after : goal.returns-in_ok-take_turn-in-Some-clause-after
returns-in_ok-take_turn-in-Some-clause-after c =
    let written = c.get_mut.follows.holds c.take_turn.new.self in
    written.0
    ∙ changed_is c.args.ticket (Takes c.args.taker) c.take_turn.new.self c.in-Some.one.now _ (sym c.in-Some.ensures.value)
    c.in_ok-take_turn-in-Some.ensures.after

pub returns-in-None-clause-has : goal.returns-in-None-clause-has
returns-in-None-clause-has c = ap (option_map is_free) (c.in-None.ensures.value ∙ made_is c.args.ticket _)

pub returns-in-None-clause-after : goal.returns-in-None-clause-after
returns-in-None-clause-after c =
    ap (λ kept. kept.entries) c.get_mut.follows.holds-at-none ∙ unchanged c.args.ticket (Takes c.args.taker) _ (sym c.in-None.ensures.value)
