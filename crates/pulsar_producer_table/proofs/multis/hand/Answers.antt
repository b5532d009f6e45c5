use Rattle.std.proofs.Common.{◌∙◌, ap, sym, Some}
use Rattle.std.specs.Option.{option_map}
use Rattle.pulsar_producer.specs.MultiTopic.{Hands, handed}
use Rattle.pulsar_producer_table.proofs.Made.{changed_is, made_is, unchanged}
use Rattle.pulsar_producer_table.proofs.multis.hand.Goals as goal

pub returns-in_ok-hand-in-Some-clause-said : goal.returns-in_ok-hand-in-Some-clause-said
returns-in_ok-hand-in-Some-clause-said c =
    ap Some c.in_ok-hand-in-Some.ensures.said ∙ ap (option_map (handed c.args.advice c.args.handing)) (c.in-Some.ensures.value ∙ made_is c.args.ticket _)

pub returns-in_ok-hand-in-Some-clause-after : goal.returns-in_ok-hand-in-Some-clause-after
returns-in_ok-hand-in-Some-clause-after c =
    let h = c.args.handing in
    let written = c.get_mut.follows.holds c.hand.new.self in
    written.0
    ∙ changed_is c.args.ticket (Hands h.topic h.message) c.hand.new.self c.in-Some.one.now _ (sym c.in-Some.ensures.value) c.in_ok-hand-in-Some.ensures.after

pub returns-in-None-clause-said : goal.returns-in-None-clause-said
returns-in-None-clause-said c = ap (option_map (handed c.args.advice c.args.handing)) (c.in-None.ensures.value ∙ made_is c.args.ticket _)

pub returns-in-None-clause-after : goal.returns-in-None-clause-after
returns-in-None-clause-after c =
    let h = c.args.handing in
    ap (λ kept. kept.entries) c.get_mut.follows.holds-at-none ∙ unchanged c.args.ticket (Hands h.topic h.message) _ (sym c.in-None.ensures.value)
