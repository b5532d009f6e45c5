use Rattle.std.proofs.Common.{◌∙◌, ap, map, sym, Ok}
use Rattle.pulsar_producer.proofs.MultiMaps.{found_is, routed_is, routed_none}
use Rattle.pulsar_producer.proofs.multi_topic.producer.hand_in.Goals as goal
use Rattle.pulsar_producer.specs.MultiKept.{named, taken_by}

pub returns-in_ok-dispatch-in-Some-clause-given : goal.returns-in_ok-dispatch-in-Some-clause-given
returns-in_ok-dispatch-in-Some-clause-given c =
    ap Ok c.in_ok-dispatch-in-Some.ensures.dispatch
    ∙ ap (λ p. taken_by p c.args.advice c.args.message) (c.in-Some.ensures.value ∙ found_is c.args.topic.now _)

pub returns-in_ok-dispatch-in-Some-clause-after : goal.returns-in_ok-dispatch-in-Some-clause-after
returns-in_ok-dispatch-in-Some-clause-after c =
    let written = c.get_mut.follows.holds c.dispatch.new.self in
    ap (map named) written.0
    ∙ routed_is c.args.topic.now c.args.message c.dispatch.new.self c.in-Some.producer.now _ (sym c.in-Some.ensures.value)
    c.in_ok-dispatch-in-Some.ensures.after

pub returns-in-None-clause-given : goal.returns-in-None-clause-given
returns-in-None-clause-given c = ap (λ p. taken_by p c.args.advice c.args.message) (c.in-None.ensures.value ∙ found_is c.args.topic.now _)

pub returns-in-None-clause-after : goal.returns-in-None-clause-after
returns-in-None-clause-after c = ap (λ kept. map named kept.entries) c.get_mut.follows.holds-at-none ∙ routed_none c.args.topic.now c.args.message _
    (sym c.in-None.ensures.value)
