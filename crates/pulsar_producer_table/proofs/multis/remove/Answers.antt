use Rattle.std.proofs.Common.{◌∙◌, ap, sym}
use Rattle.pulsar_producer.specs.MultiTopic.{Removes, after, found}
use Rattle.pulsar_producer_table.specs.Multis.{found_in}
use Rattle.pulsar_producer_table.proofs.Made.{changed_is, made_is, unchanged}
use Rattle.pulsar_producer_table.proofs.multis.remove.Goals as goal

pub returns-in-Some-clause-producer : goal.returns-in-Some-clause-producer
returns-in-Some-clause-producer c =
    c.remove.ensures.producer
    ∙ ap (λ t. found t c.in-Some.one.now.topics) c.as_str.ensures
    ∙ ap (found_in c.args.topic.now) (c.in-Some.ensures.value ∙ made_is c.args.ticket _)

pub returns-in-Some-clause-after : goal.returns-in-Some-clause-after
returns-in-Some-clause-after c =
    let written = c.get_mut.follows.holds c.remove.new.self in
    let is = c.remove.ensures.after ∙ ap (λ t. after (Removes t) c.in-Some.one.now) c.as_str.ensures in
    written.0 ∙ changed_is c.args.ticket (Removes c.args.topic.now) c.remove.new.self c.in-Some.one.now _ (sym c.in-Some.ensures.value) is

pub returns-in-None-clause-producer : goal.returns-in-None-clause-producer
returns-in-None-clause-producer c = ap (found_in c.args.topic.now) (c.in-None.ensures.value ∙ made_is c.args.ticket _)

pub returns-in-None-clause-after : goal.returns-in-None-clause-after
returns-in-None-clause-after c =
    ap (λ kept. kept.entries) c.get_mut.follows.holds-at-none ∙ unchanged c.args.ticket (Removes c.args.topic.now) _ (sym c.in-None.ensures.value)
