use Rattle.std.proofs.Common.{◌∙◌, ap, sym}
use Rattle.std.proofs.lemmas.Result.{on_ok_weaker}
use Rattle.pulsar_producer.specs.MultiTopic.{Joins}
use Rattle.pulsar_producer_table.proofs.Made.{changed_is, unchanged}
use Rattle.pulsar_producer_table.proofs.multis.join.Goals as goal

pub returns-in-Some : goal.returns-in-Some
returns-in-Some c =
    let written = c.get_mut.follows.holds c.join.new.self in
    on_ok_weaker c.join.result
    (λ after. written.0 ∙ changed_is c.args.ticket (Joins c.args.topic c.args.producer) c.join.new.self c.in-Some.one.now _ (sym c.in-Some.ensures.value)
    after) c.join.ensures

pub returns-in-None : goal.returns-in-None
returns-in-None c =
    ap (λ kept. kept.entries) c.get_mut.follows.holds-at-none ∙ unchanged c.args.ticket (Joins c.args.topic c.args.producer) _ (sym c.in-None.ensures.value)
