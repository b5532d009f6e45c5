use Rattle.std.proofs.Common.{◌∙◌, [], ◌∷◌, ◌||◌, ap, sym, map, cond, true}
use Rattle.std.proofs.lemmas.List.{map-append}
use Rattle.std.specs.BTreeSet.{contains}
use Rattle.std.specs.List.{list_any}
use Rattle.pulsar_wire.specs.Orders.{id_order}
use Rattle.pulsar_consumer.specs.Redelivery.{is_same_id}
use Rattle.pulsar_consumer.proofs.Keeping.{grown}
use Rattle.pulsar_consumer.proofs.kept.add_all.Goals as goal

pub loop-id-preserved : goal.loop-id-preserved
loop-id-preserved c = λ i.
    let before = contains id_order c.args.found.now i in
    let old = contains id_order c.loop-id.found i in
    grown i c.in-Some.id.now old (contains id_order c.insert.new.self i) before (map (λ x. x.now) c.loop-id.yielded)
    (c.in_ok-insert.ensures.updates.0 i ∙ ap (λ k. cond (is_same_id k i) true old) c.in_ok-again.ensures) (c.loop-id.invariant i)
    ∙ ap (λ xs. before || list_any (is_same_id i) xs) (sym (map-append (λ x. x.now) c.loop-id.yielded (c.in-Some.id ∷ [])))
