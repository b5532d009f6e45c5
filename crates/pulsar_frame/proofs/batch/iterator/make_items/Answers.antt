use Rattle.std.proofs.Common.{◌≡◌, ◌∷◌, [], length, map, sym, ap, ◌∙◌, length-append, arith}
use Rattle.std.proofs.lemmas.List.{map-append, nil_from_length}
use Rattle.std.specs.Vec.Iter.{into_iter_items}
use Rattle.pulsar_wire.specs.Views.{message_id_values, message_metadata_values}
use Rattle.pulsar_frame.specs.Batch.{entry_values, item, item_values}
use Rattle.pulsar_frame.proofs.Batches.{items-next, items-done}
use Rattle.pulsar_frame.proofs.batch.iterator.make_items.Goals as goal

pub loop-entry-preserved : goal.loop-entry-preserved
loop-entry-preserved c =
    let at = c.loop-entry in
    let entry = c.in-Some.entry in
    let steps : into_iter_items at.entry-iterator ≡ entry ∷ into_iter_items c.next.new.self = c.in-Some.ensures.steps.0 in
    let short = ap length steps in
    let longer = ap length c.in_ok-push.ensures.items ∙ length-append at.items.items (c.in_ok-item.item ∷ []) in
    let index : c.len-index.result ≡ length at.items.items = omega (arith, c.len-index.ensures) in
    let gone = c.in-Some.ensures.steps.1 in
    let made = c.in_ok-item.ensures ∙ ap (λ n. item n (message_id_values c.args.message_id.now) (message_metadata_values c.args.metadata.now) (entry_values entry)) index in (
      items-next (message_id_values c.args.message_id.now) (message_metadata_values c.args.metadata.now) (map item_values at.items.items) _ (item_values c.in_ok-item.item) (entry_values entry) _ _ (length at.items.items) _ _
          (ap (map item_values) c.in_ok-push.ensures.items ∙ map-append item_values at.items.items (c.in_ok-item.item ∷ []))
          made (ap (map entry_values) steps) (omega arith) at.invariant.0,
      omega (arith, at.invariant.1),
      let was = at.invariant.2 in omega arith,
    )

pub returns : goal.returns
returns c =
    let at = c.loop-entry in
    let none = c.in-None.ensures.steps in
    let empty : into_iter_items at.entry-iterator ≡ [] = nil_from_length _ (sym at.invariant.2 ∙ none.0) in
    items-done _ _ _ _ _ _ (ap (map entry_values) empty) at.invariant.0
