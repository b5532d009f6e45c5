use Rattle.std.proofs.Common.{◌∙◌, ◌++◌, ◌∷◌, [], ◌+◌, ap, sym, arith, map, length, take}
use Rattle.std.proofs.lemmas.List.{take_more}
use Rattle.pulsar_outgoing.specs.Batch.{entries_in}
use Rattle.pulsar_outgoing.specs.Storage.{item_of}
use Rattle.pulsar_outgoing.proofs.Entries.{count_more, entries_few}
use Rattle.pulsar_outgoing.proofs.batch.count.Goals as goal

pub loop-item-preserved : goal.loop-item-preserved
loop-item-preserved c =
    let xs = c.args.items.now in
    let i = c.loop-item.item-index in
    let x = c.item-item.result in
    let few = entries_few (item_of x ∷ []) in
    let n = c.messages_in-count.ensures in
    let below = c.loop-item.invariant.0 in
    let next = ap (λ z. take i xs ++ z ∷ []) c.item-item.is ∙ sym (take_more xs i x c.loop-item-test.true) in (
      omega (arith, few, n, below),
      ap (λ k. k + c.messages_in-count.result) c.loop-item.invariant.1
          ∙ ap (λ k. length (entries_in (map item_of (take i xs))) + k) n
          ∙ sym (count_more (take i xs) x)
          ∙ ap (λ ys. length (entries_in (map item_of ys))) next,
    )
