use Rattle.std.proofs.Common.{◌∙◌, ◌++◌, ◌∷◌, [], ◌+◌, ap, sym, refl, append-nil, append_assoc, map, take, drop}
use Rattle.std.proofs.lemmas.List.{take-append-drop, take_more}
use Rattle.pulsar_frame.specs.Batch.{batch_bytes}
use Rattle.pulsar_outgoing.specs.Batch.{entries_in, first_refusal}
use Rattle.pulsar_outgoing.specs.Storage.{item_of}
use Rattle.pulsar_outgoing.proofs.Entries.{batch_none, bytes_more, none_of, none_refused, refused_still}
use Rattle.pulsar_outgoing.proofs.batch.write.Goals as goal

pub loop-item-init : goal.loop-item-init
loop-item-init c = (refl, rw batch_none (sym (append-nil c.args.payload.now.items)))

pub returns-in-Some-clause-refusal : goal.returns-in-Some-clause-refusal
returns-in-Some-clause-refusal c =
    let xs = c.args.items.now in
    let i = c.loop-item.item-index in
    let x = c.item-item.result in
    let next = ap (λ z. take i xs ++ z ∷ []) c.item-item.is ∙ sym (take_more xs i x c.loop-item-test.true) in
    let front = none_refused (take i xs) x c.loop-item.invariant.0 ∙ sym c.in_ok-reason.ensures.refusal ∙ c.in-Some.is in
    sym (ap (λ ys. first_refusal (entries_in (map item_of ys))) (sym (ap (λ zs. zs ++ drop (i + 1) xs) next ∙ take-append-drop (i + 1) xs))
    ∙ refused_still (take i xs ++ x ∷ []) (drop (i + 1) xs) c.in-Some.reason front)

pub loop-item-preserved : goal.loop-item-preserved
loop-item-preserved c =
    let xs = c.args.items.now in
    let i = c.loop-item.item-index in
    let x = c.item-item.result in
    let next = ap (λ z. take i xs ++ z ∷ []) c.item-item.is ∙ sym (take_more xs i x c.loop-item-test.true) in
    let none = none_of c.in_ok-reason.field-0 c.in_default.not-Some in (
      ap (λ ys. first_refusal (entries_in (map item_of ys))) (sym next)
          ∙ none_refused (take i xs) x c.loop-item.invariant.0 ∙ sym c.in_ok-reason.ensures.refusal ∙ none,
      c.in_ok-reason.ensures.written none
          ∙ ap (λ bs. bs ++ batch_bytes (entries_in (item_of x ∷ []))) c.loop-item.invariant.1
          ∙ append_assoc c.args.payload.now.items (batch_bytes (entries_in (map item_of (take i xs)))) (batch_bytes (entries_in (item_of x ∷ [])))
          ∙ ap (λ bs. c.args.payload.now.items ++ bs) (sym (bytes_more (take i xs) x) ∙ ap (λ ys. batch_bytes (entries_in (map item_of ys))) next),
    )
