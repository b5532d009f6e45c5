use Rattle.std.proofs.Common.{◌≡◌, suc, ◌+◌, ◌-◌, [], ◌∷◌, map, sym, ◌∙◌, arith}
use Rattle.std.proofs.lemmas.List.{map-append}
use Rattle.std.proofs.lemmas.Result.{err_from_is_err_and}
use Rattle.pulsar_wire.proofs.Merging.{Refuses-on}
use Rattle.pulsar_frame.specs.Batch.{entry_values}
use Rattle.pulsar_frame.proofs.Batches.{entries-next, entries-refused, entries-done}
use Rattle.pulsar_frame.proofs.batch.read_entries.Goals as goal

pub returns-in_err-entry : goal.returns-in_err-entry
returns-in_err-entry c =
    let p = err_from_is_err_and c.from_residual.result c.from_residual.ensures.1 in
    let left : c.args.count - c.loop.counter ≡ suc (c.args.count - (c.loop.counter + 1)) = omega (arith, c.loop-test.true) in
    rw (p.1, p.2) (Refuses-on c.in_err-entry.field-0.0 _ _ (λ none. sym c.loop.invariant ∙ entries-refused (map entry_values c.loop.entries.items) _ _ c.loop.rest.now left none) c.in_err-entry.ensures)

pub loop-preserved : goal.loop-preserved
loop-preserved c =
    let left : c.args.count - c.loop.counter ≡ suc (c.args.count - (c.loop.counter + 1)) = omega (arith, c.loop-test.true) in
    rw (c.in_ok-push.ensures.items, map-append entry_values c.loop.entries.items (c.in_ok-entry.entry ∷ []))
    (entries-next (map entry_values c.loop.entries.items) _ _ c.loop.rest.now c.in_ok-entry.after.now (entry_values c.in_ok-entry.entry) left c.in_ok-entry.ensures ∙ c.loop.invariant)

pub returns : goal.returns
returns c =
    let none : c.args.count - c.loop.counter ≡ 0 = omega (arith, c.loop-test.false) in
    sym c.loop.invariant ∙ entries-done (map entry_values c.loop.entries.items) _ c.loop.rest.now none
