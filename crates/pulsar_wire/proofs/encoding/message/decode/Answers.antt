use Rattle.std.proofs.Common.{sym, ◌∙◌}
use Rattle.std.proofs.lemmas.Result.{err_from_is_err_and}
use Rattle.pulsar_wire.proofs.Merging.{merged-from_none, Refuses-on}
use Rattle.pulsar_wire.proofs.encoding.message.decode.Goals as goal

pub returns-in_err-merge : goal.returns-in_err-merge
returns-in_err-merge g c =
    let p = err_from_is_err_and c.from_residual.result c.from_residual.ensures.1 in
    rw (p.1, p.2) (Refuses-on c.in_err-merge.field-0.0 _ _ (λ none. sym (merged-from_none g.M.Message.shape _ c.args.bytes.now c.empty-message.ensures) ∙ none) c.in_err-merge.ensures)

pub returns : goal.returns
returns g c = sym (merged-from_none g.M.Message.shape _ c.args.bytes.now c.empty-message.ensures) ∙ c.in_ok-merge.ensures
