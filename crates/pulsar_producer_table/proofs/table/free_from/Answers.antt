use Rattle.std.proofs.Common.{◌∙◌, [], Bor, ℕ, ap, append-nil, map, sym}
use Rattle.std.proofs.lemmas.Map.Iter.{iter_end}
use Rattle.pulsar_producer_table.specs.Producers.{free_from}
use Rattle.pulsar_producer_table.proofs.table.free_from.Goals as goal

pub returns : goal.returns
returns c =
    let shows = λ (k : Bor ℕ). k.now in
    let whole =
    iter_end shows c.args.named.now.keys c.loop-taken.yielded _ _ _ _ c.into_iter-taken-iterator.ensures.into_iter_gives.0 c.loop-taken.yielded_by c.in-None.is
    c.next.ensures.steps
    in
    sym (c.loop-taken.invariant []) ∙ ap (λ ks. free_from ks c.args.from) (append-nil (map shows c.loop-taken.yielded) ∙ whole.0)
