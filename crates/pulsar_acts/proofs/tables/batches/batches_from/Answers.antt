use Rattle.std.proofs.Common.{◌∙◌, ◌++◌, ◌∷◌, [], Bor, ap, map, sym}
use Rattle.pulsar_outgoing.specs.declared.content.Built.{Built}
use Rattle.pulsar_acts.specs.Rules.{batches_by}
use Rattle.pulsar_producer_table.proofs.Grown.{map_end}
use Rattle.pulsar_acts.proofs.tables.batches.batches_from.Goals as goal

pub loop-built-preserved : goal.loop-built-preserved
loop-built-preserved c =
    let block = c.args.building.now.settings.block_queue_if_full in
    let begins = batches_by c.args.ways.now block in
    let shows = λ (b : Bor Built). b.now in
    let seen = c.loop-built.yielded in
    let built = c.in-Some.built in
    c.in_ok-push_back.ensures.items
    ∙ ap (λ acts. acts ++ c.batches_by.result ∷ []) c.loop-built.invariant
    ∙ ap (λ act. map begins (map shows seen) ++ act ∷ []) (c.batches_by.ensures ∙ ap (λ w. batches_by w block built.now) c.in_ok-copy.ensures)
    ∙ sym (map_end begins (map shows seen) built.now)
    ∙ ap (map begins) (sym (map_end shows seen built))
