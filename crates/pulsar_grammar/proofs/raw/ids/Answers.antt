use Rattle.std.proofs.Common.{rules, ◌∙◌, ◌<◌, [], ◌∷◌, sym, ap, map, take, get_or, length}
use Rattle.std.proofs.lemmas.List.{map-append}
use Rattle.pulsar_wire.specs.Row.{each}
use Rattle.pulsar_grammar.specs.Encoded.{id}
use Rattle.pulsar_calls.proofs.Fronts.{take_more}
use Rattle.pulsar_grammar.proofs.Folds.{ids_step}
use Rattle.pulsar_grammar.proofs.raw.ids.Goals as goal

pub loop-word-preserved : goal.loop-word-preserved
loop-word-preserved c =
    let ws = c.args.words.now in
    let k = c.loop-word.word-index in
    let row = get_or ws k (record { ref_ptr = (0, 0); now = [] }) in
    let within : k < length ws = search rules in
    let more = sym (map-append (λ w. w.now) (take k ws) (row ∷ [])) ∙ ap (map (λ w. w.now)) (take_more ws k (record { ref_ptr = (0, 0); now = [] }) within) in
    ids_step (map (λ w. w.now) (take k ws)) row.now _ _ c.loop-word.invariant c.in_ok-ids.ensures ∙ ap (each id) more
