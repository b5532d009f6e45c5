use Rattle.std.proofs.Common.{rules, ◌∙◌, ◌<◌, [], ◌∷◌, sym, ap, map, take, get_or, length}
use Rattle.std.proofs.lemmas.List.{map-append}
use Rattle.pulsar_grammar.specs.ProducerWords.{all, blank}
use Rattle.pulsar_calls.proofs.Fronts.{take_more}
use Rattle.pulsar_grammar.proofs.Producers.{all_step}
use Rattle.pulsar_grammar.proofs.producer.all.Goals as goal

pub loop-word-preserved : goal.loop-word-preserved
loop-word-preserved c =
    let ws = c.args.words.now in
    let k = c.loop-word.word-index in
    let row = get_or ws k (record { ref_ptr = (0, 0); now = [] }) in
    let within : k < length ws = search rules in
    let more = sym (map-append (λ w. w.now) (take k ws) (row ∷ [])) ∙ ap (map (λ w. w.now)) (take_more ws k (record { ref_ptr = (0, 0); now = [] }) within) in
    all_step blank (map (λ w. w.now) (take k ws)) row.now _ _ c.loop-word.invariant c.in_ok-draft.ensures ∙ ap (all blank) more
