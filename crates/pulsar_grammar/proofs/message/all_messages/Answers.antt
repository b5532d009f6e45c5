use Rattle.std.proofs.Common.{rules, ◌∙◌, ◌<◌, [], ◌∷◌, Some, sym, ap, map, take, get_or, length}
use Rattle.std.proofs.lemmas.List.{map-append}
use Rattle.pulsar_grammar.specs.MessageWords.{all_messages}
use Rattle.pulsar_calls.proofs.Fronts.{take_more}
use Rattle.pulsar_grammar.proofs.Producers.{messages_step}
use Rattle.pulsar_grammar.proofs.message.all_messages.Goals as goal

pub loop-part-preserved : goal.loop-part-preserved
loop-part-preserved c =
    let ps = c.args.parts.now in
    let k = c.loop-part.part-index in
    let row = get_or ps k (record { ref_ptr = (0, 0); now = [] }) in
    let within : k < length ps = search rules in
    let more = sym (map-append (λ p. map (λ w. w.now) p.now) (take k ps) (row ∷ [])) ∙ ap (map (λ p. map (λ w. w.now) p.now)) (take_more ps k (record { ref_ptr = (0, 0); now = [] }) within) in
    messages_step (Some []) (map (λ p. map (λ w. w.now) p.now) (take k ps)) (map (λ w. w.now) row.now) _ _ c.loop-part.invariant c.in_ok-messages.ensures ∙ ap (all_messages (Some [])) more
