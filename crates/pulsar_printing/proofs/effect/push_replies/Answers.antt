use Rattle.std.proofs.Common.{rules, ◌≡◌, ◌∙◌, ◌+◌, ◌++◌, ◌<◌, [], ◌∷◌, ap, map, take, length}
use Rattle.std.specs.Prelude.{string_bytes, codes}
use Rattle.std.specs.Fmt.{decimal}
use Rattle.std.specs.List.{flat_map}
use Rattle.pulsar_wire.specs.Views.{body_values}
use Rattle.pulsar_exchange.specs.Messages.{body_bytes, written}
use Rattle.pulsar_printing.specs.WordText.{hex}
use Rattle.pulsar_calls.proofs.Fronts.{take_more}
use Rattle.pulsar_printing.proofs.Listed.{replies_more}
use Rattle.pulsar_printing.proofs.effect.push_replies.Goals as goal

pub loop-body-preserved : goal.loop-body-preserved
unfolding lib.Utf8.encode
loop-body-preserved c =
    let bs = c.args.bodies.now in
    let k = c.loop-body.body-index in
    let b = c.body-item.result in
    let within : k < length bs = search rules in
    let more : take k bs ++ b ∷ [] ≡ take (k + 1) bs = ap (λ x. take k bs ++ x ∷ []) c.body-item.is ∙ take_more bs k b within in
    replies_more (string_bytes c.args.out.now) (string_bytes c.loop-body.out) _ (length bs) (take k bs) b c.loop-body.invariant
    (c.in_ok-push_body.ensures ∙ ap (λ t. t ++ hex (body_bytes (body_values b))) c.in_ok-push.ensures.bytes)
    ∙ ap (λ bs. string_bytes c.args.out.now ++ (codes "ok replies " ++ decimal (length c.args.bodies.now) ++ flat_map (λ body. 32 ∷ hex body.bytes) (map (λ b. written (body_values b)) bs))) more
