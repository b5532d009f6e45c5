use Rattle.std.proofs.Common.{rules, ◌≡◌, ◌∙◌, ◌+◌, ◌++◌, ◌<◌, [], ◌∷◌, ap, map, take, length}
use Rattle.std.specs.Prelude.{string_bytes, codes}
use Rattle.std.specs.Fmt.{decimal}
use Rattle.std.specs.List.{flat_map}
use Rattle.pulsar_addresses.specs.Address.{named}
use Rattle.pulsar_printing.specs.Text.{named as printed}
use Rattle.pulsar_calls.proofs.Fronts.{take_more}
use Rattle.pulsar_printing.proofs.Listed.{listed_more}
use Rattle.pulsar_printing.proofs.effect.push_addresses.Goals as goal

pub loop-entry-preserved : goal.loop-entry-preserved
loop-entry-preserved c =
    let xs = c.args.names.now in
    let k = c.loop-entry.entry-index in
    let e = c.entry-item.result in
    let within : k < length xs = search rules in
    let more : take k xs ++ e ∷ [] ≡ take (k + 1) xs = ap (λ x. take k xs ++ x ∷ []) c.entry-item.is ∙ take_more xs k e within in
    listed_more named printed (string_bytes c.args.out.now) (codes "ok addresses " ++ decimal (length xs)) (take k xs) e (string_bytes c.loop-entry.out) _ c.loop-entry.invariant c.in_ok-push_named.ensures
    ∙ ap (λ es. string_bytes c.args.out.now ++ (codes "ok addresses " ++ decimal (length xs) ++ flat_map printed (map named es))) more
