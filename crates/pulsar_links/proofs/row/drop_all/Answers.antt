use Rattle.std.proofs.Common.{◌∙◌, ◌-◌, ap, sym, ◌++◌, append_assoc, arith}
use Rattle.std.specs.BTreeMap.{get}
use Rattle.std.specs.List.{filter_map}
use Rattle.std.specs.Option.{option_to_list}
use Rattle.std.specs.Ordering.{nat_cmp}
use Rattle.pulsar_calls.specs.Content.{numbers_from}
use Rattle.pulsar_links.specs.LinkRules.{dropped, tells_asker}
use Rattle.pulsar_calls.proofs.Places.{next_place}
use Rattle.pulsar_links.proofs.row.drop_all.Goals as goal

pub loop-place-preserved : goal.loop-place-preserved
loop-place-preserved c =
    let f = tells_asker (λ place. dropped c.args.end.now) (get nat_cmp c.args.askers.now) in
    let before = c.args.notices.now.items in
    let first = c.args.first in
    let i = c.loop-place.place in
    c.in_ok-tell_asker.ensures
    ∙ ap (λ o. c.loop-place.notices.items ++ option_to_list (tells_asker (λ p. o) (get nat_cmp c.args.askers.now) i)) c.dropped-outcome.ensures
    ∙ ap (λ ns. ns ++ option_to_list (f i)) c.loop-place.invariant
    ∙ append_assoc before (filter_map f (numbers_from first (i - first))) (option_to_list (f i))
    ∙ ap (λ ns. before ++ ns) (sym (next_place f first i c.loop-place.auto.place))

pub returns : goal.returns
returns c =
    c.loop-place.invariant
    ∙ ap (λ n. c.args.notices.now.items ++ filter_map (tells_asker (λ place. dropped c.args.end.now) (get nat_cmp c.args.askers.now)) (numbers_from c.args.first n)) (omega arith)
