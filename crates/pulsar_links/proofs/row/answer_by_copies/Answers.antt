use Rattle.std.proofs.Common.{◌∙◌, ap, sym, ◌++◌, take, get_or}
use Rattle.std.proofs.lemmas.List.{take_more}
use Rattle.std.specs.BTreeMap.{get}
use Rattle.std.specs.List.{filter_map}
use Rattle.std.specs.Option.{option_to_list}
use Rattle.std.specs.Ordering.{nat_cmp}
use Rattle.pulsar_calls.specs.declared.act.Outcome.TheVariants.{Replied}
use Rattle.pulsar_links.specs.LinkRules.{tells_asker}
use Rattle.pulsar_calls.proofs.Lists.{filter_map_end}
use Rattle.pulsar_links.proofs.row.answer_by_copies.Goals as goal

pub loop-place-preserved : goal.loop-place-preserved
loop-place-preserved c =
    let askers = get nat_cmp c.args.askers.now in
    let f = tells_asker (λ p. Replied c.args.reply.now) askers in
    let places = c.args.places.now in
    let i = c.loop-place.place-index in
    let place = get_or places i 0 in
    c.in_ok-tell_asker.ensures
    ∙ ap (λ reply. c.loop-place.notices.items ++ option_to_list (tells_asker (λ p. Replied reply) askers place)) c.in_ok-copy.ensures
    ∙ ap (λ ns. ns ++ option_to_list (f place)) c.loop-place.invariant
    ∙ sym (filter_map_end f (take i places) place)
    ∙ ap (filter_map f) (sym (take_more places i 0 c.loop-place-test.true))
