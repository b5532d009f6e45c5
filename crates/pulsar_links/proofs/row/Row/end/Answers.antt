use Rattle.std.proofs.Common.{◌∙◌, ap, sym, ◌++◌, ◌∷◌, [], map, append_assoc}
use Rattle.std.proofs.lemmas.List.{map-append}
use Rattle.std.specs.BTreeMap.{get}
use Rattle.std.specs.Option.{option_to_list}
use Rattle.std.specs.Ordering.{nat_cmp}
use Rattle.pulsar_calls.specs.Content.{shown}
use Rattle.pulsar_links.specs.Links as links
use Rattle.pulsar_links.specs.LinkRules.{lost, tells_asker}
use Rattle.pulsar_calls.proofs.Lists.{filter_map_end}
use Rattle.pulsar_links.proofs.row.Row.end.Goals as goal

pub loop-place-preserved : goal.loop-place-preserved
loop-place-preserved c =
    let connection = c.args.self.now.connection in
    let f = tells_asker (lost c.args.end.now c.args.now connection) (get nat_cmp c.args.self.now.askers) in
    let g = links.lost c.args.link c.args.end.now c.args.now connection in
    let before = map shown c.args.out.now.items in
    let seen = c.loop-place.yielded in
    let place = c.in-Some.place in
    record {
      out = c.in_ok-lose.ensures.out ∙ ap (λ es. es ++ g place ∷ []) c.loop-place.invariant.out ∙ append_assoc before (map g seen) (g place ∷ [])
          ∙ ap (λ es. before ++ es) (sym (map-append g seen (place ∷ [])));
      notices = c.in_ok-lose.ensures.notices ∙ ap (λ ns. ns ++ option_to_list (f place)) c.loop-place.invariant.notices ∙ sym (filter_map_end f seen place);
    }
