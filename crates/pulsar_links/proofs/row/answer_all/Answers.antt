use Rattle.std.proofs.Common.{◌∙◌, ap, sym, ◌++◌}
use Rattle.std.specs.BTreeMap.{get}
use Rattle.std.specs.List.{filter_map}
use Rattle.std.specs.Option.{option_to_list}
use Rattle.std.specs.Ordering.{nat_cmp}
use Rattle.pulsar_calls.specs.declared.act.Outcome.TheVariants.{Replied}
use Rattle.pulsar_links.specs.LinkRules.{tells_asker}
use Rattle.pulsar_calls.proofs.Lists.{filter_map_end}
use Rattle.pulsar_links.proofs.row.answer_all.Goals as goal

pub returns : goal.returns
returns c =
    let f = tells_asker (λ place. Replied c.args.reply) (get nat_cmp c.args.askers.now) in
    c.in_ok-tell_asker.ensures
    ∙ ap (λ ns. ns ++ option_to_list (f c.in-Some.last.now)) c.in_ok-notices.ensures
    ∙ sym (filter_map_end f c.in-Some.others.now c.in-Some.last.now)
    ∙ ap (filter_map f) (sym c.in-Some.ensures.cases.0)
