use Rattle.std.proofs.Common.{◌∙◌, ap, sym, ◌++◌, arith}
use Rattle.std.specs.BTreeMap.{get}
use Rattle.std.specs.List.{filter_map}
use Rattle.std.specs.Option.{option_to_list}
use Rattle.std.specs.Ordering.{nat_cmp}
use Rattle.pulsar_calls.specs.declared.act.Outcome.TheVariants.{Queued}
use Rattle.pulsar_calls.specs.Content.{numbers_from}
use Rattle.pulsar_links.specs.LinkRules.{tells_asker}
use Rattle.pulsar_calls.proofs.Places.{next_place}
use Rattle.pulsar_links.proofs.row.tell_queued.Goals as goal

pub loop-place-preserved : goal.loop-place-preserved
loop-place-preserved c =
    let f = tells_asker (λ place. Queued) (get nat_cmp c.args.askers.now) in
    record {
      notices = c.in_ok-tell_asker.ensures
          ∙ ap (λ ns. ns ++ option_to_list (f c.loop-place.place)) c.loop-place.invariant.notices
          ∙ sym (next_place f c.args.first c.loop-place.place c.loop-place.auto.place);
      within = omega arith;
    }

pub returns : goal.returns
returns c =
    c.loop-place.invariant.notices
    ∙ ap (λ n. filter_map (tells_asker (λ place. Queued) (get nat_cmp c.args.askers.now)) (numbers_from c.args.first n)) (omega arith)
