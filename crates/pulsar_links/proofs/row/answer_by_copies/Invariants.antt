use Rattle.std.proofs.Common.{◌≡◌, take}
use Rattle.std.specs.BTreeMap.{get}
use Rattle.std.specs.List.{filter_map}
use Rattle.std.specs.Ordering.{nat_cmp}
use Rattle.pulsar_calls.specs.declared.act.Outcome.TheVariants.{Replied}
use Rattle.pulsar_links.specs.LinkRules.{tells_asker}
use Rattle.pulsar_links.proofs.row.answer_by_copies.Given as goal

abbrev pub invariant-loop-place : goal.invariant-loop-place
invariant-loop-place l =
    l.notices.items ≡ filter_map (tells_asker (λ place. Replied l.reply) (get nat_cmp l.askers)) (take l.place-index l.places)
