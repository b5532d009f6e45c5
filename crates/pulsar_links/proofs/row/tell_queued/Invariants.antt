use Rattle.std.proofs.Common.{◌≡◌, ◌≤◌, ◌-◌}
use Rattle.std.specs.BTreeMap.{get}
use Rattle.std.specs.List.{filter_map}
use Rattle.std.specs.Ordering.{nat_cmp}
use Rattle.pulsar_calls.specs.declared.act.Outcome.TheVariants.{Queued}
use Rattle.pulsar_calls.specs.Content.{numbers_from}
use Rattle.pulsar_links.specs.LinkRules.{tells_asker}
use Rattle.pulsar_links.proofs.row.tell_queued.Given as goal

abbrev pub invariant-loop-place : goal.invariant-loop-place
invariant-loop-place l = record {
  notices : l.notices.items ≡ filter_map (tells_asker (λ place. Queued) (get nat_cmp l.askers)) (numbers_from l.first (l.place - l.first));
  within : l.place - l.first ≤ l.end - l.first;
}
