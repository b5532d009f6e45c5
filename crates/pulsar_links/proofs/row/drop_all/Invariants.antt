use Rattle.std.proofs.Common.{◌≡◌, ◌++◌, ◌-◌}
use Rattle.std.specs.BTreeMap.{get}
use Rattle.std.specs.List.{filter_map}
use Rattle.std.specs.Ordering.{nat_cmp}
use Rattle.pulsar_calls.specs.Content.{numbers_from}
use Rattle.pulsar_links.specs.LinkRules.{dropped, tells_asker}
use Rattle.pulsar_links.proofs.row.drop_all.Given as goal

abbrev pub invariant-loop-place : goal.invariant-loop-place
invariant-loop-place l =
    l.notices.items
    ≡ l.fn.notices.items ++ filter_map (tells_asker (λ place. dropped l.end) (get nat_cmp l.askers)) (numbers_from l.first (l.place - l.first))
