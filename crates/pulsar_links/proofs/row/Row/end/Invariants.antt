use Rattle.std.proofs.Common.{◌≡◌, ◌++◌, map}
use Rattle.std.specs.BTreeMap.{get}
use Rattle.std.specs.List.{filter_map}
use Rattle.std.specs.Ordering.{nat_cmp}
use Rattle.pulsar_calls.specs.Content.{shown}
use Rattle.pulsar_links.specs.Links as links
use Rattle.pulsar_links.specs.LinkRules.{lost, tells_asker}
use Rattle.pulsar_links.proofs.row.Row.end.Given as goal

abbrev pub invariant-loop-place : goal.invariant-loop-place
invariant-loop-place l = record {
  out : map shown l.out.items ≡ map shown l.fn.out.items ++ map (links.lost l.link l.end l.now l.self.connection) l.yielded;
  notices : l.notices.items ≡ filter_map (tells_asker (lost l.end l.now l.self.connection) (get nat_cmp l.self.askers)) l.yielded;
}
