use Rattle.std.proofs.Common.{◌≡◌}
use Rattle.std.specs.List.{flat_map}
use Rattle.pulsar_links.specs.Kept.{live_in}
use Rattle.pulsar_links.specs.LinkRules.{due_part, on_link}
use Rattle.pulsar_links.proofs.links.ends_due.Given as goal

abbrev pub invariant-loop-link : goal.invariant-loop-link
invariant-loop-link l = l.parts.items ≡ flat_map (on_link (due_part l.now) (live_in l.live)) l.yielded
