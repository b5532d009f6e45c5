use Rattle.std.proofs.Common.{◌≡◌, ◌++◌, map, take}
use Rattle.pulsar_calls.specs.declared.effect.Settlement.TheVariants.{Reply}
use Rattle.pulsar_calls.specs.Content.{shown}
use Rattle.pulsar_links.specs.Links.{settles}
use Rattle.pulsar_links.proofs.row.settle_all.Given as goal

abbrev pub invariant-loop-place : goal.invariant-loop-place
invariant-loop-place l = map shown l.out.items ≡ map shown l.fn.out.items ++ map (settles l.link Reply) (take l.place-index l.places)
