use Rattle.std.proofs.Common.{◌≡◌, map}
use Rattle.std.specs.Map.Iter.{deref_pair}
use Rattle.pulsar_calls.specs.declared.act.Act.TheVariants.{Comes}
use Rattle.pulsar_calls.specs.declared.act.End.TheVariants.{Stops}
use Rattle.pulsar_calls.specs.declared.act.LinkAct.TheVariants.{Ends}
use Rattle.pulsar_calls.specs.declared.act.Part.TheVariants.{ToLink}
use Rattle.pulsar_links.proofs.links.ends_all.Given as goal

abbrev pub invariant-loop-link : goal.invariant-loop-link
invariant-loop-link l = l.acts.items ≡ map (λ e. Comes (ToLink e.0 (Ends Stops))) (map deref_pair l.yielded)
