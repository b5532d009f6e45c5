use Rattle.std.proofs.Common.{◌≡◌, ℕ, List, take, reverse, length, []}
use Rattle.pulsar_machine.specs.Options.{Options}
use Rattle.pulsar_client.specs.Client.{StandsFor}
use Rattle.pulsar_client.specs.History.{answered}
use Rattle.pulsar_client.proofs.pulsar.Pulsar.take_all.Given as goal

abbrev pub invariant-loop-event : goal.invariant-loop-event
invariant-loop-event g l = record {
  stands : (o : Options) (taken : List ℕ) →
      StandsFor (λ p. (goal.CustomRoutingPolicy-dyn g (p.vtable, p.value)).routes p.value) o l.fn.self [] taken →
      StandsFor (λ p. (goal.CustomRoutingPolicy-dyn g (p.vtable, p.value)).routes p.value) o l.self
      (reverse (answered (take l.event-index l.events) l.all.items)) taken;
  count : length l.all.items ≡ l.event-index;
}
