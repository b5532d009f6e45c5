use Rattle.std.proofs.Common.{◌≡◌, List}
use Rattle.pulsar_calls.specs.Steps.{Step}
use Rattle.pulsar_machine.specs.Options.{Options}
use Rattle.pulsar_client.specs.Client.{IsRecorded, options_of}
use Rattle.pulsar_client.proofs.pulsar.Pulsar.let_go.Given as goal

abbrev pub invariant-loop-effect : goal.invariant-loop-effect
invariant-loop-effect g l = record {
  stands : (o : Options) (h : List Step) →
      IsRecorded (λ p. (goal.CustomRoutingPolicy-dyn g (p.vtable, p.value)).routes p.value) o l.fn.self h →
      IsRecorded (λ p. (goal.CustomRoutingPolicy-dyn g (p.vtable, p.value)).routes p.value) o l.self h;
  options : options_of l.self ≡ options_of l.fn.self;
}
