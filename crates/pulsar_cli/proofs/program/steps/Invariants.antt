use Rattle.std.proofs.Common.{◌≡◌, [], Option, List, ℕ}
use Rattle.pulsar_producer.specs.Routing.{Policy}
use Rattle.pulsar_client.specs.Client.{StandsFor}
use Rattle.pulsar_calls.specs.Content.{heard}
use Rattle.pulsar_calls.specs.Steps.{Step}
use Rattle.pulsar_machine.specs.Options.{Options}
use Rattle.pulsar_cli.specs.Script.{since}
use Rattle.pulsar_cli.specs.Shown.{Awaits, options_in, steps_left}
use Rattle.pulsar_cli.proofs.program.steps.Given as goal

abbrev pub invariant-loop-effects : goal.invariant-loop-effects
invariant-loop-effects g l =
    (ps : List Policy) (o : Options) (h : List Step) (content held : Option (List ℕ)) (faults count : ℕ)
    → Awaits ps o h l.fn.reading l.fn.feed (since content faults g.S.Source.left g.S.Source.faults l.fn.source) (since held count g.K.Sink.holds g.K.Sink.faults l.fn.sink) (heard l.fn.found.event) l.fn.found.last
    → o ≡ options_in ps l.fn.reading → StandsFor (λ p. (goal.CustomRoutingPolicy-dyn g (p.vtable, p.value)).routes p.value) o l.fn.client.value h []
    → (next : List Step)
    × Awaits ps o next l.reading l.feed (since content faults g.S.Source.left g.S.Source.faults l.source) (since held count g.K.Sink.holds g.K.Sink.faults l.sink) (heard l.found.event) l.found.last
    × (o ≡ options_in ps l.reading) × StandsFor (λ p. (goal.CustomRoutingPolicy-dyn g (p.vtable, p.value)).routes p.value) o l.client.value next []

abbrev pub decreases-loop-effects : goal.decreases-loop-effects
decreases-loop-effects g l = steps_left l.feed l.found.last
