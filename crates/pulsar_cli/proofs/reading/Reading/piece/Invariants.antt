use Rattle.std.proofs.Common.{◌≡◌, ◌++◌, List, ℕ, length}
use Rattle.pulsar_producer.specs.Routing.{Policy}
use Rattle.pulsar_calls.specs.Steps.{Step}
use Rattle.pulsar_machine.specs.Options.{Options}
use Rattle.pulsar_cli.specs.Shown.{Running}
use Rattle.pulsar_cli.proofs.reading.Reading.piece.Given as goal

abbrev pub invariant-loop-end : goal.invariant-loop-end
invariant-loop-end l = record {
  runs : (ps : List Policy) (o : Options) (h : List Step) (put consumed : List ℕ) → Running ps o h l.fn.self put consumed
      → (front : List ℕ) × (front ++ l.rest ≡ consumed ++ l.piece) × Running ps o h l.self put front;
  behind : (front : List ℕ) × (front ++ l.rest ≡ l.piece);
}

abbrev pub decreases-loop-end : goal.decreases-loop-end
decreases-loop-end l = length l.rest
