use Rattle.std.proofs.Common.{◌≤◌, Option, List, ℕ}
use Rattle.pulsar_producer.specs.Routing.{Policy}
use Rattle.pulsar_calls.specs.Steps.{Step}
use Rattle.pulsar_machine.specs.Options.{Options}
use Rattle.pulsar_cli.specs.Script.{since}
use Rattle.pulsar_cli.specs.Shown.{Going, remaining}
use Rattle.pulsar_cli.proofs.program.next.Given as goal

abbrev pub invariant-loop-event : goal.invariant-loop-event
invariant-loop-event g l = record {
  goes : (ps : List Policy) (o : Options) (h : List Step) (content held : Option (List ℕ)) (faults count : ℕ)
      → Going ps o h l.fn.reading l.fn.feed (since content faults g.S.Source.left g.S.Source.faults l.fn.source) (since held count g.K.Sink.holds g.K.Sink.faults l.fn.sink)
      → Going ps o h l.reading l.feed (since content faults g.S.Source.left g.S.Source.faults l.source) (since held count g.K.Sink.holds g.K.Sink.faults l.sink);
  less : remaining l.feed ≤ remaining l.fn.feed;
  grows : g.K.Sink.faults l.fn.sink ≤ g.K.Sink.faults l.sink;
}

abbrev pub decreases-loop-event : goal.decreases-loop-event
decreases-loop-event g l = l.feed.left
