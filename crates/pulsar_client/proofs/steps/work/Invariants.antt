use Rattle.std.proofs.Common.{◌≡◌, List, map}
use Rattle.pulsar_calls.specs.Content.{Heard, shown}
use Rattle.pulsar_calls.specs.Steps.{Step}
use Rattle.pulsar_client.specs.History.{InStep}
use Rattle.pulsar_agenda.specs.Agenda.{agenda_of}
use Rattle.pulsar_machine.specs.Options.{Options}
use Rattle.pulsar_client.proofs.steps.work.Given as goal

abbrev pub invariant-loop : goal.invariant-loop
invariant-loop l = record {
  stands : (o : Options) (e : Heard) (h : List Step) →
      InStep o l.fn.tables (agenda_of l.fn.tasks) e (map shown l.fn.out.items) h → InStep o l.tables (agenda_of l.tasks) e (map shown l.out.items) h;
  settings : l.tables.settings ≡ l.fn.tables.settings;
}
