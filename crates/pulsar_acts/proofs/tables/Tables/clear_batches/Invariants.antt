use Rattle.std.proofs.Common.{◌≡◌, length}
use Rattle.pulsar_producer_table.specs.KeptProducers.{producers_of}
use Rattle.pulsar_producer_table.specs.Producers.{numbers_at}
use Rattle.pulsar_acts.specs.Tables.{view_of}
use Rattle.pulsar_acts.specs.View.{clear_all}
use Rattle.pulsar_acts.proofs.tables.Tables.clear_batches.Given as goal

abbrev pub invariant-loop-number : goal.invariant-loop-number
invariant-loop-number l = record {
  alarms : clear_all l.numbers l.self.alarms ≡ clear_all (numbers_at ((producers_of l.fn.self.producers).built l.producer)) l.fn.self.alarms;
  sees : view_of l.self ≡ record (view_of l.fn.self) { alarms = l.self.alarms };
  settings : l.self.settings ≡ l.fn.self.settings;
}

abbrev pub decreases-loop-number : goal.decreases-loop-number
decreases-loop-number l = length l.numbers
