use Rattle.std.proofs.Common.{◌≡◌, ◌+◌, ◌++◌, drop, length, map}
use Rattle.pulsar_messages.specs.Content.{message_content}
use Rattle.pulsar_producer_table.specs.KeptProducers.{producers_of}
use Rattle.pulsar_producer_table.specs.Producers.{all_routed}
use Rattle.pulsar_acts.specs.Rules.{shares_of}
use Rattle.pulsar_acts.specs.Tables.{chosen_of, view_of}
use Rattle.pulsar_acts.proofs.tables.Tables.shares.Given as goal

abbrev pub invariant-loop-message : goal.invariant-loop-message
invariant-loop-message l = record {
  ticket : l.ticket ≡ l.of + length l.yielded + 1;
  advice : l.advice ≡ drop (length l.yielded) l.fn.advice;
  parts : l.parts.items ≡ l.fn.parts.items
      ++ shares_of (chosen_of l.fn.self.settings) (producers_of l.fn.self.producers) l.of (l.of + 1) l.fn.advice l.producer (map message_content l.yielded);
  after : view_of l.self
      ≡ record (view_of l.fn.self) { producers = all_routed l.producer (map message_content l.yielded) (producers_of l.fn.self.producers) };
  settings : l.self.settings ≡ l.fn.self.settings;
}
