use Rattle.std.proofs.Common.{◌≡◌, [], length}
use Rattle.pulsar_agenda.specs.Agenda.{first_of, rest_of}
use Rattle.pulsar_agenda.proofs.agenda.Tasks.turn_to_next.Given as goal

abbrev pub invariant-loop-self : goal.invariant-loop-self
invariant-loop-self l = record {
  now : l.self.now ≡ l.fn.self.now;
  parts : l.self.parts ≡ l.fn.self.parts;
  first : first_of [] l.self.here l.self.behind.items l.self.parts.items ≡ first_of [] l.fn.self.here l.fn.self.behind.items l.fn.self.parts.items;
  rest : rest_of [] l.self.here l.self.behind.items l.self.parts.items ≡ rest_of [] l.fn.self.here l.fn.self.behind.items l.fn.self.parts.items;
}

abbrev pub decreases-loop-self : goal.decreases-loop-self
decreases-loop-self l = length l.self.behind.items
