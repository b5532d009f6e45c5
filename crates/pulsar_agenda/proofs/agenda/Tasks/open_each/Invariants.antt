use Rattle.std.proofs.Common.{◌≡◌, ◌++◌, map}
use Rattle.pulsar_run.specs.Order.{arranged}
use Rattle.pulsar_calls.specs.Order.{alone, below}
use Rattle.pulsar_agenda.proofs.agenda.Tasks.open_each.Given as goal

abbrev pub invariant-loop-notice : goal.invariant-loop-notice
invariant-loop-notice l = record {
  now : l.self.now ≡ l.fn.self.now;
  here : l.self.here ≡ l.fn.self.here;
  behind : l.self.behind.items ≡ l.fn.self.behind.items ++ map (arranged below) (map alone l.yielded);
  parts : l.self.parts ≡ l.fn.self.parts;
}
