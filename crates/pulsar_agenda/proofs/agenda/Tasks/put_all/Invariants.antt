use Rattle.std.proofs.Common.{◌≡◌, ◌++◌, length}
use Rattle.pulsar_agenda.proofs.agenda.Tasks.put_all.Given as goal

abbrev pub invariant-loop-act : goal.invariant-loop-act
invariant-loop-act l = record {
  now : l.acts.items ++ l.self.now.items ≡ l.fn.acts.items ++ l.fn.self.now.items;
  here : l.self.here ≡ l.fn.self.here;
  behind : l.self.behind ≡ l.fn.self.behind;
  parts : l.self.parts ≡ l.fn.self.parts;
}

abbrev pub decreases-loop-act : goal.decreases-loop-act
decreases-loop-act l = length l.acts.items
