use Rattle.std.proofs.Common.{◌≡◌, ◌≤◌, ◌-◌, ℕ, map, take}
use Rattle.pulsar_calls.specs.Content.{shown}
use Rattle.pulsar_client.specs.Taken.{drawn_to, ended_in, held_in}
use Rattle.pulsar_client.proofs.answers.Answers.note.Given as goal

abbrev pub invariant-loop-ticket : goal.invariant-loop-ticket
invariant-loop-ticket l = record {
  held : (t : ℕ) → held_in l.self.held t ≡ drawn_to l.from l.ticket t (held_in l.fn.self.held t);
  within : l.ticket - l.from ≤ l.to - l.from;
}

abbrev pub invariant-loop-effect : goal.invariant-loop-effect
invariant-loop-effect l =
    (t : ℕ) → held_in l.self.held t ≡ ended_in (map shown (take l.effect-index l.effects)) t (drawn_to l.from l.to t (held_in l.fn.self.held t))
