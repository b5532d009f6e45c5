use Rattle.std.proofs.Common.{◌≤◌, ◌≡◌, map, take}
use Rattle.pulsar_calls.specs.Content.{shown}
use Rattle.pulsar_pumps.specs.Made.{bytes_in, writes_in}
use Rattle.pulsar_pumps.specs.Outside.{Grows}
use Rattle.pulsar_pumps.proofs.rounds.put_effects.Given as goal

abbrev pub invariant-loop-effect : goal.invariant-loop-effect
invariant-loop-effect g l = record {
  any : l.any ≡ writes_in (map shown (take l.effect-index l.effects));
  grows : Grows (g.O.Output.taken l.fn.output) (g.O.Output.taken l.output) (bytes_in (map shown (take l.effect-index l.effects)));
  faults : g.O.Output.faults l.fn.output ≤ g.O.Output.faults l.output;
  stays : g.O.Output.is_shut l.output ≡ g.O.Output.is_shut l.fn.output;
}
