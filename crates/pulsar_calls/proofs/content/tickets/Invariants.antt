use Rattle.std.proofs.Common.{◌≡◌, ◌-◌}
use Rattle.pulsar_calls.specs.Content.{numbers_from}
use Rattle.pulsar_calls.proofs.content.tickets.Given as goal

abbrev pub invariant-loop-ticket : goal.invariant-loop-ticket
invariant-loop-ticket l = l.tickets.items ≡ numbers_from l.first (l.ticket - l.first)
