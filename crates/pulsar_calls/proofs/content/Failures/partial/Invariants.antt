use Rattle.std.proofs.Common.{◌≡◌, ◌≤◌, ◌-◌, ◌++◌, ℕ, List}
use Rattle.std.specs.Prelude.{Result}
use Rattle.std.specs.BTreeMap.{get, is_at}
use Rattle.std.specs.Map.{lookup}
use Rattle.std.specs.Ordering.{nat_cmp}
use Rattle.pulsar_wire.specs.declared.error.Error.{Error}
use Rattle.pulsar_wire.specs.Failures.{sent}
use Rattle.pulsar_calls.specs.Content.{numbers_from}
use Rattle.pulsar_calls.proofs.Parting.{outcomes_onto}
use Rattle.pulsar_calls.proofs.content.Failures.partial.Given as goal

abbrev pub invariant-loop-ticket : goal.invariant-loop-ticket
invariant-loop-ticket l = record {
  sent : (more : List (Result ℕ Error)) → sent (l.sent.items ++ more) ≡ outcomes_onto l.fn.self (numbers_from l.first (l.ticket-counter - l.first)) (sent more);
  left : (t : ℕ) → l.ticket-counter ≤ t → get nat_cmp l.all t ≡ lookup (is_at (nat_cmp t)) l.fn.self;
}
