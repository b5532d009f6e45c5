use Rattle.std.proofs.Common.{◌≡◌, map}
use Rattle.std.specs.Map.Iter.{deref_pair}
use Rattle.pulsar_requests.specs.Kept.{all_pending}
use Rattle.pulsar_requests.specs.Waits.{places}
use Rattle.pulsar_requests.proofs.requests.Requests.places.Given as goal

abbrev pub invariant-loop-place : goal.invariant-loop-place
invariant-loop-place l = l.places.items ≡ places (all_pending (map deref_pair l.yielded))
