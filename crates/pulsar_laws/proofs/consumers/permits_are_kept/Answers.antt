use Rattle.pulsar_laws.proofs.consumers.Ended.{permits_are_kept_lem}
use Rattle.pulsar_laws.proofs.consumers.Flows.{flows_are_asked_lem, flows_are_taken_lem}
use Rattle.pulsar_laws.proofs.calls.Once.{ends_once_lem}
use Rattle.pulsar_laws.proofs.consumers.Alert.{no_flow_is_due_lem, permits_are_granted_lem}
use Rattle.pulsar_laws.proofs.consumers.Placed.{flows_are_placed_lem}
use Rattle.pulsar_laws.proofs.consumers.Queueing.{flows_are_queued_lem}
use Rattle.pulsar_laws.proofs.consumers.Taken.{flows_are_counted_lem}
use Rattle.pulsar_laws.proofs.consumers.permits_are_kept.Goals as goal
use Rattle.pulsar_laws.specs.ConsumerLaws.{HalfIsHalf}
use Rattle.std.proofs.Common.{arith}

half_is_half : HalfIsHalf
half_is_half batch = (omega arith, omega arith)

pub returns-clause-bounds : goal.returns-clause-bounds
returns-clause-bounds c = λ o log t m l run is raw live. permits_are_kept_lem ends_once_lem o log t m l run is raw live

pub returns-clause-flows : goal.returns-clause-flows
returns-clause-flows c = λ o log n t l m p run. flows_are_taken_lem o log n t l m p run

pub returns-clause-asked : goal.returns-clause-asked
returns-clause-asked c = λ o older n t l p run is. flows_are_asked_lem o older n t l p run is

pub returns-clause-placed : goal.returns-clause-placed
returns-clause-placed c = λ o log n t l m p run. flows_are_placed_lem ends_once_lem o log n t l m p run

pub returns-clause-queued : goal.returns-clause-queued
returns-clause-queued c = λ o log t l m run is on. flows_are_queued_lem ends_once_lem o log t l m run is on

pub returns-clause-counted : goal.returns-clause-counted
returns-clause-counted c = λ o log t l m s run is on made. flows_are_counted_lem ends_once_lem o log t l m s run is on made

pub returns-clause-none_due : goal.returns-clause-none_due
returns-clause-none_due c = λ o log t m l run ends is live. no_flow_is_due_lem ends_once_lem o log t m l run ends is live

pub returns-clause-granted : goal.returns-clause-granted
returns-clause-granted c = λ o log t m l run ends is raw live. permits_are_granted_lem ends_once_lem o log t m l run ends is raw live

pub returns-clause-half : goal.returns-clause-half
returns-clause-half c = λ batch. half_is_half batch
