use Rattle.pulsar_session.proofs.Deadlines.{due_is_overdue, queued_waits}
use Rattle.pulsar_session.proofs.Leaving.{moved_up_waits}
use Rattle.pulsar_session.proofs.laws.deadlines_hold.Goals as goal

pub returns-clause-queued : goal.returns-clause-queued
returns-clause-queued c = queued_waits

pub returns-clause-moved_up : goal.returns-clause-moved_up
returns-clause-moved_up c = moved_up_waits

pub returns-clause-due : goal.returns-clause-due
returns-clause-due c = due_is_overdue
