use Rattle.pulsar_consumer.proofs.Again.{checks_name_the_due, kept_are_due}
use Rattle.pulsar_consumer.proofs.Checking.{checks_come_in_time, moments_are_told}
use Rattle.pulsar_consumer.proofs.laws.checks_name_the_due.Goals as goal

pub returns-clause-kept : goal.returns-clause-kept
returns-clause-kept c = kept_are_due

pub returns-clause-named : goal.returns-clause-named
returns-clause-named c = checks_name_the_due

pub returns-clause-moments : goal.returns-clause-moments
returns-clause-moments c = moments_are_told

pub returns-clause-time : goal.returns-clause-time
returns-clause-time c = checks_come_in_time
