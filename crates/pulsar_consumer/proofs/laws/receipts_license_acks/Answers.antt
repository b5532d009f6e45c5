use Rattle.pulsar_consumer.proofs.Checking.{outcomes_are_own}
use Rattle.pulsar_consumer.proofs.Licensed.{receipts_license_acks}
use Rattle.pulsar_consumer.proofs.laws.receipts_license_acks.Goals as goal

pub returns-clause-one : goal.returns-clause-one
returns-clause-one c = receipts_license_acks

pub returns-clause-own : goal.returns-clause-own
returns-clause-own c = outcomes_are_own
