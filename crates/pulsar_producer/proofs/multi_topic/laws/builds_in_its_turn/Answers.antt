use Rattle.pulsar_producer.proofs.MultiPassing.{failed_build_fails, send_keeps_its_turn}
use Rattle.pulsar_producer.proofs.multi_topic.laws.builds_in_its_turn.Goals as goal

pub returns-clause-keeps : goal.returns-clause-keeps
returns-clause-keeps c = send_keeps_its_turn

pub returns-clause-fails : goal.returns-clause-fails
returns-clause-fails c = failed_build_fails
