use Rattle.pulsar_consumer.proofs.Histories.{frames_begin_in_turn, queue_is_kept}
use Rattle.pulsar_consumer.proofs.laws.queue_is_kept.Goals as goal

pub returns-clause-placed : goal.returns-clause-placed
returns-clause-placed c = queue_is_kept

pub returns-clause-begun : goal.returns-clause-begun
returns-clause-begun c = frames_begin_in_turn
