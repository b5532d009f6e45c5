use Rattle.pulsar_producer.proofs.MultiPassing.{close_ends_behind_its_turn, close_passes_at_its_end, send_ends_behind_its_turn, send_passes_at_its_end}
use Rattle.pulsar_producer.proofs.multi_topic.laws.ends_behind_its_turn.Goals as goal

pub returns-clause-send_passes : goal.returns-clause-send_passes
returns-clause-send_passes c = send_passes_at_its_end

pub returns-clause-send_ends : goal.returns-clause-send_ends
returns-clause-send_ends c = send_ends_behind_its_turn

pub returns-clause-close_passes : goal.returns-clause-close_passes
returns-clause-close_passes c = close_passes_at_its_end

pub returns-clause-close_ends : goal.returns-clause-close_ends
returns-clause-close_ends c = close_ends_behind_its_turn
