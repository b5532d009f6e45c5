use Rattle.pulsar_producer.proofs.Telling.{each_is_told, halt_tells_all, takes_where_settled, told_in_order}
use Rattle.pulsar_producer.proofs.laws.each_is_told_in_order.Goals as goal

pub returns-clause-told : goal.returns-clause-told
returns-clause-told c = each_is_told

pub returns-clause-halt : goal.returns-clause-halt
returns-clause-halt c = halt_tells_all

pub returns-clause-next : goal.returns-clause-next
returns-clause-next c = takes_where_settled

pub returns-clause-order : goal.returns-clause-order
returns-clause-order c = told_in_order
