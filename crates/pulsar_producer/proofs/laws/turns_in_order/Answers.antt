use Rattle.pulsar_producer.proofs.Turns.{first_come_first_served, first_is_next, lowest_is_next, nobody_waits_for_free, one_at_a_time, waits_in_line}
use Rattle.pulsar_producer.proofs.laws.turns_in_order.Goals as goal

pub returns-clause-next : goal.returns-clause-next
returns-clause-next c = first_is_next

pub returns-clause-lowest : goal.returns-clause-lowest
returns-clause-lowest c = lowest_is_next

pub returns-clause-order : goal.returns-clause-order
returns-clause-order c = first_come_first_served

pub returns-clause-one : goal.returns-clause-one
returns-clause-one c = one_at_a_time

pub returns-clause-waits : goal.returns-clause-waits
returns-clause-waits c = waits_in_line

pub returns-clause-free : goal.returns-clause-free
returns-clause-free c = nobody_waits_for_free
