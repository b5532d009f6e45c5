use Rattle.pulsar_laws.proofs.consumers.Answered.{each_poll_is_answered_lem, polls_come_first_lem}
use Rattle.pulsar_laws.proofs.consumers.each_poll_is_answered.Goals as goal

pub returns-clause-first : goal.returns-clause-first
returns-clause-first c = λ o log t m run h. polls_come_first_lem o log t m run h

pub returns-clause-once : goal.returns-clause-once
returns-clause-once c = λ o log run rests. each_poll_is_answered_lem o log run rests
