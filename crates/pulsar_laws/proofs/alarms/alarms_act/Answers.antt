use Rattle.pulsar_laws.proofs.alarms.Rung.{alarms_act_lem, alarms_come_in_time_lem, idle_is_unused_lem}
use Rattle.pulsar_laws.proofs.alarms.alarms_act.Goals as goal

pub returns-clause-in_time : goal.returns-clause-in_time
returns-clause-in_time c = λ o newer older now m a run rests acts le set due. alarms_come_in_time_lem o newer older now m a run rests acts le set due

pub returns-clause-act : goal.returns-clause-act
returns-clause-act c = λ o newer older a m run rests acts set come. alarms_act_lem o newer older a m run rests acts set come

pub returns-clause-idle : goal.returns-clause-idle
returns-clause-idle c = λ v l seat. idle_is_unused_lem v l seat
