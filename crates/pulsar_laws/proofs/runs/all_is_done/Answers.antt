use Rattle.pulsar_laws.proofs.calls.Done.{all_is_done_lem}
use Rattle.pulsar_laws.proofs.runs.all_is_done.Goals as goal

pub returns : goal.returns
returns c = λ o newer older e a run rests acts h. all_is_done_lem o newer older e a run rests acts h
