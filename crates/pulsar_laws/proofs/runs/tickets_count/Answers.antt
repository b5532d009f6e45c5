use Rattle.pulsar_client.proofs.Counting.{tickets_are}
use Rattle.pulsar_laws.proofs.runs.tickets_count.Goals as goal

pub returns : goal.returns
returns c = λ o log run rests. tickets_are o log run rests
