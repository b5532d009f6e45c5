use Rattle.pulsar_laws.proofs.Traces.{answered_good, batched_good, deadline_good, early_good, failed_good, line_good, local_known, polled_good, redirected_good, retried_good, sent_good, stopped_good}
use Rattle.pulsar_laws.proofs.runs.small_runs_are_good.Goals as goal

pub returns : goal.returns
returns c = record {
  answered = answered_good;
  early = early_good;
  fails = failed_good;
  polled = polled_good;
  deadline = deadline_good;
  line = line_good;
  stopped = stopped_good;
  retried = retried_good;
  redirected = redirected_good;
  sent = sent_good;
  batched = batched_good;
  address = local_known;
}
