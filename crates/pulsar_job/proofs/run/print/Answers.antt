use Rattle.std.proofs.Common.{◌∙◌, subst, sym, ℕ}
use Rattle.pulsar_shared.specs.Trace.{history}
use Rattle.pulsar_job.specs.Outside.{seen}
use Rattle.pulsar_job.specs.Went.{Ended}
use Rattle.pulsar_job.proofs.Prints.{ended-broken, ended-done, ended-failed}
use Rattle.pulsar_job.proofs.run.print.Goals as goal
use Rattle.pulsar_job.proofs.run.print.Goals.{in-Err, in-Ok, in-Ok-2}

pub returns-clause-ended : goal.returns-clause-ended
returns-clause-ended g c = λ x out.
    let sink = seen g.K.Sink.holds g.K.Sink.faults c.args.sink.now c.put_all.new.sink in
    let is = c.as_bytes.ensures.value ∙ c.in_ok-text.ensures in
    elim c.match-put_all.branch as (λ v. Ended c.match-put_all.result x (seen g.K.Sink.holds g.K.Sink.faults c.args.sink.now c.put_all.new.sink) (history c.args.trace.now)) [
      | in-Ok w ↦ subst (λ (n : ℕ). Ended n x sink (history c.args.trace.now)) (sym w.result-is) (ended-done c.args.trace.now c.as_bytes.result.now sink x c.args.is_done is out w.if-is_done.true w.in-Ok.ensures.ok)
      | in-Ok-2 w ↦ subst (λ (n : ℕ). Ended n x sink (history c.args.trace.now)) (sym w.result-is) (ended-failed c.args.trace.now c.as_bytes.result.now sink x c.args.is_done is out w.if-is_done.false w.in-Ok.ensures.ok)
      | in-Err w ↦ subst (λ (n : ℕ). Ended n x sink (history c.args.trace.now)) (sym w.result-is) (ended-broken c.args.trace.now c.as_bytes.result.now sink x c.args.is_done is out w.in-Err.ensures.front)
    ]
