use Rattle.std.proofs.Common.{false, refl}
use Rattle.pulsar_work.specs.Asking.{work_in}
use Rattle.pulsar_job.proofs.Turning.{knows-dials, on-ok, turn-begins}
use Rattle.pulsar_job.proofs.turns.begin_turn.Goals as goal

pub returns : goal.returns
returns g c =
    let dialed = c.in_ok-dial_all.ensures in
    let w = work_in c.args.task.now in
    let p = c.dial_all.new.progress in
    on-ok c.call_all.result _ _ (λ calls going. turn-begins w _ _ _ _ p (record p { is_dry = false }) c.call_all.new.progress _ _ _ _ _ going (dialed.reaches w) dialed.dialed
    (λ es acked k. knows-dials p es acked (record p { is_dry = false }) refl refl refl refl refl refl k) refl refl refl refl calls) c.call_all.ensures
