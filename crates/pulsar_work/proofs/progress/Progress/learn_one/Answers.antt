use Rattle.std.proofs.Common.{true, ◌∙◌, ◌++◌, [], ◌∷◌, refl, ap, sym, subst}
use Rattle.pulsar_wire.specs.Failures.{failure}
use Rattle.pulsar_calls.specs.Content.{Ends, hands, said, shown}
use Rattle.pulsar_work.specs.Calls.{is_end, is_failure}
use Rattle.pulsar_work.specs.Progress.{Knows}
use Rattle.pulsar_work.specs.Report.{error_of}
use Rattle.pulsar_work.proofs.Learning.{any-last, grows, on-ok, plain, stays-over, well}
use Rattle.pulsar_work.proofs.progress.Progress.learn_one.Goals as goal

pub returns-in-Connect-clause-knows : goal.returns-in-Connect-clause-knows
returns-in-Connect-clause-knows c =
    on-ok c.dial.result (λ f. λ es acked k. subst (λ e. Knows c.dial.new.self (es ++ shown e ∷ []) acked) (sym c.in-Connect.is) (f es acked k)) c.dial.ensures.knows

pub returns-in-Ok-clause-knows : goal.returns-in-Ok-clause-knows
returns-in-Ok-clause-knows c =
    on-ok c.end.result (λ f. λ es acked k. subst (λ e. Knows c.end.new.self (es ++ shown e ∷ []) acked) (sym c.in-Ended.is)
    (f es acked (said c.in-Ended.answer) (ap (λ r. is_failure (said r)) c.in-Ok.is ∙ well c.in-Ok.field-0) k)) c.end.ensures.knows

pub returns-in-Err-clause-knows : goal.returns-in-Err-clause-knows
returns-in-Err-clause-knows c = λ es acked k.
    subst (λ e. Knows c.fail.new.self (es ++ shown e ∷ []) acked) (sym c.in-Ended.is)
    (c.fail.ensures.knows es acked _ (failure c.in-Err.field-0) (ap (λ r. error_of (Ends c.in-Ended.ticket (said r))) c.in-Err.is) refl refl k)

pub returns-in-Ok-item-clause-knows : goal.returns-in-Ok-item-clause-knows
returns-in-Ok-item-clause-knows c =
    on-ok c.give.result (λ f. λ es acked k. subst (λ e. Knows c.give.new.self (es ++ shown e ∷ []) acked) (sym c.in-Item.is)
    (subst (λ r. Knows c.give.new.self (es ++ hands c.in-Item.ticket r ∷ []) acked) (sym c.in-Ok-item.is) (f es acked c.in-Item.ticket k))) c.give.ensures.knows

pub returns-in-Err-item-clause-knows : goal.returns-in-Err-item-clause-knows
returns-in-Err-item-clause-knows c = λ es acked k.
    subst (λ e. Knows c.fail-in-Err-item.new.self (es ++ shown e ∷ []) acked) (sym c.in-Item.is)
    (subst (λ r. Knows c.fail-in-Err-item.new.self (es ++ hands c.in-Item.ticket r ∷ []) acked) (sym c.in-Err-item.is)
    (c.fail-in-Err-item.ensures.knows es acked _ (failure c.in-Err-item.field-0) refl refl refl k))

pub returns-in-Empty-clause-knows : goal.returns-in-Empty-clause-knows
returns-in-Empty-clause-knows c = λ es acked k.
    let q = record c.args.self.now { is_dry = true } in
    subst (λ e. Knows q (es ++ shown e ∷ []) acked) (sym c.in-Empty.is)
    (grows c.args.self.now q es acked _ (λ t. refl) (record { ended = refl; first_open = refl; failed = refl; given = refl; owed = refl }) refl refl refl (λ h. stays-over c.args.self.now es acked _ k h) k)

pub returns-in-End-clause-knows : goal.returns-in-End-clause-knows
returns-in-End-clause-knows c = λ es acked k.
    let q = record c.args.self.now { is_over = true } in
    subst (λ e. Knows q (es ++ shown e ∷ []) acked) (sym c.in-End.is)
    (grows c.args.self.now q es acked _ (λ t. refl) (record { ended = refl; first_open = refl; failed = refl; given = refl; owed = refl }) refl refl refl (λ h. any-last is_end es _ refl) k)

pub returns-in-Queued-clause-knows : goal.returns-in-Queued-clause-knows
returns-in-Queued-clause-knows c = λ es acked k. subst (λ e. Knows c.args.self.now (es ++ shown e ∷ []) acked) (sym c.in-Queued.is) (plain c.args.self.now es acked _ (λ t. refl) refl refl refl k)

pub returns-in-Write-clause-knows : goal.returns-in-Write-clause-knows
returns-in-Write-clause-knows c = λ es acked k. subst (λ e. Knows c.args.self.now (es ++ shown e ∷ []) acked) (sym c.in-Write.is) (plain c.args.self.now es acked _ (λ t. refl) refl refl refl k)

pub returns-in-Retry-clause-knows : goal.returns-in-Retry-clause-knows
returns-in-Retry-clause-knows c = λ es acked k. subst (λ e. Knows c.args.self.now (es ++ shown e ∷ []) acked) (sym c.in-Retry.is) (plain c.args.self.now es acked _ (λ t. refl) refl refl refl k)

pub returns-in-Close-clause-knows : goal.returns-in-Close-clause-knows
returns-in-Close-clause-knows c = λ es acked k. subst (λ e. Knows c.args.self.now (es ++ shown e ∷ []) acked) (sym c.in-Close.is) (plain c.args.self.now es acked _ (λ t. refl) refl refl refl k)

pub returns-in-Settled-clause-knows : goal.returns-in-Settled-clause-knows
returns-in-Settled-clause-knows c = λ es acked k. subst (λ e. Knows c.args.self.now (es ++ shown e ∷ []) acked) (sym c.in-Settled.is) (plain c.args.self.now es acked _ (λ t. refl) refl refl refl k)
