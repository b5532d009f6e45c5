use Rattle.std.proofs.Common.{◌≡◌, ◌∙◌, sym, ap, ℕ, Bool, true, false, not, ◌&&◌, ◌≤◌, ◌<◌, nat_le, refl, arith}
use Rattle.std.proofs.lemmas.Bool.Decides.{nat_tests}
use Rattle.pulsar_requests.specs.Waits.{is_excused, is_overdue, is_some_due}
use Rattle.pulsar_requests.proofs.Pendings.{at_place, pending_of}
use Rattle.pulsar_requests.proofs.requests.Requests.is_overdue.Goals as goal

due_now : (d now : ℕ) (x y : Bool) → d ≤ now → x ≡ y → not x ≡ (nat_le d now && not y)
due_now d now x y le e = let here : nat_le d now ≡ true = grind (arith, nat_tests) in rw (here, e) refl

due_later : (d now : ℕ) (y : Bool) → now < d → nat_le d now ≡ (nat_le d now && y)
due_later d now y lt = let late : nat_le d now ≡ false = grind (arith, nat_tests) in rw late refl

pub returns-then-waiter-now : goal.returns-then-waiter-now
returns-then-waiter-now c =
    due_now c.in-Some.waiter.now.deadline c.args.now c.is_excused.result (is_excused c.self.inside.excused.keys c.in-Some.waiter.now.creates c.in-Some.waiter.now.awaits) c.if-waiter-now.true c.is_excused.ensures
    ∙ ap (λ o. is_some_due c.args.now c.self.inside.excused.keys (pending_of c.args.place o)) c.in-Some.ensures.value
    ∙ ap (is_some_due c.args.now c.self.inside.excused.keys) (sym (at_place c.args.place c.self.inside.waiters.entries))
    ∙ ap (is_overdue c.args.place c.args.now) c.self.view_is

pub returns-else-waiter-now : goal.returns-else-waiter-now
returns-else-waiter-now c =
    due_later c.in-Some.waiter.now.deadline c.args.now (not (is_excused c.self.inside.excused.keys c.in-Some.waiter.now.creates c.in-Some.waiter.now.awaits)) c.if-waiter-now.false
    ∙ ap (λ o. is_some_due c.args.now c.self.inside.excused.keys (pending_of c.args.place o)) c.in-Some.ensures.value
    ∙ ap (is_some_due c.args.now c.self.inside.excused.keys) (sym (at_place c.args.place c.self.inside.waiters.entries))
    ∙ ap (is_overdue c.args.place c.args.now) c.self.view_is

pub returns-in-None : goal.returns-in-None
returns-in-None c =
    ap (λ o. is_some_due c.args.now c.self.inside.excused.keys (pending_of c.args.place o)) c.in-None.ensures.value
    ∙ ap (is_some_due c.args.now c.self.inside.excused.keys) (sym (at_place c.args.place c.self.inside.waiters.entries))
    ∙ ap (is_overdue c.args.place c.args.now) c.self.view_is
