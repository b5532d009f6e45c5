-- The report of a job is printed.
use Rattle.std.proofs.Common.{◌≡◌, ◌∙◌, inl, inr, ℕ, Bool, true, false, sym, subst, refl, List, [], append-nil, arith, Option}
use Rattle.pulsar_calls.specs.declared.event.Event.{Event}
use Rattle.pulsar_calls.specs.declared.effect.Effect.{Effect}
use Rattle.std.specs.Global.{Vec}
use Rattle.pulsar_shared.specs.Trace.{history}
use Rattle.pulsar_work.specs.Calls.{Work}
use Rattle.pulsar_work.specs.Report.{report, report_of, shown_in}
use Rattle.pulsar_job.specs.Driven.{ComesOut}
use Rattle.pulsar_job.specs.Outside.{Adds, AddsFront, Seen}
use Rattle.pulsar_job.specs.Went.{Ended}
use Rattle.pulsar_job.proofs.Tells.{told-report}

all-front : (a b : Option (List ℕ)) (t : List ℕ) → Adds a b t → AddsFront a b t
all-front a b t h = record { front = t; back = []; whole = sym (append-nil t); adds = h }

-- the text is the report of this trace
module _ (trace : List (Event × Vec Effect)) (text : List ℕ) (sink : Seen) (w : Work) (b : Bool) (is : text ≡ report_of (shown_in trace)) (out : ComesOut w (history trace) b) where
  same : text ≡ report (history trace)
  same = is ∙ sym (told-report trace)

  pub ended-done : b ≡ true → Adds sink.before sink.after text → Ended 0 w sink (history trace)
  ended-done well adds =
      let all : Adds sink.before sink.after (report (history trace)) = subst (Adds sink.before sink.after) same adds in
      record {
        known = inl refl;
        done = λ e. out.done well;
        failed = λ e. absurd (omega (arith, e));
        printed = λ e. all;
        begun = all-front sink.before sink.after (report (history trace)) all;
      }

  pub ended-failed : b ≡ false → Adds sink.before sink.after text → Ended 7 w sink (history trace)
  ended-failed bad adds =
      let all : Adds sink.before sink.after (report (history trace)) = subst (Adds sink.before sink.after) same adds in
      record {
        known = inr (inr refl);
        done = λ e. absurd (omega (arith, e));
        failed = λ e. out.failed bad;
        printed = λ e. all;
        begun = all-front sink.before sink.after (report (history trace)) all;
      }

  pub ended-broken : AddsFront sink.before sink.after text → Ended 5 w sink (history trace)
  ended-broken front =
      record {
        known = inr (inl refl);
        done = λ e. absurd (omega (arith, e));
        failed = λ e. absurd (omega (arith, e));
        printed = λ e. absurd (e refl);
        begun = subst (AddsFront sink.before sink.after) same front;
      }
