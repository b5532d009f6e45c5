-- Who has started has a ticket that is never the greatest.
use Rattle.std.proofs.Common.{◌≡◌, List, [], ◌∷◌, Some, inl, inr}
use Rattle.std.proofs.lemmas.Bool.{cases_Bool}
use Rattle.pulsar_laws.proofs.ActWords.{is_same, Procedure, Starts, Who}
use Rattle.pulsar_laws.proofs.RunWords.{agenda, Begins, each_first, Entry, IsRun, Options, started, Then, view}
use Rattle.pulsar_laws.proofs.Cases.{none_some}
use Rattle.pulsar_laws.proofs.calls.Ticketed.{Began, IsDue, is_ticketed, same_began, served_due}

-- who starts, and who has started
start_began : (o : Options) (log : List Entry) (who : Who) (p : Procedure) → IsRun o (Then (Starts who p) ∷ log) → Began who
start_began o log who p run =
    let n = (view o log).calls.drawn in
    (each_first (IsDue n) (agenda o log).now (agenda o log).here (agenda o log).behind (agenda o log).parts (Starts who p) (served_due n)
    (is_ticketed o log run.0).due run.1).0

pub has_begun : (o : Options) (log : List Entry) (w : Who) (p : Procedure) → IsRun o log → started w log ≡ Some p → Began w
has_begun o [] w p run h = absurd (none_some h)
has_begun o (Begins e ∷ log) w p run h = has_begun o log w p run.0 h
has_begun o (Then (Starts who q) ∷ log) w p run h = elim (cases_Bool (is_same w who)) [
  | inl e ↦ same_began w who e (start_began o log who q run)
  | inr e ↦ has_begun o log w p run.0 (rw e at h)
]
has_begun o (Then a ∷ log) w p run h = has_begun o log w p run.0 h
