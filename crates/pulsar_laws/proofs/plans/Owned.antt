-- What begins for a topic producer is the plan of its own batches, and that gives no verdict.
use Rattle.std.proofs.Common.{◌≡◌, ◌∙◌, sym, ap, ℕ, List, ◌∷◌, Bool, true, false, cond}
use Rattle.pulsar_laws.proofs.ActWords.{Outcome, Procedure, Producer, Starts, Verdict}
use Rattle.pulsar_laws.proofs.PlanWords.{batches_on, Batching, begins, Gives, news_of, overrides, Plan, told}
use Rattle.pulsar_laws.proofs.RunWords.{Entry, IsRun, Options, Then}
use Rattle.pulsar_producer.specs.Batching as batches
use Rattle.pulsar_calls.specs.declared.act.Procedure.TheVariants as procedure
use Rattle.pulsar_laws.proofs.plans.Batchers.{is_batcher}
pub use Rattle.pulsar_laws.proofs.plans.Standing.{OwnBatches}
use Rattle.pulsar_laws.proofs.plans.Standing.{starts_so}

pub starts_own : (o : Options) (log : List Entry) (n : ℕ) (p : Procedure) → IsRun o (Then (Starts (Producer n) p) ∷ log) → OwnBatches n p
starts_own o log n p run = starts_so o log (Producer n) p run

pub batcher_told : (p : Plan) (u : Outcome) (verdict : Verdict) → is_batcher p ≡ true → told p u ≡ Gives verdict → ⊥
batcher_told (Batching w e b) u verdict h k = by (overrides u) k
  where
    by : (c : Bool) → cond c (batches_on w e (batches.halted b)) (batches_on w e (batches.told w e b (news_of u))) ≡ Gives verdict → ⊥
    by true k = cc
    by false k = cc
batcher_told p u verdict h k = absurd cc

pub batches_begun : (n : ℕ) (p : Procedure) (verdict : Verdict) → OwnBatches n p → begins p ≡ Gives verdict → ⊥
batches_begun n p verdict k h =
    let f : begins (procedure.Batch k.0 (record { producer = n; block = k.1 })) ≡ Gives verdict = ap begins (sym k.2) ∙ h in cc
