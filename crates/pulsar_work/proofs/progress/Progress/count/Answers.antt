use Rattle.std.proofs.Common.{rules, ◌≡◌, Some, true, refl}
use Rattle.std.specs.Prelude.{slice_get}
use Rattle.pulsar_work.proofs.Learning.{counts}
use Rattle.pulsar_work.proofs.progress.Progress.count.Goals as goal

pub loop-self-preserved : goal.loop-self-preserved
loop-self-preserved c =
    let at : slice_get c.loop-self.self.ended.items c.loop-self.self.first_open ≡ Some true = search rules in
    record {
      knows = λ es acked k. counts c.loop-self.self _ es acked at refl refl refl refl refl refl (c.loop-self.invariant.knows es acked k);
      ended = c.loop-self.invariant.ended;
      dials = c.loop-self.invariant.dials;
      stopped = c.loop-self.invariant.stopped;
      before = c.loop-self.invariant.before;
    }
