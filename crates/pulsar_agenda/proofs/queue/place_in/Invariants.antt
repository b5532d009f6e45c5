use Rattle.std.proofs.Common.{◌≡◌, ◌≤◌, ◌∷◌, drop, length}
use Rattle.pulsar_run.specs.Order.{put}
use Rattle.pulsar_calls.specs.declared.act.Notice.{Notice}
use Rattle.pulsar_calls.specs.Order.{below}
use Rattle.pulsar_agenda.proofs.queue.place_in.Given as goal

abbrev pub invariant-loop-place : goal.invariant-loop-place
invariant-loop-place l = record {
  within : l.place ≤ length l.here.items;
  before : (n : Notice) → n.who ≡ l.who → put below n (drop l.place l.here.items) ≡ n ∷ drop l.place l.here.items;
}

abbrev pub decreases-loop-place : goal.decreases-loop-place
decreases-loop-place l = l.place
