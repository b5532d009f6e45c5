use Rattle.std.proofs.Common.{rules, ◌≡◌, true, false}
use Rattle.pulsar_work.specs.Asking.{work_in}
use Rattle.pulsar_job.proofs.Turning.{going-ends, going-goes, going-last, going-made, going-same, knows-stopped}
use Rattle.pulsar_job.proofs.turns.call_all.Goals as goal

pub loop-preserved-in-Made : goal.loop-preserved-in-Made
loop-preserved-in-Made g c = (
  search rules,
  search rules,
  λ going.
      let so = c.loop.invariant.2 going in
      going-made _ _ _ _ _ _ _ _ _ so (c.in_ok-call_next.ensures so.stopped),
)

pub returns-in-Nothing : goal.returns-in-Nothing
returns-in-Nothing g c = λ going.
    let so = c.loop.invariant.2 going in
    going-ends _ _ _ _ _ _ _ (going-made _ _ _ _ _ _ _ _ _ so (c.in_ok-call_next.ensures so.stopped))

pub returns-then-branch : goal.returns-then-branch
returns-then-branch g c = λ going.
    let so = c.loop.invariant.2 going in
    let made = going-made _ _ _ _ _ _ _ _ _ so (c.in_ok-call_next.ensures so.stopped) in
    let wrote = going-goes _ _ _ _ _ _ _ _ _ _ made (c.in_ok-write_all-in-Stop.ensures (work_in c.args.task.now)) in
    let last : c.in_ok-stop-in-Stop.field-0 ≡ true = search rules in
    going-last _ _ _ _ _ _ _ _ _ wrote (c.in_ok-stop-in-Stop.ensures.made last) (knows-stopped _)

pub loop-preserved : goal.loop-preserved
loop-preserved g c = (
  search rules,
  search rules,
  λ going.
      let so = c.loop.invariant.2 going in
      let made = going-made _ _ _ _ _ _ _ _ _ so (c.in_ok-call_next.ensures so.stopped) in
      let wrote = going-goes _ _ _ _ _ _ _ _ _ _ made (c.in_ok-write_all-in-Stop.ensures (work_in c.args.task.now)) in
      let other : c.in_ok-stop-in-Stop.field-0 ≡ false = search rules in
      going-same _ _ _ _ _ _ _ _ _ wrote (c.in_ok-stop-in-Stop.ensures.kept other),
)
