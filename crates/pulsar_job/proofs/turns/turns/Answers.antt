use Rattle.std.proofs.Common.{rules, ◌≡◌, false}
use Rattle.pulsar_work.specs.Asking.{work_in}
use Rattle.pulsar_job.proofs.Turning.{always-ok, ends-all, ends-knits, turn-called, turn-ends, turns-none}
use Rattle.pulsar_job.proofs.turns.turns.Goals as goal

pub loop-init : goal.loop-init
loop-init g c = (search rules, search rules, λ going. turns-none _ _ _ _ _ going)

pub returns-then-progress-clause-ends : goal.returns-then-progress-clause-ends
returns-then-progress-clause-ends g c =
    let w = work_in c.args.task.now in
    ends-all c.outcome.result w _ _ _ _ _ _ _ _ _ _ _
    (λ going. turn-called w _ _ _ _ _ _ _ _ _ _ _ _ (c.loop.invariant.2 going) c.in_ok-begin_turn.ensures)
    (c.in_ok-shut_all.ensures w) c.outcome.ensures

pub returns-then-progress-clause-knits : goal.returns-then-progress-clause-knits
returns-then-progress-clause-knits g c =
    let w = work_in c.args.task.now in
    always-ok c.outcome.result _ (ends-knits w _ _ _ _ _ _ _ _ _ _ _
    (λ going. turn-called w _ _ _ _ _ _ _ _ _ _ _ _ (c.loop.invariant.2 going) c.in_ok-begin_turn.ensures)
    (c.in_ok-shut_all.ensures w))

pub loop-preserved : goal.loop-preserved
loop-preserved g c =
    let w = work_in c.args.task.now in
    let goes : c.begin_turn.new.progress.stopped ≡ false = search rules in (
      search rules,
      search rules,
      λ going. turn-ends w _ _ _ _ _ _ _ _ _ _ _ _
          (turn-called w _ _ _ _ _ _ _ _ _ _ _ _ (c.loop.invariant.2 going) c.in_ok-begin_turn.ensures)
          goes (c.in_ok-end_turn.ensures w),
    )
