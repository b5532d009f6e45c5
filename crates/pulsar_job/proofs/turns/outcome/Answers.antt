use Rattle.std.proofs.Common.{rules, ◌≡◌, true, false}
use Rattle.pulsar_job.proofs.Stages.{out-done, out-failed, out-not-built}
use Rattle.pulsar_job.proofs.Turning.{none-of}
use Rattle.pulsar_job.proofs.turns.outcome.Goals as goal

pub returns-then-has_failed_to_build : goal.returns-then-has_failed_to_build
returns-then-has_failed_to_build c = λ w h works.
    let going : c.args.progress.now.stopped ≡ false = search rules in
    let failed = c.if-has_failed_to_build.ensures.0 (search rules) in
    out-not-built w h c.args.progress.now going failed.0 failed.1 works

pub returns-then-progress : goal.returns-then-progress
returns-then-progress c = λ w h works.
    let stopped : c.args.progress.now.stopped ≡ true = search rules in
    out-failed w h c.args.progress.now stopped c.if-progress.true works

pub returns : goal.returns
returns c = λ w h works.
    let stopped : c.args.progress.now.stopped ≡ true = search rules in
    out-done w h c.args.progress.now stopped c.if-progress.false c.if-progress-2.false (c.if-not-have_all_ended.ensures.0 (search rules)) (none-of c.args.progress.now.owed c.if-is_some.ensures) works
