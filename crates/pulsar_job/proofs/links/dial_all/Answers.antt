use Rattle.std.proofs.Common.{rules, ◌<◌, length}
use Rattle.pulsar_job.proofs.Begun.{is-before}
use Rattle.pulsar_job.proofs.Goings.{reaches-then}
use Rattle.pulsar_job.proofs.links.dial_all.Goals as goal

pub loop-preserved : goal.loop-preserved
loop-preserved g c =
    let some : 0 < length c.loop.progress.dials.items = search rules in (
      search rules,
      search rules,
      λ w. reaches-then w _ _ _ _ _ _ _ _ _ _ _ _ (c.loop.invariant.2 w)
          (c.in_ok-dial_one.ensures w c.loop.progress (is-before c.loop.progress c.remove-dial.new.self c.remove-dial.result some c.remove-dial.ensures.value c.remove-dial.ensures.items)),
    )
