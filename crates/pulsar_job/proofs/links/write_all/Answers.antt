use Rattle.std.proofs.Common.{rules, ◌≡◌, ◌<◌, get_or, length, map, refl, subst, sym}
use Rattle.pulsar_shared.specs.Trace.{history}
use Rattle.pulsar_job.specs.Driven.{Goes, link_now}
use Rattle.pulsar_job.proofs.Goings.{goes-at, goes-then, lent-back}
use Rattle.pulsar_job.proofs.links.write_all.Goals as goal

pub loop-link-preserved : goal.loop-link-preserved
loop-link-preserved g c = λ w.
    let within : c.loop-link.link-index < length c.loop-link.link-items = search rules in
    goes-then w _ _ _ _ _ _ _ _ _ (c.loop-link.invariant w)
    (goes-at (link_now g.I.Input.given g.I.Input.faults g.O.Output.taken g.O.Output.faults) w _ _ _ _ c.loop-link.link-items c.loop-link.link-index (get_or c.loop-link.link-items c.loop-link.link-index c.link-item.result) c.write_link.new.link c.link-item.result within refl
    (c.in_ok-write_link.ensures w))

pub returns : goal.returns
returns g c = λ w.
    let same : length c.loop-link.link-items ≡ length c.args.links.now.items = search rules in
    let size : c.args.links.now.len ≡ length c.args.links.now.items = search rules in
    subst
    (λ xs. Goes w (history c.args.kept.now.traced.trace.items) (history c.loop-link.kept.traced.trace.items) c.args.progress.now c.loop-link.progress
    (map (link_now g.I.Input.given g.I.Input.faults g.O.Output.taken g.O.Output.faults) c.args.links.now.items) (map (link_now g.I.Input.given g.I.Input.faults g.O.Output.taken g.O.Output.faults) xs))
    (sym (lent-back c.loop-link.link-items c.args.links.now.items c.args.links.now.len same size)) (c.loop-link.invariant w)
