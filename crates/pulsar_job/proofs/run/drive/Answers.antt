use Rattle.std.proofs.Common.{◌≡◌, ◌∙◌, [], ap, map}
use Rattle.pulsar_shared.specs.Trace.{history}
use Rattle.pulsar_work.specs.Asking.{work_in}
use Rattle.pulsar_job.specs.Driven.{link_now}
use Rattle.pulsar_job.proofs.Begun.{drives-ended, runs-begun}
use Rattle.pulsar_job.proofs.run.drive.Goals as goal

pub returns-clause-drives : goal.returns-clause-drives
returns-clause-drives g c = λ empty before fits.
    let rest = c.new-progress.ensures.rest in
    let none : history c.new-kept.result.traced.trace.items ≡ [] = ap (λ t. history t.trace.items) c.new-kept.ensures ∙ ap history empty in
    drives-ended _ _ _ _ _ (work_in c.args.task.now) c.new-progress.result _ _ _ _ before c.in-Ok.is_done _ _ _ _ c.into_traced.ensures.given
    (runs-begun (work_in c.args.task.now) _ c.new-progress.result _ none (ap (map (link_now g.E.Input.Input.given g.E.Input.Input.faults g.E.Output.Output.taken g.E.Output.Output.faults)) c.new-links.ensures.items) c.new-progress.ensures.knows (rest.0, rest.1, rest.2))
    rest.2 (ap (λ t. history t.trace.items) c.into_traced.ensures.traced) none c.in-Ok.ensures.ends c.in-Ok.ensures.knits fits c.finish.ensures
