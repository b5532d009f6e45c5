use Rattle.std.proofs.Common.{◌≡◌, ◌∷◌, ◌∙◌, [], arith, length, sym, ap, refl}
use Rattle.std.proofs.lemmas.List.{nil_from_length}
use Rattle.std.specs.Vec.Iter.{into_iter_items}
use Rattle.pulsar_job.specs.Driven.{link_now}
use Rattle.pulsar_job.specs.Links.{link_seen}
use Rattle.pulsar_job.proofs.Halves.{halves-done, halves-next}
use Rattle.pulsar_job.proofs.run.halves.Goals as goal

pub loop-link-preserved : goal.loop-link-preserved
loop-link-preserved g c =
    let at = c.loop-link in
    let link = c.in-Some.link in
    let steps : into_iter_items at.link-iterator ≡ link ∷ into_iter_items c.next.new.self = c.in-Some.ensures.steps.0 in
    let short = ap length steps in
    let gone = c.in-Some.ensures.steps.1 in
    let was = at.invariant.1 in (
      halves-next (link_seen g.I.Input.given g.I.Input.faults g.O.Output.taken g.O.Output.faults) (link_now g.I.Input.given g.I.Input.faults g.O.Output.taken g.O.Output.faults) _ at.halves.items c.push.new.self.items
          (link.number, link.input, link.output) (into_iter_items at.link-iterator) (into_iter_items c.next.new.self) link c.in_ok-push.ensures.items refl steps at.invariant.0,
      omega (arith, short, gone, was),
    )

pub returns : goal.returns
returns g c =
    let at = c.loop-link in
    let none = c.in-None.ensures.steps in
    let empty : into_iter_items at.link-iterator ≡ [] = nil_from_length _ (sym at.invariant.1 ∙ none.0) in
    halves-done (link_seen g.I.Input.given g.I.Input.faults g.O.Output.taken g.O.Output.faults) (link_now g.I.Input.given g.I.Input.faults g.O.Output.taken g.O.Output.faults) _ at.halves.items (into_iter_items at.link-iterator) empty at.invariant.0
