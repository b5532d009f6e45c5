use Rattle.std.proofs.Common.{rules, ◌≡◌, ◌∙◌, ◌==◌, ap, sym, false, refl}
use Rattle.std.specs.List.{list_any}
use Rattle.pulsar_job.specs.Links.{link_seen}
use Rattle.pulsar_job.proofs.Goings.{one-of-links, reaches-failed, reaches-opened}
use Rattle.pulsar_job.proofs.links.dial_one.Goals as goal

pub returns-in-Ok : goal.returns-in-Ok
returns-in-Ok g c = λ w q first.
    let none : c.has_link.result ≡ false = search rules in
    reaches-opened w _ _ q c.args.progress.now c.open.new.progress c.args.dial.link first
    (link_seen g.E.Input.Input.given g.E.Input.Input.faults g.E.Output.Output.taken g.E.Output.Output.faults (c.args.dial.link, c.in-Ok.input, c.in-Ok.output)) _ _ _ _ refl
    c.in_ok-open-in-Ok.ensures.submits c.in_ok-open-in-Ok.ensures.links
    (one-of-links _ _ _ _ c.args.links.now.items c.args.dial.link ∙ ap (list_any (λ l. l.number == c.args.dial.link)) (sym c.deref.ensures.value) ∙ sym c.has_link.ensures ∙ none)
    c.in-Ok.ensures.input.1 c.in-Ok.ensures.output.1 c.in-Ok.ensures.first c.in-Ok.ensures.greatest c.in-Ok.ensures.grows

pub returns : goal.returns
returns g c = λ w q first.
    reaches-failed w _ _ q c.args.progress.now c.submit.new.progress c.args.dial.link first c.in-Err.kind _ _ _ c.in_ok-submit-in-Err.ensures c.in-Err.ensures.first c.in-Err.ensures.greatest c.in-Err.ensures.grows
    c.in-Err.ensures.rises
