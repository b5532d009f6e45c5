use Rattle.std.proofs.Common.{◌∙◌}
use Rattle.pulsar_links.proofs.Timing.{all_due}
use Rattle.pulsar_links.proofs.links.Links.due_parts.Goals as goal

pub returns : goal.returns
returns c =
    let links = c.args.self.now in
    c.in_ok-parts.ensures.ends
    ∙ all_due c.args.now links.started links.live c.in_ok-links.links (links.fresh c.if-self.false) c.in_ok-parts.ensures.ordered
    (λ l. c.in_ok-links.ensures l ∙ links.timed c.if-self.false l c.args.now)
