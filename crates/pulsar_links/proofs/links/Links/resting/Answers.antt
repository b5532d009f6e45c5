use Rattle.std.proofs.Common.{◌∙◌}
use Rattle.pulsar_links.specs.LinkRules.{resting_at}
use Rattle.pulsar_links.proofs.Timing.{all_live}
use Rattle.pulsar_links.proofs.links.Links.resting.Goals as goal

pub returns : goal.returns
returns c =
    let links = c.args.self.now in
    c.in_ok-links.ensures.links
    ∙ all_live (resting_at c.args.now c.args.most) links.started links.live (links.fresh c.if-self.false) c.in_ok-links.ensures.ordered
