use Rattle.std.proofs.Common.{◌∙◌}
use Rattle.pulsar_links.specs.LinkRules.{stop_act}
use Rattle.pulsar_links.proofs.Timing.{all_live}
use Rattle.pulsar_links.proofs.links.Links.stop_acts.Goals as goal

pub returns : goal.returns
returns c =
    let links = c.args.self.now in
    c.in_ok-acts.ensures.ends ∙ all_live stop_act links.started links.live (links.fresh c.if-self.false) c.in_ok-acts.ensures.ordered
