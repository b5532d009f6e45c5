use Rattle.std.proofs.Common.{◌∙◌, ◌==◌, ap, cond, Some}
use Rattle.std.specs.BTreeMap.{get}
use Rattle.std.specs.Ordering.{nat_cmp}
use Rattle.pulsar_links.specs.Kept.{live_in}
use Rattle.pulsar_links.proofs.Timing.{seats}
use Rattle.pulsar_links.proofs.links.put.Goals as goal

pub returns : goal.returns
returns c = λ l.
    seats l c.args.link (Some c.new.result) (get nat_cmp c.args.live.now l) (get nat_cmp c.insert.new.self l) (c.in_ok-insert.ensures.updates.0 l)
    ∙ ap (λ seat. cond (l == c.args.link) (Some seat) (live_in c.args.live.now l)) c.new.ensures
