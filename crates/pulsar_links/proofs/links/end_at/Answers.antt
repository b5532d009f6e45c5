use Rattle.std.proofs.Common.{◌∙◌, sym}
use Rattle.std.specs.BTreeMap.{get}
use Rattle.std.specs.Ordering.{nat_cmp}
use Rattle.pulsar_links.proofs.Timing.{ends_so}
use Rattle.pulsar_links.proofs.links.end_at.Goals as goal

pub returns-clause-end : goal.returns-clause-end
returns-clause-end c =
    ends_so c.args.end.now c.args.now c.in-Some.row.now (get nat_cmp c.args.live.now c.args.link) c.in_ok-address.address
    c.in_ok-notices.notices.items c.in-Some.ensures.value c.in_ok-address.ensures c.in_ok-notices.ensures.notices (sym c.is_over_by.ensures ∙ c.if-not-is_over_by.false)
