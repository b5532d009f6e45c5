use Rattle.std.proofs.Common.{◌∙◌, ◌++◌, ap}
use Rattle.std.proofs.lemmas.Map.Iter.{iter_end}
use Rattle.std.specs.List.{flat_map}
use Rattle.std.specs.Map.Iter.{deref_pair}
use Rattle.pulsar_consumer_table.specs.KeptConsumers.{member_in}
use Rattle.pulsar_consumer_table.specs.Notices.{stopped_seekers}
use Rattle.pulsar_consumer_table.proofs.Rows.{all_give}
use Rattle.pulsar_consumer_table.proofs.hearing.stop_seekers.Goals as goal

pub returns : goal.returns
returns c =
    let rows = c.args.rows.now in
    let gives = c.into_iter-row-iterator.ensures.into_iter_gives in
    let whole = iter_end deref_pair rows.entries c.loop-row.yielded _ _ _ _ gives.0 c.loop-row.yielded_by c.in-None.is c.next.ensures.steps in
    c.loop-row.invariant
    ∙ ap (λ ns. c.args.notices.now.items ++ ns) (ap (flat_map (λ e. stopped_seekers e.0 (member_in e.1))) whole.0 ∙ all_give stopped_seekers rows gives.5)
