use Rattle.std.proofs.Common.{◌∙◌, ap}
use Rattle.std.specs.BTreeMap.{insert_entry}
use Rattle.std.specs.Ordering.{nat_cmp}
use Rattle.pulsar_producer_table.specs.KeptMultis.{multis_of}
use Rattle.pulsar_producer_table.proofs.multis.Multis.make.Goals as goal

pub returns : goal.returns
returns c =
    let ms = multis_of c.args.self.now in
    λ i. record ms { made = (c.in_ok-insert.ensures.entries ∙ ap (insert_entry nat_cmp ms.made c.args.ticket) c.new-made.ensures) i }
