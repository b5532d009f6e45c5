use Rattle.pulsar_wire.specs.Row.{none_of}
use Rattle.pulsar_wire.specs.Shown.{shown}
use Rattle.pulsar_wire.proofs.Merging.{part-required, Leaves-same}
use Rattle.pulsar_wire.proofs.encoding.message.put_required.Goals as goal

pub returns : goal.returns
returns g c = Leaves-same c.merge.result _ _ _ (part-required g.M.Message.shape (none_of g.M.Message.shape) (g.M.Message.values c.args.slot.now) (shown c.args.value) c.in-Some.bytes.now c.in-Some.ensures) c.merge.ensures
