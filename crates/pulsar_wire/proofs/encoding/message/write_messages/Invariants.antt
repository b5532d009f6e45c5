use Rattle.std.proofs.Common.{map, take}
use Rattle.std.specs.List.{flat_map, AllByRecursion}
use Rattle.pulsar_wire.specs.Fits.{InRange}
use Rattle.pulsar_wire.specs.Row.{message_entry, spelling}
use Rattle.pulsar_wire.specs.Sink.{Appends}
use Rattle.pulsar_wire.proofs.encoding.message.write_messages.Given as goal

abbrev pub invariant-loop-message : goal.invariant-loop-message
invariant-loop-message g l =
    Appends g.S.Sink.Holds l.fn.out l.out (flat_map (λ x. message_entry l.number (spelling g.M.Message.shape x)) (map g.M.Message.values (take l.message-index l.messages)))
    × AllByRecursion (InRange g.M.Message.shape) (map g.M.Message.values (take l.message-index l.messages))
