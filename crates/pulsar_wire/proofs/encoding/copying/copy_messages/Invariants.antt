use Rattle.std.proofs.Common.{◌≡◌, map, take}
use Rattle.pulsar_wire.proofs.encoding.copying.copy_messages.Given as goal

abbrev pub invariant-loop-message : goal.invariant-loop-message
invariant-loop-message g l = map g.M.Message.values l.copies.items ≡ map g.M.Message.values (take l.message-index l.messages.items)
