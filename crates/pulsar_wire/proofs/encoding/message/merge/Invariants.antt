use Rattle.std.proofs.Common.{◌≡◌, length}
use Rattle.pulsar_wire.specs.Merge.{merged}
use Rattle.pulsar_wire.proofs.encoding.message.merge.Given as goal

abbrev pub invariant-loop-rest : goal.invariant-loop-rest
invariant-loop-rest g l = merged g.M.Message.shape (g.M.Message.values l.message) l.rest ≡ merged g.M.Message.shape (g.M.Message.values l.fn.message) l.bytes

abbrev pub decreases-loop-rest : goal.decreases-loop-rest
decreases-loop-rest g l = length l.rest
