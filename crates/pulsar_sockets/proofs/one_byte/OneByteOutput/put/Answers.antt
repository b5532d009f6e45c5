use Rattle.pulsar_sockets.proofs.Fronts.{grows-front}
use Rattle.pulsar_sockets.proofs.one_byte.OneByteOutput.put.Goals as goal

pub returns-clause-taken : goal.returns-clause-taken
returns-clause-taken g c = grows-front c.put.result c.min.result c.args.bytes.now (g.O.Output.taken c.args.self.now.output) (g.O.Output.taken c.put.new.self) c.put.ensures.within c.put.ensures.taken
