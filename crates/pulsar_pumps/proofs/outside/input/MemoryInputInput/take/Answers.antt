use Rattle.std.proofs.Common.{arith}
use Rattle.std.proofs.lemmas.Grind.{common_steps}
use Rattle.pulsar_pumps.proofs.Ran.{input_gives}
use Rattle.pulsar_pumps.proofs.outside.input.MemoryInputInput.take.Goals as goal

pub returns-clause-given : goal.returns-clause-given
returns-clause-given c = input_gives c.args.self.now.bytes.items c.copy_front.new.buf c.args.self.now.given c.min-n.result (grind (arith, common_steps, c.copy_front.ensures, c.min-n.ensures, c.deref.ensures.value))
