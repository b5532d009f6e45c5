use Rattle.std.proofs.Common.{◌∙◌, ap, sym}
use Rattle.pulsar_producer_table.specs.KeptMultis.{multis_of}
use Rattle.pulsar_producer_table.specs.Multis.{at}
use Rattle.pulsar_producer_table.proofs.Made.{made_is}
use Rattle.pulsar_producer_table.proofs.multis.Multis.at.Goals as goal

pub returns-in-Made : goal.returns-in-Made
returns-in-Made c = c.get.ensures.value ∙ made_is c.in-Made.ticket _ ∙ sym (ap (λ m. at m (multis_of c.args.self.now)) c.in-Made.is)
