use Rattle.std.proofs.Common.{◌∙◌, ap, sym}
use Rattle.pulsar_client.specs.Client.{options}
use Rattle.pulsar_client.proofs.pulsar.Pulsar.options.Goals as goal

pub returns-clause-chosen : goal.returns-clause-chosen
returns-clause-chosen g c = λ o h taken s. s.made ∙ ap (options _) (sym c.deref.ensures)
