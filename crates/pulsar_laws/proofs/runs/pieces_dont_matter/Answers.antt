use Rattle.pulsar_laws.proofs.links.Cutting.{pieces_dont_matter_lem}
use Rattle.pulsar_laws.proofs.runs.pieces_dont_matter.Goals as goal

pub returns : goal.returns
returns c = λ o newer older l a b effects whole. pieces_dont_matter_lem o newer older l a b effects whole
