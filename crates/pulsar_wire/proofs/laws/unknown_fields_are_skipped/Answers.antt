use Rattle.pulsar_wire.proofs.Unknown.{row_skips}
use Rattle.pulsar_wire.proofs.laws.unknown_fields_are_skipped.Goals as goal

pub returns : goal.returns
returns c = row_skips
