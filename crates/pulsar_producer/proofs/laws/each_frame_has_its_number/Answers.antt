use Rattle.pulsar_producer.proofs.Sends.{each_frame_has_its_number}
use Rattle.pulsar_producer.proofs.laws.each_frame_has_its_number.Goals as goal

pub returns : goal.returns
returns c = each_frame_has_its_number
