use Rattle.std.proofs.Common.{refl}
use Rattle.pulsar_frame.specs.Checksum.{crc32c, after_byte, after_bit}
use Rattle.pulsar_frame.proofs.checksum.laws.gives_known_values.Goals as goal

pub returns : goal.returns
unfolding crc32c after_byte after_bit
returns c = (refl, refl, refl, refl, refl, refl)
