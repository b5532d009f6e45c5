use Rattle.std.proofs.Common.{refl}
use Rattle.pulsar_messages.specs.Murmur.{finished, mixed, murmur3, scrambled}
use Rattle.pulsar_messages.proofs.laws.gives_known_hashes.Goals as goal

pub returns : goal.returns
unfolding murmur3 finished mixed scrambled
returns c = (refl, refl, refl, refl, refl)
