use Rattle.pulsar_frame.proofs.Keys.{bears-key, key-bears}
use Rattle.pulsar_frame.proofs.laws.bears_its_key.Goals as goal

pub returns : goal.returns
returns c = λ m k. (bears-key m k, key-bears m k)
