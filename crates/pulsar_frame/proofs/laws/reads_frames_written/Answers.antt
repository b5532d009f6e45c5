use Rattle.pulsar_frame.proofs.Written.{read_again}
use Rattle.pulsar_frame.proofs.laws.reads_frames_written.Goals as goal

pub returns : goal.returns
returns c = read_again
