use Rattle.pulsar_laws.proofs.links.Unread.{frames_are_cut_lem}
use Rattle.pulsar_laws.proofs.runs.frames_are_cut.Goals as goal

pub returns : goal.returns
returns c = λ o log l seat run rests live. frames_are_cut_lem o log l seat run rests live
