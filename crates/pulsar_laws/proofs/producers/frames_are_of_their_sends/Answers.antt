use Rattle.pulsar_laws.proofs.producers.Frames.{frames_are_of_their_sends_lem}
use Rattle.pulsar_laws.proofs.links.Queued.{queued_as_asked_lem}
use Rattle.pulsar_laws.proofs.producers.Reread.{frames_are_read_again_lem}
use Rattle.pulsar_laws.proofs.producers.frames_are_of_their_sends.Goals as goal

pub returns-clause-asked : goal.returns-clause-asked
returns-clause-asked c = λ o log t l n s name m block w e share given run h. frames_are_of_their_sends_lem o log t l n s name m block w e share given run h

pub returns-clause-queued : goal.returns-clause-queued
returns-clause-queued c = λ o log l place seat request live h. queued_as_asked_lem o log l place seat request live h

pub returns-clause-read : goal.returns-clause-read
returns-clause-read c = λ o log id l n s name m block place row behind low early run is next called answer typed.
    frames_are_read_again_lem o log id l n s name m block place row behind low early run is next called answer typed
