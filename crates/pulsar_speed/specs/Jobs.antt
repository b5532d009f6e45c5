-- What jobs tally.
use Rattle.std.specs.Prelude.{ℕ, replicate}
use Rattle.pulsar_speed.specs.Samples.{blocks_of, sample_message}
use Rattle.pulsar_speed.specs.Tallies.{frames_tally, commands_tally, checksums_tally}
use Rattle.pulsar_speed.specs.declared.job.Job.{Job}
use Rattle.pulsar_speed.specs.declared.job.Work.TheVariants.{Decode, Encode, Command, Checksum}
use Rattle.pulsar_speed.specs.declared.job.Work.{Work}
use Rattle.pulsar_speed.specs.declared.tally.Tally.{Tally}

-- work that is done so many times
abbrev pub work_tally : Work → ℕ → Tally
work_tally (Decode s) k = frames_tally (blocks_of s k)
work_tally (Encode s) k = frames_tally (replicate k (sample_message s 2))
work_tally (Command s) k = commands_tally (replicate k (sample_message s 2))
work_tally Checksum k = checksums_tally k

abbrev pub job_tally : Job → Tally
job_tally job = work_tally job.work job.count
