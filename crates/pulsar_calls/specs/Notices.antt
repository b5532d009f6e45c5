-- What those that have plans are told.
use Rattle.pulsar_calls.specs.declared.act.Notice.{Notice}
use Rattle.pulsar_calls.specs.declared.act.Outcome.{Outcome}
use Rattle.pulsar_calls.specs.declared.act.Outcome.TheVariants as outcome
use Rattle.pulsar_calls.specs.declared.act.Who.{Who}

-- one is told an outcome: among those whom a cause serves, or at once
abbrev pub notice : Who → Outcome → Notice
notice who o = record { who = who; outcome = o }

-- one that waits is told that the client is stopped
abbrev pub stopped_one : Who → Notice
stopped_one who = notice who outcome.Stopped
