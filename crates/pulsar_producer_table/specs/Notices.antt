-- What those are told who wait at topic producers, or for the turn of a producer of many topics, where the client is stopped.
use Rattle.std.specs.Prelude.{ℕ, List, ◌++◌, map}
use Rattle.pulsar_calls.specs.Notices.{notice, stopped_one}
use Rattle.pulsar_calls.specs.declared.act.Notice.{Notice}
use Rattle.pulsar_calls.specs.declared.act.Outcome.TheVariants as outcome
use Rattle.pulsar_calls.specs.declared.act.Who.TheVariants.{Call}
use Rattle.pulsar_producer_table.specs.Multis as multi
use Rattle.pulsar_producer_table.specs.Multis.{Multis}
use Rattle.pulsar_producer_table.specs.Producers.{Producers, unsent, waiting}
use Rattle.pulsar_producer_table.specs.Takers.{who_of}

-- a call whose message is stored
abbrev pub stopped_call : (ticket : ℕ) → Notice
stopped_call t = notice (Call t) outcome.Stopped

-- those that wait for a turn, and those whose messages are not under way
abbrev pub stopped_all : Producers → List Notice
stopped_all ps = map stopped_one (waiting ps) ++ map stopped_call (unsent ps)

-- those that wait for the turn of a producer of many topics
abbrev pub stopped_takers : Multis → List Notice
stopped_takers ms = map stopped_one (map who_of (multi.waiting ms))
