-- What consumers are told: of what they hear, of what is due, and of an end.  (Pulsar binary protocol, Consumer)
use Rattle.std.specs.Prelude.{ℕ, List, ◌++◌, map, Option}
use Rattle.std.specs.List.{flat_map}
use Rattle.std.specs.Option.{option_map, option_to_list}
use Rattle.url.specs.Parts.{Parts}
use Rattle.pulsar_wire.specs.Failures.{Fault}
use Rattle.pulsar_consumer.specs.Topic as reader
use Rattle.pulsar_calls.specs.declared.act.Arrival.{Arrival}
use Rattle.pulsar_calls.specs.declared.act.Notice.{Notice}
use Rattle.pulsar_calls.specs.declared.act.Outcome.TheVariants as outcome
use Rattle.pulsar_calls.specs.declared.act.Who.{Who}
use Rattle.pulsar_calls.specs.declared.act.Word.{Word}
use Rattle.pulsar_calls.specs.declared.act.Word.TheVariants as word
use Rattle.pulsar_calls.specs.Notices.{notice, stopped_one}
use Rattle.pulsar_consumer_table.specs.Consumers as consumer
use Rattle.pulsar_consumer_table.specs.Consumers.{Member}

-- a consumer is told a word
abbrev pub word_notice : (ticket : ℕ) → Member → Word → Notice
word_notice t m w = notice (consumer.who_of t m) (outcome.Word w)

abbrev pub word_to : (ticket : ℕ) → Member → Option Word → List Notice
word_to t m w = option_to_list (option_map (word_notice t m) w)

-- a flow of it is due
abbrev pub due_to : (ticket : ℕ) → Member → List Notice
due_to t m = word_to t m (consumer.word_if (reader.is_due m.seen) word.Due)

abbrev pub due_at : (ticket : ℕ) → Option Member → List Notice
due_at t row = flat_map (due_to t) (option_to_list row)

abbrev pub polled_due : (now ticket : ℕ) → Option Member → List Notice
polled_due now t row = due_at t (option_map (consumer.member_after (reader.Polls now)) row)

-- those who wait for the link of a consumer look for it once more
abbrev pub again : Who → Notice
again who = notice who (outcome.Word word.Again)

abbrev pub again_at : Option Member → List Notice
again_at row = map again (consumer.seekers_at row)

abbrev pub revived_at : (link : ℕ) → Option Parts → (ticket : ℕ) → Option Member → List Notice
revived_at l url t row = again_at row ++ due_at t (option_map (consumer.revived l url) row)

-- one that hears a frame, or loses its subscription with its link
abbrev pub heard_at : (link : ℕ) → Arrival → (ticket : ℕ) → Member → List Notice
heard_at l a t m = word_to t m (consumer.word_of l a m)

abbrev pub lost_at : (link : ℕ) → Option Fault → (ticket : ℕ) → Member → List Notice
lost_at l cause t m = word_to t m (consumer.word_of_loss l cause m)

-- those who wait for the link of a consumer are told that the client is stopped
abbrev pub stopped_seekers : (ticket : ℕ) → Member → List Notice
stopped_seekers t m = map stopped_one m.seekers
