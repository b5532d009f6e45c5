-- What a run counts.
use Rattle.std.specs.Prelude.{◌≡◌, ℕ, ◌+◌, ◌*◌, List, length, Option, Some, None}
use Rattle.std.specs.List.{flat_map, sum_by}
use Rattle.pulsar_wire.specs.Command.{command_spelling}
use Rattle.pulsar_wire.specs.declared.key.RequestKey.{RequestKey}
use Rattle.pulsar_wire.specs.declared.key.RequestKey.TheVariants.{RequestId, ProducerSend, Consumer, CloseConsumer, AuthChallenge}
use Rattle.pulsar_frame.specs.Checksum.{crc32c}
use Rattle.pulsar_frame.specs.Message.{MessageValues}
use Rattle.pulsar_frame.specs.Key.{key}
use Rattle.pulsar_speed.specs.Samples.{frames_of, buffer}
use Rattle.pulsar_speed.specs.declared.tally.Tally.{Tally}

abbrev pub last_number : Option RequestKey → ℕ
last_number (Some (RequestId n)) = n
last_number (Some (ProducerSend p n)) = n
last_number (Some (Consumer n)) = n
last_number (Some (CloseConsumer c n)) = n
last_number (Some AuthChallenge) = 0
last_number None = 0

-- the last number of a message's key, or 0
unfoldable pub number_in : MessageValues → ℕ
number_in m = last_number (key m)

-- what is counted of the frames of these messages
abbrev pub frames_tally : List MessageValues → Tally
frames_tally ms = record { count = length ms; bytes = length (frames_of ms); sum = sum_by number_in ms }

-- what is counted of their commands alone
abbrev pub commands_tally : List MessageValues → Tally
commands_tally ms = record (frames_tally ms) { bytes = length (flat_map (λ m. command_spelling m.command) ms) }

-- what is counted of the buffer's checksum, taken so many times
abbrev pub checksums_tally : ℕ → Tally
checksums_tally k = record { count = k; bytes = k * length buffer; sum = k * crc32c buffer }

-- one more was counted, with its number
abbrev pub CountsOne : Tally → Tally → ℕ → Type 0
CountsOne old new n = (new.count ≡ old.count + 1) × (new.sum ≡ old.sum + n) × (new.bytes ≡ old.bytes)

-- these messages were counted, without their bytes
abbrev pub Counts : Tally → Tally → List MessageValues → Type 0
Counts old new ms = (new.count ≡ old.count + length ms) × (new.sum ≡ old.sum + sum_by number_in ms)
