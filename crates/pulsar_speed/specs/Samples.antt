-- The messages that are read and written, and their frames.
use Rattle.std.specs.Prelude.{◌≡◌, ℕ, zero, suc, ◌/◌, ◌%◌, List, [], ◌++◌, map, replicate, codes, Option, Some, None}
use Rattle.std.specs.List.{flat_map, range_with_len}
use Rattle.pulsar_wire.specs.Command.{BodyValues, with_kind}
use Rattle.pulsar_wire.specs.Row.{Values, none_of, ◌&◌}
use Rattle.pulsar_wire.specs.Rows.{message_id, send_receipt, message, message_metadata}
use Rattle.pulsar_frame.specs.Message.{MessageValues}
use Rattle.pulsar_frame.specs.Payload.{PayloadValues}
use Rattle.pulsar_frame.specs.Frame.{frame_bytes, cut, left}
use Rattle.pulsar_speed.specs.declared.sample.Sample.{Sample}
use Rattle.pulsar_speed.specs.declared.sample.Sample.TheVariants.{Receipt, Payload}

-- the id of entry n of ledger 1
abbrev pub id : ℕ → Values message_id
id n = 1 & n & None & None & [] & None & tt

-- Body n of a kind. A receipt: of producer 1, for its message n, with an id. The others: for consumer 1, entry n, delivered
-- for the first time.
abbrev pub sample_body : Sample → ℕ → BodyValues
sample_body Receipt n = record { number = 7; row = send_receipt; values = 1 & n & Some (id 2) & None & tt }
sample_body _ n = record { number = 9; row = message; values = 1 & id n & Some 0 & [] & tt }

-- of the producer `speed`, its message n, published at a time of 2023. Nothing else is said.
abbrev pub sample_metadata : ℕ → Values message_metadata
sample_metadata n = codes "speed" & n & 1700000000000 & (none_of message_metadata).1.1.1

-- the byte 7, so many times
unfoldable pub sevens : ℕ → List ℕ
sevens n = replicate n 7

-- what a payload has
abbrev pub sample_payload : Sample → ℕ → Option PayloadValues
sample_payload Payload n = Some (record { metadata = sample_metadata n; bytes = sevens 1024 })
sample_payload _ n = None

-- message n of a kind
unfoldable pub sample_message : Sample → ℕ → MessageValues
sample_message s n = record { command = with_kind (sample_body s n); payload = sample_payload s n }

-- the first messages of a kind, from number 2 on
unfoldable pub first_of : Sample → ℕ → List MessageValues
first_of s k = map (sample_message s) (range_with_len 2 k)

-- messages so many times
abbrev pub times : ℕ → List MessageValues → List MessageValues
times zero ms = []
times (suc k) ms = times k ms ++ ms

-- So many messages, as they are read: block by block, each of the first 4096 messages but for the last, which has fewer.
unfoldable pub blocks_of : Sample → ℕ → List MessageValues
blocks_of s k = times (k / 4096) (first_of s 4096) ++ first_of s (k % 4096)

-- their frames, one behind the other
abbrev pub frames_of : List MessageValues → List ℕ
frames_of ms = flat_map frame_bytes ms

-- the bytes are the frames of these messages, and are read as these
abbrev pub AreFrames : List MessageValues → List ℕ → Type 0
AreFrames ms bytes = (bytes ≡ frames_of ms) × (cut bytes ≡ ms) × (left bytes ≡ [])

-- what checksums are of
abbrev pub buffer : List ℕ
buffer = sevens 65536
