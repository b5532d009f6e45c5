-- The commands that a broker writes. Each field that is not named here is absent.  (PulsarApi.proto)
use Rattle.std.specs.Prelude.{ℕ, pos, List, [], ◌++◌, Option, Some, None, codes, decimal}
use Rattle.std.specs.Option.{unwrap_or}
use Rattle.pulsar_wire.specs.Row.{Row, Values, ◌&◌}
use Rattle.pulsar_wire.specs.Rows.{connected, pong, success, error, partition_metadata_response, lookup_topic_response, producer_success, send_receipt, message, message_id}
use Rattle.pulsar_wire.specs.Command.{BodyValues, with_kind}
use Rattle.pulsar_frame.specs.Message.{MessageValues}
use Rattle.pulsar_frame.specs.Payload.{PayloadValues}

abbrev pub body : ℕ → (row : Row) → Values row → BodyValues
body n row vs = record { number = n; row = row; values = vs }

-- a command without a payload
abbrev pub alone : BodyValues → MessageValues
alone b = record { command = with_kind b; payload = None }

-- connected, of a broker that does not say its version
abbrev pub greeting : MessageValues
greeting = alone (body 3 connected ([] & None & None & tt))

abbrev pub ponged : MessageValues
ponged = alone (body 19 pong tt)

abbrev pub succeeded : (request : ℕ) → MessageValues
succeeded request = alone (body 13 success (request & None & tt))

-- a request that this broker does not serve: 0 is UnknownError
abbrev pub unsupported : (request : ℕ) → MessageValues
unsupported request = alone (body 14 error (request & pos 0 & codes "unsupported" & tt))

-- no topic has partitions: 0 is Success
abbrev pub not_partitioned : (request : ℕ) → MessageValues
not_partitioned request = alone (body 22 partition_metadata_response (Some 0 & request & Some (pos 0) & None & None & tt))

-- each topic is at this broker: 1 is Connect
abbrev pub found_here : (url : List ℕ) (request : ℕ) → MessageValues
found_here url request =
    alone (body 24 lookup_topic_response (Some url & None & Some (pos 1) & request & None & None & None & None & tt))

-- a producer is made: one without a name is called p and its number
abbrev pub producer_name : (producer : ℕ) → Option (List ℕ) → List ℕ
producer_name producer name = unwrap_or name (codes "p" ++ decimal producer)

abbrev pub producer_made : (producer request : ℕ) → Option (List ℕ) → MessageValues
producer_made producer request name =
    alone (body 17 producer_success (request & producer_name producer name & None & None & None & None & tt))

-- a message of a topic by its place: each topic is one ledger, 0
abbrev pub id_at : (place : ℕ) → Values message_id
id_at place = 0 & place & None & None & [] & None & tt

abbrev pub receipt : (producer sequence place : ℕ) → MessageValues
receipt producer sequence place = alone (body 7 send_receipt (producer & sequence & Some (id_at place) & None & tt))

-- the message of this place, for a consumer
abbrev pub delivery : (consumer place : ℕ) → PayloadValues → MessageValues
delivery consumer place payload =
    record { command = with_kind (body 9 message (consumer & id_at place & None & [] & tt)); payload = Some payload }
