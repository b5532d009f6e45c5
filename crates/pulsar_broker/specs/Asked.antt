-- What a command asks of a broker.  (Pulsar binary protocol, Command types; PulsarApi.proto)
use Rattle.std.specs.Prelude.{ℕ, ℤ, List, Option, Some, None, ◌==◌, if◌then◌else◌}
use Rattle.pulsar_wire.specs.Field.{◌>>=◌}
use Rattle.pulsar_wire.specs.Row.{Required, Optional, Text, Uint32, Int32, Row, End, Plain, Embedded, Numbers, Values}
use Rattle.pulsar_wire.specs.At.{text_at, uint64_at}
use Rattle.pulsar_wire.specs.Command.{BodyValues}
use Rattle.pulsar_frame.specs.Key.{KeyFields, RequestNumber, SendNumbers, ConsumerNumber, CloseNumbers, NoNumber, key_fields}

-- WHAT STANDS IN A FIELD

-- the text in field n, which may be absent
abbrev pub maybe_text_at : ℕ → (row : Row) → Values row → Option (List ℕ)
maybe_text_at n End vs = None
maybe_text_at n (Plain m Optional Text row) vs = if m == n then vs.0 else maybe_text_at n row vs.1
maybe_text_at n (Plain m r k row) vs = maybe_text_at n row vs.1
maybe_text_at n (Embedded m r inner row) vs = maybe_text_at n row vs.1
maybe_text_at n (Numbers m row) vs = maybe_text_at n row vs.1

-- the signed number in field n, which may be absent
abbrev pub maybe_int32_at : ℕ → (row : Row) → Values row → Option ℤ
maybe_int32_at n End vs = None
maybe_int32_at n (Plain m Optional Int32 row) vs = if m == n then vs.0 else maybe_int32_at n row vs.1
maybe_int32_at n (Plain m r k row) vs = maybe_int32_at n row vs.1
maybe_int32_at n (Embedded m r inner row) vs = maybe_int32_at n row vs.1
maybe_int32_at n (Numbers m row) vs = maybe_int32_at n row vs.1

-- the small number in field n, which is required
abbrev pub uint32_at : ℕ → (row : Row) → Values row → Option ℕ
uint32_at n End vs = None
uint32_at n (Plain m Required Uint32 row) vs = if m == n then Some vs.0 else uint32_at n row vs.1
uint32_at n (Plain m r k row) vs = uint32_at n row vs.1
uint32_at n (Embedded m r inner row) vs = uint32_at n row vs.1
uint32_at n (Numbers m row) vs = uint32_at n row vs.1

-- WHAT IS ASKED

-- A number that stands in a command names a producer, a consumer or a request of its connection.
pub data Asked : Type 0 where
  Connects : Asked
  Pings : Asked
  CountsPartitions : (request : ℕ) → Asked
  LooksUp : (request : ℕ) → Asked
  MakesProducer : (topic : List ℕ) (producer request : ℕ) (name : Option (List ℕ)) → Asked
  Sends : (producer sequence : ℕ) → Asked
  Subscribes : (topic subscription : List ℕ) (consumer request : ℕ) (position : Option ℤ) → Asked
  Grants : (consumer permits : ℕ) → Asked
  Acknowledges : Asked
  ClosesProducer : (producer request : ℕ) → Asked
  ClosesConsumer : (consumer request : ℕ) → Asked
  -- another command with a request number
  AsksElse : (request : ℕ) → Asked
  -- another one, without it
  SaysElse : Asked

abbrev pub makes_producer : BodyValues → Option Asked
makes_producer b = do
  topic ← text_at 1 b.row b.values
  producer ← uint64_at 2 b.row b.values
  request ← uint64_at 3 b.row b.values
  Some (MakesProducer topic producer request (maybe_text_at 4 b.row b.values))

abbrev pub sends : BodyValues → Option Asked
sends b = do
  producer ← uint64_at 1 b.row b.values
  sequence ← uint64_at 2 b.row b.values
  Some (Sends producer sequence)

abbrev pub subscribes : BodyValues → Option Asked
subscribes b = do
  topic ← text_at 1 b.row b.values
  subscription ← text_at 2 b.row b.values
  consumer ← uint64_at 4 b.row b.values
  request ← uint64_at 5 b.row b.values
  Some (Subscribes topic subscription consumer request (maybe_int32_at 13 b.row b.values))

abbrev pub grants : BodyValues → Option Asked
grants b = do
  consumer ← uint64_at 1 b.row b.values
  permits ← uint32_at 2 b.row b.values
  Some (Grants consumer permits)

-- a command that closes what has the number in field 1, with the request number in field 2
abbrev pub closes : (ℕ → ℕ → Asked) → BodyValues → Option Asked
closes what b = do
  number ← uint64_at 1 b.row b.values
  request ← uint64_at 2 b.row b.values
  Some (what number request)

-- a command whose request number stands in field 2
abbrev pub asks : (ℕ → Asked) → BodyValues → Option Asked
asks what b = uint64_at 2 b.row b.values >>= λ request. Some (what request)

-- the field of a request number, where a body has one
abbrev pub request_field : Option KeyFields → Option ℕ
request_field None = None
request_field (Some (RequestNumber field)) = Some field
request_field (Some (SendNumbers producer sequence)) = None
request_field (Some (ConsumerNumber consumer)) = None
request_field (Some (CloseNumbers consumer request)) = Some request
request_field (Some NoNumber) = None

-- each other command, answers of a broker among them, by whether it bears a request number
abbrev pub else_by : Option ℕ → BodyValues → Option Asked
else_by None b = Some SaysElse
else_by (Some field) b = uint64_at field b.row b.values >>= λ request. Some (AsksElse request)

-- by the number of the body
abbrev pub asked_by : BodyValues → Option Asked
asked_by b =
    if b.number == 2 then Some Connects
    else if b.number == 4 then subscribes b
    else if b.number == 5 then makes_producer b
    else if b.number == 6 then sends b
    else if b.number == 10 then Some Acknowledges
    else if b.number == 11 then grants b
    else if b.number == 15 then closes ClosesProducer b
    else if b.number == 16 then closes ClosesConsumer b
    else if b.number == 18 then Some Pings
    else if b.number == 21 then asks CountsPartitions b
    else if b.number == 23 then asks LooksUp b
    else else_by (request_field (key_fields b.number)) b

abbrev pub or_else : Option Asked → Asked
or_else None = SaysElse
or_else (Some a) = a

-- what a command asks; one without a known body says nothing to a broker
abbrev pub asked : Option BodyValues → Asked
asked None = SaysElse
asked (Some b) = or_else (asked_by b)
