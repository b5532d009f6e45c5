-- A message of the broker, by what is read in it.  (Pulsar binary protocol, Simple commands)
use Rattle.std.specs.Prelude.{ℕ, ℤ, Bool, false, List, [], Option, Some, None, ◌==◌, if◌then◌else◌}
use Rattle.pulsar_wire.specs.At.{flag_at, int32_at, text_at, texts_at}
use Rattle.pulsar_wire.specs.Command.{BodyValues}
use Rattle.pulsar_wire.specs.Row.{Required, Optional, Bytes, Text, Uint32, Uint64, Int32, Row, End, Plain, Embedded, Numbers, Values, spelling}
use Rattle.pulsar_wire.specs.Rows as rows
use Rattle.pulsar_wire.specs.declared.key.RequestKey.{RequestKey}
use Rattle.pulsar_frame.specs.Key.{key}
use Rattle.pulsar_frame.specs.Message.{MessageValues}
use Rattle.pulsar_frame.specs.Payload.{PayloadValues}

-- the number in field n, which may be absent
abbrev pub maybe_uint32_at : ℕ → (row : Row) → Values row → Option ℕ
maybe_uint32_at n End vs = None
maybe_uint32_at n (Plain m Optional Uint32 row) vs = if m == n then vs.0 else maybe_uint32_at n row vs.1
maybe_uint32_at n (Plain m r k row) vs = maybe_uint32_at n row vs.1
maybe_uint32_at n (Embedded m r inner row) vs = maybe_uint32_at n row vs.1
maybe_uint32_at n (Numbers m row) vs = maybe_uint32_at n row vs.1

-- the signed number in field n, which may be absent
abbrev pub maybe_int32_at : ℕ → (row : Row) → Values row → Option ℤ
maybe_int32_at n End vs = None
maybe_int32_at n (Plain m Optional Int32 row) vs = if m == n then vs.0 else maybe_int32_at n row vs.1
maybe_int32_at n (Plain m r k row) vs = maybe_int32_at n row vs.1
maybe_int32_at n (Embedded m r inner row) vs = maybe_int32_at n row vs.1
maybe_int32_at n (Numbers m row) vs = maybe_int32_at n row vs.1

-- the text in field n, which may be absent
abbrev pub maybe_text_at : ℕ → (row : Row) → Values row → Option (List ℕ)
maybe_text_at n End vs = None
maybe_text_at n (Plain m Optional Text row) vs = if m == n then vs.0 else maybe_text_at n row vs.1
maybe_text_at n (Plain m r k row) vs = maybe_text_at n row vs.1
maybe_text_at n (Embedded m r inner row) vs = maybe_text_at n row vs.1
maybe_text_at n (Numbers m row) vs = maybe_text_at n row vs.1

-- the bytes in field n, which may be absent
abbrev pub maybe_bytes_at : ℕ → (row : Row) → Values row → Option (List ℕ)
maybe_bytes_at n End vs = None
maybe_bytes_at n (Plain m Optional Bytes row) vs = if m == n then vs.0 else maybe_bytes_at n row vs.1
maybe_bytes_at n (Plain m r k row) vs = maybe_bytes_at n row vs.1
maybe_bytes_at n (Embedded m r inner row) vs = maybe_bytes_at n row vs.1
maybe_bytes_at n (Numbers m row) vs = maybe_bytes_at n row vs.1

-- the values of a body that has the fields of a send_receipt  (PulsarApi.proto, CommandSendReceipt, MessageIdData)
abbrev pub receipt_at : (row : Row) → Values row → Option (Values rows.send_receipt)
receipt_at
    (Plain a Required Uint64 (Plain b Required Uint64 (Embedded c Optional
    (Plain d Required Uint64 (Plain e Required Uint64 (Plain f Optional Int32 (Plain g Optional Int32 (Numbers h (Plain i Optional Int32 End))))))
    (Plain j Optional Uint64 End))))
    vs =
    Some vs
receipt_at row vs = None

-- a body by its number, as it is written
pub record Written : Type 0 where
  pub number : ℕ
  pub bytes : List ℕ

abbrev pub written : BodyValues → Written
written b = record { number = b.number; bytes = spelling b.row b.values }

-- Its type, its payload, its body and its key; the number and the text of the error that it tells; the topics that it names; what the answers to
-- partition_metadata and lookup_topic say; the name of a producer, with the version of its schema; and what a send_receipt says.
pub record Reply : Type 0 where
  pub kind : Option ℤ
  pub payload : Option PayloadValues
  pub body : Option Written
  pub key : Option RequestKey
  pub error : Option ℤ
  pub text : Option (List ℕ)
  pub topics : List (List ℕ)
  pub partitions : Option ℕ
  pub response : Option ℤ
  pub url : Option (List ℕ)
  pub authority : Option Bool
  pub proxy : Option Bool
  pub name : Option (List ℕ)
  pub version : Option (List ℕ)
  pub receipt : Option (Values rows.send_receipt)

-- error (14), partition_metadata_response (22) and lookup_topic_response (24) tell errors
abbrev pub error_in : BodyValues → Option ℤ
error_in b =
    if b.number == 14 then int32_at 2 b.row b.values
    else if b.number == 22 then maybe_int32_at 4 b.row b.values
    else if b.number == 24 then maybe_int32_at 6 b.row b.values
    else None

abbrev pub text_in : BodyValues → Option (List ℕ)
text_in b =
    if b.number == 14 then text_at 3 b.row b.values
    else if b.number == 22 then maybe_text_at 5 b.row b.values
    else if b.number == 24 then maybe_text_at 7 b.row b.values
    else None

-- the topics of a get_topics_of_namespace_response
abbrev pub topics_in : BodyValues → List (List ℕ)
topics_in b = if b.number == 33 then texts_at 2 b.row b.values else []

abbrev pub partitions_in : BodyValues → Option ℕ
partitions_in b = if b.number == 22 then maybe_uint32_at 1 b.row b.values else None

abbrev pub response_in : BodyValues → Option ℤ
response_in b =
    if b.number == 22 then maybe_int32_at 3 b.row b.values
    else if b.number == 24 then maybe_int32_at 3 b.row b.values
    else None

abbrev pub url_in : BodyValues → Option (List ℕ)
url_in b = if b.number == 24 then maybe_text_at 1 b.row b.values else None

abbrev pub authority_in : BodyValues → Option Bool
authority_in b = if b.number == 24 then flag_at 5 b.row b.values else None

abbrev pub proxy_in : BodyValues → Option Bool
proxy_in b = if b.number == 24 then flag_at 8 b.row b.values else None

-- of a producer_success
abbrev pub name_in : BodyValues → Option (List ℕ)
name_in b = if b.number == 17 then text_at 2 b.row b.values else None

abbrev pub version_in : BodyValues → Option (List ℕ)
version_in b = if b.number == 17 then maybe_bytes_at 4 b.row b.values else None

abbrev pub receipt_in : BodyValues → Option (Values rows.send_receipt)
receipt_in b = if b.number == 7 then receipt_at b.row b.values else None

-- what is read of a body
abbrev pub read_body : Option RequestKey → Option BodyValues → Reply
read_body k None =
    record {
      kind = None;
      payload = None;
      body = None;
      key = k;
      error = None;
      text = None;
      topics = [];
      partitions = None;
      response = None;
      url = None;
      authority = None;
      proxy = None;
      name = None;
      version = None;
      receipt = None;
    }
read_body k (Some b) =
    record {
      kind = None;
      payload = None;
      body = Some (written b);
      key = k;
      error = error_in b;
      text = text_in b;
      topics = topics_in b;
      partitions = partitions_in b;
      response = response_in b;
      url = url_in b;
      authority = authority_in b;
      proxy = proxy_in b;
      name = name_in b;
      version = version_in b;
      receipt = receipt_in b;
    }

-- with what stands beside the body
abbrev pub framed : MessageValues → Reply → Reply
framed m r = record r { kind = Some m.command.kind; payload = m.payload }

abbrev pub reply : MessageValues → Reply
reply m = framed m (read_body (key m) m.command.body)

abbrev pub is_body : ℕ → Option Written → Bool
is_body n None = false
is_body n (Some b) = b.number == n
