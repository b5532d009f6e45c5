-- Eleven small runs, by their histories, oldest step first. Each is good.
use Rattle.std.specs.Prelude.{◌≡◌, ℕ, true, false, List, [], ◌∷◌, ◌++◌, reverse, codes, Some, None}
use Rattle.url.specs.declared.host.Host.TheVariants.{Domain}
use Rattle.pulsar_addresses.specs.Address.{Place}
use Rattle.pulsar_addresses.specs.Backoff.{default_connection_retry, default_operation_retry}
use Rattle.pulsar_wire.specs.declared.error.IoKind.TheVariants.{ConnectionRefused, Other, TimedOut}
use Rattle.pulsar_wire.specs.declared.commands.topics.Mode.TheVariants as modes
use Rattle.pulsar_wire.specs.declared.commands.enumerations.SubType.TheVariants.{Exclusive}
use Rattle.pulsar_frame.specs.Frame.{frame_bytes}
use Rattle.pulsar_messages.specs.Content.{ProducerMessageValues, empty_consumer_options, empty_message, empty_producer_options}
use Rattle.pulsar_messages.specs.Messages.{connect_command}
use Rattle.pulsar_messages.specs.Words.{Words, GetTopicsOfNamespace, LookupTopic, Subscribe}
use Rattle.pulsar_outgoing.specs.Wanted.{ProducerWanted}
use Rattle.pulsar_wire.specs.Failures.{Io, Canceled, Disconnected, Shutdown}
use Rattle.pulsar_session.specs.Link.{bare, message_of}
use Rattle.pulsar_addresses.specs.Address.{base_in}
use Rattle.pulsar_calls.specs.declared.effect.Settlement.TheVariants as settlement
use Rattle.pulsar_calls.specs.Content.{Heard, Called, Build, Stop, Topics, Lookup, Producer, Send, Raw, Opened, FailedToOpen, Bytes, Drain, Ticked, Poll, Shown, Connect, Queued, Write, Retry, Settles, Ends, Close, Hands, FindsNothing, Done, Names, Address, Receipt, Replies}
use Rattle.pulsar_plans.specs.Plan.{failed}
use Rattle.pulsar_acts.specs.Run.{Good}
use Rattle.pulsar_calls.specs.Steps.{Step}
use Rattle.pulsar_machine.specs.Options.{Chosen, Options}

-- the host and the port of the service
abbrev pub local_host : List ℕ
local_host = codes "127.0.0.1"

abbrev pub local_port : ℕ
local_port = 6650

-- the address of the service: that of the URL pulsar://127.0.0.1:6650
abbrev pub local : Place
local =
    record {
      url =
          record {
            scheme = codes "pulsar";
            username = [];
            password = [];
            host = Some (Domain local_host);
            port = Some local_port;
            path = [];
            query = None;
            fragment = None;
          };
      broker_url = codes "127.0.0.1:6650";
      proxy = false;
    }

abbrev pub LocalIsKnown : Type 0
LocalIsKnown = base_in (codes "pulsar://127.0.0.1:6650") ≡ Some local

-- the options, with this address and room for so many frames: requests are numbered from 0, at moment 0, and are due after half a minute
abbrev pub chosen : (outbound : ℕ) → Chosen
chosen outbound =
    record {
      base = Some local;
      auth = None;
      connection = record default_connection_retry { connection_timeout = 30000 };
      operation = default_operation_retry;
      outbound = outbound;
      seed = 0;
      first_number = 0;
      now = 0;
    }

-- and no policies
abbrev pub options : (outbound : ℕ) → Options
options outbound = record { chosen = chosen outbound; policies = [] }

-- an event with its effects
abbrev pub step_of : Heard → List Shown → Step
step_of event effects = record { event = event; effects = effects }

-- the frame that a client sends first
abbrev pub greeting_frame : List ℕ
greeting_frame = frame_bytes (bare (connect_command None None))

-- and that of a request, which no payload follows
abbrev pub frame_of : (request : ℕ) → Words → List ℕ
frame_of request words = frame_bytes (message_of request 0 words)

-- a frame of the broker: connected, of a server of version p
abbrev pub connected : List ℕ
connected = 0 ∷ 0 ∷ 0 ∷ 11 ∷ 0 ∷ 0 ∷ 0 ∷ 7 ∷ 8 ∷ 3 ∷ 26 ∷ 3 ∷ 10 ∷ 1 ∷ 112 ∷ []

-- a frame of the broker: the topics of a request, which are t alone
abbrev pub topics_reply : (request : ℕ) → List ℕ
topics_reply n = 0 ∷ 0 ∷ 0 ∷ 14 ∷ 0 ∷ 0 ∷ 0 ∷ 10 ∷ 8 ∷ 33 ∷ 138 ∷ 2 ∷ 5 ∷ 8 ∷ n ∷ 18 ∷ 1 ∷ 116 ∷ []

-- a call asks for topics, and its request is queued
abbrev pub asks_topics : Heard
asks_topics = Called (Topics (codes "n") modes.All)

abbrev pub topics_frame : (request : ℕ) → List ℕ
topics_frame n = frame_of n (GetTopicsOfNamespace (codes "n") modes.All)

-- the first steps: a call builds the client
abbrev pub builds : List Step
builds =
    step_of (Called Build) (Connect 0 local_host local_port ∷ [])
    ∷ step_of (Opened 0) (Queued 0 0 greeting_frame ∷ [])
    ∷ step_of (Drain 0 8) (Write 0 greeting_frame ∷ [])
    ∷ step_of (Bytes 0 connected) (Ends 0 Done ∷ [])
    ∷ []

-- a request is answered by the frame that bears its key
abbrev pub request_is_answered : List Step
request_is_answered =
    builds ++ (step_of asks_topics (Queued 0 1 (topics_frame 0) ∷ [])
    ∷ step_of (Bytes 0 (topics_reply 0)) (Settles 0 1 settlement.Reply ∷ Ends 1 (Names (codes "t" ∷ [])) ∷ [])
    ∷ [])

-- a reply that comes before its request settles nothing: the request waits
abbrev pub reply_comes_early : List Step
reply_comes_early =
    builds ++ (step_of (Bytes 0 (topics_reply 0)) []
    ∷ step_of asks_topics (Queued 0 1 (topics_frame 0) ∷ [])
    ∷ [])

-- an attempt fails for which two calls wait: the one that started it is told why, and the other that it is canceled
abbrev pub attempt_fails : List Step
attempt_fails =
    step_of (Called Build) (Connect 0 local_host local_port ∷ [])
    ∷ step_of (Called Build) []
    ∷ step_of (Opened 0) (Queued 0 0 greeting_frame ∷ [])
    ∷ step_of (Bytes 0 (topics_reply 0)) (Ends 0 (failed (Io Other)) ∷ Ends 1 (failed Canceled) ∷ Close 0 ∷ [])
    ∷ []

-- what subscribes to topic t, as consumer 0
abbrev pub subscribes : Words
subscribes = Subscribe (codes "t") (codes "s") Exclusive 0 None empty_consumer_options

-- a frame of the broker: success, for request 0
abbrev pub success : List ℕ
success = 0 ∷ 0 ∷ 0 ∷ 10 ∷ 0 ∷ 0 ∷ 0 ∷ 6 ∷ 8 ∷ 13 ∷ 106 ∷ 2 ∷ 8 ∷ 0 ∷ []

-- what is said of a message: its producer, its number there and the time of its sending
abbrev pub metadata : List ℕ
metadata = 10 ∷ 14 ∷ (codes "standalone-0-3" ++ 16 ∷ 8 ∷ 24 ∷ 190 ∷ 192 ∷ 252 ∷ 132 ∷ 210 ∷ 44 ∷ [])

-- a frame of the broker: the message of ledger 1 and entry 2, for consumer 0
abbrev pub message_frame : List ℕ
message_frame =
    0 ∷ 0 ∷ 0 ∷ 65 ∷ 0 ∷ 0 ∷ 0 ∷ 12 ∷ 8 ∷ 9 ∷ 74 ∷ 8 ∷ 8 ∷ 0 ∷ 18 ∷ 4
    ∷ 8 ∷ 1 ∷ 16 ∷ 2 ∷ 14 ∷ 1 ∷ 66 ∷ 131 ∷ 84 ∷ 181 ∷ 0 ∷ 0 ∷ 0 ∷ 25
    ∷ (metadata ++ codes "hello-pulsar-8")

-- a message comes to a consumer, and its polls give it once
abbrev pub consumer_is_polled : List Step
consumer_is_polled =
    builds ++ (step_of (Called (Raw 0 subscribes)) (Queued 0 1 (frame_of 0 subscribes) ∷ [])
    ∷ step_of (Bytes 0 success) (Settles 0 1 settlement.Reply ∷ Ends 1 (Replies (record { number = 13; bytes = 8 ∷ 0 ∷ [] } ∷ [])) ∷ [])
    ∷ step_of (Bytes 0 message_frame) []
    ∷ step_of (Poll 1) (Hands 1 (codes "t") (8 ∷ 1 ∷ 16 ∷ 2 ∷ []) None metadata (codes "hello-pulsar-8") ∷ [])
    ∷ step_of (Poll 1) (FindsNothing 1 ∷ [])
    ∷ [])

-- The deadline of a request comes, and ends its link: the request timed out, and the one that was asked for later is lost.
abbrev pub deadline_comes : List Step
deadline_comes =
    builds ++ (step_of (Ticked 1000) []
    ∷ step_of asks_topics (Queued 0 1 (topics_frame 0) ∷ [])
    ∷ step_of (Ticked 2000) []
    ∷ step_of asks_topics (Queued 0 2 (topics_frame 1) ∷ [])
    ∷ step_of (Ticked 30999) []
    ∷ step_of (Ticked 31000)
    (Settles 0 1 settlement.TimedOut ∷ Settles 0 2 settlement.Disconnected ∷ Ends 1 (failed (Io TimedOut)) ∷ Ends 2 (failed Disconnected) ∷ Close 0 ∷ [])
    ∷ [])

-- with room for one frame: the second stands in the line, and is queued where the first is written; then it is answered
abbrev pub line_moves_up : List Step
line_moves_up =
    builds ++ (step_of asks_topics (Queued 0 1 (topics_frame 0) ∷ [])
    ∷ step_of asks_topics []
    ∷ step_of (Drain 0 1) (Write 0 (topics_frame 0) ∷ Queued 0 2 (topics_frame 1) ∷ [])
    ∷ step_of (Bytes 0 (topics_reply 1)) (Settles 0 2 settlement.Reply ∷ Ends 2 (Names (codes "t" ∷ [])) ∷ [])
    ∷ [])

-- a call stops the client while a request waits, and a later one is refused
abbrev pub client_is_stopped : List Step
client_is_stopped =
    builds ++ (step_of asks_topics (Queued 0 1 (topics_frame 0) ∷ [])
    ∷ step_of (Called Stop) (Settles 0 1 settlement.Disconnected ∷ Ends 1 (failed Disconnected) ∷ Ends 2 Done ∷ Close 0 ∷ [])
    ∷ step_of asks_topics (Ends 3 (failed Shutdown) ∷ [])
    ∷ [])

-- an attempt is refused, and tried again once its moment has come: the link of the second one serves the call
abbrev pub attempt_is_retried : List Step
attempt_is_retried =
    step_of (Called Build) (Connect 0 local_host local_port ∷ [])
    ∷ step_of (FailedToOpen 0 ConnectionRefused) (Retry 0 90 ∷ [])
    ∷ step_of (Ticked 89) []
    ∷ step_of (Ticked 90) (Connect 1 local_host local_port ∷ [])
    ∷ step_of (Opened 1) (Queued 1 0 greeting_frame ∷ [])
    ∷ step_of (Bytes 1 connected) (Ends 0 Done ∷ [])
    ∷ []

-- another broker, at pulsar://h
abbrev pub another : Place
another =
    record {
      url =
          record {
            scheme = codes "pulsar";
            username = [];
            password = [];
            host = Some (Domain (codes "h"));
            port = None;
            path = [];
            query = None;
            fragment = None;
          };
      broker_url = codes "h:6650";
      proxy = false;
    }

-- a frame of the broker, for request 0: that one serves the topic (1), or is to be asked (0), and with authority
abbrev pub pointed : (response : ℕ) → List ℕ
pointed response =
    0 ∷ 0 ∷ 0 ∷ 27 ∷ 0 ∷ 0 ∷ 0 ∷ 23 ∷ 8 ∷ 24 ∷ 194 ∷ 1 ∷ 18
    ∷ 10 ∷ 10 ∷ (codes "pulsar://h" ++ 24 ∷ response ∷ 32 ∷ 0 ∷ 40 ∷ 1 ∷ [])

-- a lookup is redirected to the other broker, which says that it serves the topic itself
abbrev pub lookup_is_redirected : List Step
lookup_is_redirected =
    builds ++ (step_of (Called (Lookup (codes "t"))) (Queued 0 1 (frame_of 0 (LookupTopic (codes "t") false)) ∷ [])
    ∷ step_of (Bytes 0 (pointed 0)) (Settles 0 1 settlement.Reply ∷ Connect 1 (codes "h") local_port ∷ [])
    ∷ step_of (Opened 1) (Queued 1 0 greeting_frame ∷ [])
    ∷ step_of (Bytes 1 connected) (Queued 1 1 (frame_of 0 (LookupTopic (codes "t") true)) ∷ [])
    ∷ step_of (Bytes 1 (pointed 1)) (Settles 1 1 settlement.Reply ∷ Ends 1 (Address another) ∷ [])
    ∷ [])

-- a producer of topic t, with the name p
abbrev pub producer_p : ProducerWanted
producer_p = record { topic = Some (codes "t"); name = Some (codes "p"); options = empty_producer_options }

-- a message: a
abbrev pub message_a : ProducerMessageValues
message_a = record empty_message { payload = codes "a" }

-- what builds it, frame by frame: it asks for the partitions of the topic, and there are none; for its broker, which this one is; and for
-- a producer of number 0, which it gets
abbrev pub asks_partitions : List ℕ
asks_partitions = 0 ∷ 0 ∷ 0 ∷ 14 ∷ 0 ∷ 0 ∷ 0 ∷ 10 ∷ 8 ∷ 21 ∷ 170 ∷ 1 ∷ 5 ∷ 10 ∷ 1 ∷ 116 ∷ 16 ∷ 0 ∷ []

abbrev pub has_none : List ℕ
has_none = 0 ∷ 0 ∷ 0 ∷ 15 ∷ 0 ∷ 0 ∷ 0 ∷ 11 ∷ 8 ∷ 22 ∷ 178 ∷ 1 ∷ 6 ∷ 8 ∷ 0 ∷ 16 ∷ 0 ∷ 24 ∷ 0 ∷ []

abbrev pub asks_broker : List ℕ
asks_broker = 0 ∷ 0 ∷ 0 ∷ 16 ∷ 0 ∷ 0 ∷ 0 ∷ 12 ∷ 8 ∷ 23 ∷ 186 ∷ 1 ∷ 7 ∷ 10 ∷ 1 ∷ 116 ∷ 16 ∷ 1 ∷ 24 ∷ 0 ∷ []

abbrev pub is_this_one : List ℕ
is_this_one =
    0 ∷ 0 ∷ 0 ∷ 40 ∷ 0 ∷ 0 ∷ 0 ∷ 36 ∷ 8 ∷ 24 ∷ 194 ∷ 1 ∷ 31 ∷ 10 ∷ 23 ∷ (codes "pulsar://127.0.0.1:6650" ++ 24 ∷ 1 ∷ 32 ∷ 1 ∷ 40 ∷ 1 ∷ [])

abbrev pub asks_producer : List ℕ
asks_producer = 0 ∷ 0 ∷ 0 ∷ 18 ∷ 0 ∷ 0 ∷ 0 ∷ 14 ∷ 8 ∷ 5 ∷ 42 ∷ 10 ∷ 10 ∷ 1 ∷ 116 ∷ 16 ∷ 0 ∷ 24 ∷ 2 ∷ 34 ∷ 1 ∷ 112 ∷ []

abbrev pub gets_producer : List ℕ
gets_producer = 0 ∷ 0 ∷ 0 ∷ 14 ∷ 0 ∷ 0 ∷ 0 ∷ 10 ∷ 8 ∷ 17 ∷ 138 ∷ 1 ∷ 5 ∷ 8 ∷ 2 ∷ 18 ∷ 1 ∷ 112 ∷ []

-- then its first message, number 0, and the receipt of that, at entry 1 of ledger 1
abbrev pub sends_message : List ℕ
sends_message =
    0 ∷ 0 ∷ 0 ∷ 30 ∷ 0 ∷ 0 ∷ 0 ∷ 8 ∷ 8 ∷ 6 ∷ 50 ∷ 4 ∷ 8 ∷ 0 ∷ 16 ∷ 0 ∷ 14 ∷ 1 ∷ 75 ∷ 192 ∷ 230 ∷ 190
    ∷ 0 ∷ 0 ∷ 0 ∷ 7 ∷ 10 ∷ 1 ∷ 112 ∷ 16 ∷ 0 ∷ 24 ∷ 0 ∷ 97 ∷ []

abbrev pub receipt : List ℕ
receipt = 8 ∷ 0 ∷ 16 ∷ 0 ∷ 26 ∷ 4 ∷ 8 ∷ 1 ∷ 16 ∷ 1 ∷ []

abbrev pub gets_receipt : List ℕ
gets_receipt = 0 ∷ 0 ∷ 0 ∷ 18 ∷ 0 ∷ 0 ∷ 0 ∷ 14 ∷ 8 ∷ 7 ∷ 58 ∷ 10 ∷ receipt

-- a producer is built, and sends a message, which its receipt answers
abbrev pub message_is_sent : List Step
message_is_sent =
    builds ++ (step_of (Called (Producer producer_p)) (Queued 0 1 asks_partitions ∷ [])
    ∷ step_of (Bytes 0 has_none) (Settles 0 1 settlement.Reply ∷ Queued 0 2 asks_broker ∷ [])
    ∷ step_of (Bytes 0 is_this_one) (Settles 0 2 settlement.Reply ∷ Queued 0 3 asks_producer ∷ [])
    ∷ step_of (Bytes 0 gets_producer) (Settles 0 3 settlement.Reply ∷ Ends 1 Done ∷ [])
    ∷ step_of (Called (Send 1 message_a)) (Queued 0 4 sends_message ∷ [])
    ∷ step_of (Bytes 0 gets_receipt) (Settles 0 4 settlement.Reply ∷ Ends 2 (Receipt receipt) ∷ [])
    ∷ [])

-- a producer that sends two messages at a time
abbrev pub producer_of_two : ProducerWanted
producer_of_two = record { topic = Some (codes "t"); name = Some (codes "p"); options = record empty_producer_options { batch_size = Some 2 } }

-- another message: b
abbrev pub message_b : ProducerMessageValues
message_b = record empty_message { payload = codes "b" }

-- both in one frame, number 0, which says that they are two: each behind its size
abbrev pub sends_both : List ℕ
sends_both =
    0 ∷ 0 ∷ 0 ∷ 47 ∷ 0 ∷ 0 ∷ 0 ∷ 10 ∷ 8 ∷ 6 ∷ 50 ∷ 6 ∷ 8 ∷ 0 ∷ 16 ∷ 0 ∷ 24 ∷ 2 ∷ 14 ∷ 1 ∷ 98 ∷ 66 ∷ 114 ∷ 189
    ∷ 0 ∷ 0 ∷ 0 ∷ 9 ∷ 10 ∷ 1 ∷ 112 ∷ 16 ∷ 0 ∷ 24 ∷ 0 ∷ 88 ∷ 2
    ∷ 0 ∷ 0 ∷ 0 ∷ 2 ∷ 24 ∷ 1 ∷ 97 ∷ 0 ∷ 0 ∷ 0 ∷ 2 ∷ 24 ∷ 1 ∷ 98 ∷ []

-- the receipt of each: its place in the batch, of two
abbrev pub receipt_in_batch : (index : ℕ) → List ℕ
receipt_in_batch i = 8 ∷ 0 ∷ 16 ∷ 0 ∷ 26 ∷ 8 ∷ 8 ∷ 1 ∷ 16 ∷ 1 ∷ 32 ∷ i ∷ 48 ∷ 2 ∷ []

-- a message is stored until a second one comes; then both are sent in one frame, and its receipt answers both
abbrev pub batch_is_sent : List Step
batch_is_sent =
    builds ++ (step_of (Called (Producer producer_of_two)) (Queued 0 1 asks_partitions ∷ [])
    ∷ step_of (Bytes 0 has_none) (Settles 0 1 settlement.Reply ∷ Queued 0 2 asks_broker ∷ [])
    ∷ step_of (Bytes 0 is_this_one) (Settles 0 2 settlement.Reply ∷ Queued 0 3 asks_producer ∷ [])
    ∷ step_of (Bytes 0 gets_producer) (Settles 0 3 settlement.Reply ∷ Ends 1 Done ∷ [])
    ∷ step_of (Called (Send 1 message_a)) []
    ∷ step_of (Called (Send 1 message_b)) (Queued 0 4 sends_both ∷ [])
    ∷ step_of (Bytes 0 gets_receipt) (Settles 0 4 settlement.Reply ∷ Ends 2 (Receipt (receipt_in_batch 0)) ∷ Ends 3 (Receipt (receipt_in_batch 1)) ∷ [])
    ∷ [])

-- a history, oldest step first, is good with room for so many frames
abbrev pub IsGood : (outbound : ℕ) → List Step → Type 0
IsGood outbound history = Good (options outbound) (reverse history)
