-- The text of an error: its first word, and what stands behind it.
use Rattle.std.specs.Prelude.{ℕ, ◌+◌, List, [], ◌∷◌, ◌++◌, codes, Option, Some, None}
use Rattle.std.specs.Fmt.{decimal, signed_decimal}
use Rattle.pulsar_wire.specs.Authentication.{Denial, Custom, Retriable}
use Rattle.pulsar_wire.specs.Enumerations.{error_number}
use Rattle.pulsar_wire.specs.declared.commands.enumerations.ServerError.{ServerError}
use Rattle.pulsar_wire.specs.declared.error.IoKind.{IoKind}
use Rattle.pulsar_wire.specs.declared.error.IoKind.TheVariants as io
use Rattle.pulsar_wire.specs.declared.error.Reason.{Reason}
use Rattle.pulsar_wire.specs.declared.error.Reason.TheVariants as reason
use Rattle.pulsar_wire.specs.Failures.{Fault, Io, SlowDown, Disconnected, PulsarError, Unexpected, Decoding, Encoding, SocketAddr, UnexpectedResponse, Authentication, NotFound, Canceled, Shutdown, Exhausted, NoMemory}
use Rattle.pulsar_wire.specs.Failures.{ConsumerFault, ConsumerConnection, MissingPayload, ConsumerIo, ChannelFull, ConsumerClosed, ConsumerBuild}
use Rattle.pulsar_wire.specs.Failures.{DiscoveryFault, DiscoveryConnection, Query, DiscoveryNotFound, DnsLookup, DiscoveryCanceled, DiscoveryShutdown, Dummy}
use Rattle.pulsar_wire.specs.Failures.{ProducerFault, ProducerConnection, ProducerCustom, ProducerIo, Fenced, ProducerClosed}
use Rattle.pulsar_wire.specs.Failures as failures
use Rattle.pulsar_wire.specs.Failures.{Failure, OfConnection, OfConsumer, OfProducer, OfBatch, OfPartialSend, OfDiscovery, OfAuthentication, Executor, Sent, NoMore, Went, Failed}
use Rattle.pulsar_printing.specs.WordText.{word}

abbrev pub io_kind : IoKind → List ℕ
io_kind io.ConnectionRefused = codes "refused"
io_kind io.TimedOut = codes "timedout"
io_kind io.Other = codes "other"

abbrev pub reason_word : Reason → List ℕ
reason_word reason.Frame = codes "frame"
reason_word reason.Command = codes "command"
reason_word reason.Payload = codes "payload"
reason_word reason.Magic = codes "magic"
reason_word reason.Metadata = codes "metadata"
reason_word reason.Checksum = codes "checksum"
reason_word reason.Message = codes "message"
reason_word reason.Batch = codes "batch"

-- what a broker said of a request that it refused: a number and a text, each `~` where it is absent
abbrev pub code : Option ServerError → List ℕ
code None = codes "~"
code (Some e) = signed_decimal (error_number e)

abbrev pub word_or : Option (List ℕ) → List ℕ
word_or None = codes "~"
word_or (Some text) = word text

abbrev pub broker_error : Option ServerError → Option (List ℕ) → List ℕ
broker_error e text = 32 ∷ code e ++ 32 ∷ word_or text

-- an error of authentication
abbrev pub denial_word : Denial → List ℕ
denial_word (Custom text) = codes "custom"
denial_word (Retriable text) = codes "retriable"

abbrev pub denial_detail : Denial → List ℕ
denial_detail (Custom text) = 32 ∷ word text
denial_detail (Retriable text) = 32 ∷ word text

-- an error of a connection
abbrev pub fault_word : Fault → List ℕ
fault_word (Io kind) = codes "io"
fault_word SlowDown = codes "slowdown"
fault_word Disconnected = codes "disconnected"
fault_word (PulsarError e text) = codes "pulsar"
fault_word (Unexpected text) = codes "unexpected"
fault_word (Decoding r) = codes "decoding"
fault_word (Encoding r) = codes "encoding"
fault_word (SocketAddr text) = codes "socketaddr"
fault_word (UnexpectedResponse body) = codes "unexpectedresponse"
fault_word (Authentication (Custom text)) = codes "authentication.custom"
fault_word (Authentication (Retriable text)) = codes "authentication.retriable"
fault_word NotFound = codes "notfound"
fault_word Canceled = codes "canceled"
fault_word Shutdown = codes "shutdown"
fault_word Exhausted = codes "exhausted"
fault_word NoMemory = codes "nomemory"

abbrev pub fault_detail : Fault → List ℕ
fault_detail (Io kind) = 32 ∷ io_kind kind
fault_detail (PulsarError e text) = broker_error e text
fault_detail (Unexpected text) = 32 ∷ word text
fault_detail (Decoding r) = 32 ∷ reason_word r
fault_detail (Encoding r) = 32 ∷ reason_word r
fault_detail (SocketAddr text) = 32 ∷ word text
fault_detail (UnexpectedResponse body) = 32 ∷ word body
fault_detail (Authentication d) = denial_detail d
fault_detail SlowDown = []
fault_detail Disconnected = []
fault_detail NotFound = []
fault_detail Canceled = []
fault_detail Shutdown = []
fault_detail Exhausted = []
fault_detail NoMemory = []

-- an error of a consumer
abbrev pub consumer_word : ConsumerFault → List ℕ
consumer_word (ConsumerConnection f) = fault_word f
consumer_word (MissingPayload text) = codes "missingpayload"
consumer_word (ConsumerIo kind) = codes "io"
consumer_word ChannelFull = codes "channelfull"
consumer_word ConsumerClosed = codes "closed"
consumer_word ConsumerBuild = codes "build"

abbrev pub consumer_detail : ConsumerFault → List ℕ
consumer_detail (ConsumerConnection f) = fault_detail f
consumer_detail (MissingPayload text) = 32 ∷ word text
consumer_detail (ConsumerIo kind) = 32 ∷ io_kind kind
consumer_detail ChannelFull = []
consumer_detail ConsumerClosed = []
consumer_detail ConsumerBuild = []

-- an error of the search for a topic's broker
abbrev pub discovery_word : DiscoveryFault → List ℕ
discovery_word (DiscoveryConnection f) = fault_word f
discovery_word (Query e text) = codes "query"
discovery_word DiscoveryNotFound = codes "notfound"
discovery_word DnsLookup = codes "dnslookuperror"
discovery_word DiscoveryCanceled = codes "canceled"
discovery_word DiscoveryShutdown = codes "shutdown"
discovery_word Dummy = codes "dummy"

abbrev pub discovery_detail : DiscoveryFault → List ℕ
discovery_detail (DiscoveryConnection f) = fault_detail f
discovery_detail (Query e text) = broker_error e text
discovery_detail DiscoveryNotFound = []
discovery_detail DnsLookup = []
discovery_detail DiscoveryCanceled = []
discovery_detail DiscoveryShutdown = []
discovery_detail Dummy = []

-- an error of a producer
abbrev pub producer_word : ProducerFault → List ℕ
producer_word (ProducerConnection f) = fault_word f
producer_word (ProducerCustom text) = codes "custom"
producer_word (ProducerIo kind) = codes "io"
producer_word Fenced = codes "fenced"
producer_word ProducerClosed = codes "closed"

abbrev pub producer_detail : ProducerFault → List ℕ
producer_detail (ProducerConnection f) = fault_detail f
producer_detail (ProducerCustom text) = 32 ∷ word text
producer_detail (ProducerIo kind) = 32 ∷ io_kind kind
producer_detail Fenced = []
producer_detail ProducerClosed = []

-- the first word of an error: a family, and a word in it
abbrev pub family : Failure → List ℕ
family (OfConnection f) = codes "connection."
family (OfConsumer (ConsumerConnection f)) = codes "consumer.connection."
family (OfConsumer f) = codes "consumer."
family (OfProducer (ProducerConnection f)) = codes "producer.connection."
family (OfProducer f) = codes "producer."
family (OfBatch f) = codes "producer."
family (OfPartialSend s) = codes "producer."
family (OfDiscovery (DiscoveryConnection f)) = codes "discovery.connection."
family (OfDiscovery f) = codes "discovery."
family (OfAuthentication d) = codes "authentication."
family (failures.Custom text) = []
family Executor = []

abbrev pub word_in_family : Failure → List ℕ
word_in_family (OfConnection f) = fault_word f
word_in_family (OfConsumer f) = consumer_word f
word_in_family (OfProducer f) = producer_word f
word_in_family (OfBatch f) = codes "batch"
word_in_family (OfPartialSend s) = codes "partial"
word_in_family (OfDiscovery f) = discovery_word f
word_in_family (OfAuthentication d) = denial_word d
word_in_family (failures.Custom text) = codes "custom"
word_in_family Executor = codes "executor"

abbrev pub first_word : Failure → List ℕ
first_word f = family f ++ word_in_family f

-- what became of messages that were sent together: of each its ticket, or the first word of its error
abbrev pub outcomes : Sent → List ℕ
outcomes NoMore = []
outcomes (Went ticket more) = codes " ok:" ++ decimal ticket ++ outcomes more
outcomes (Failed f more) = codes " err:" ++ first_word f ++ outcomes more

abbrev pub count : Sent → ℕ
count NoMore = 0
count (Went ticket more) = count more + 1
count (Failed f more) = count more + 1

-- behind the first word: an error that holds an error has the whole text of that one
abbrev pub detail : Failure → List ℕ
detail (OfConnection f) = fault_detail f
detail (OfConsumer f) = consumer_detail f
detail (OfProducer f) = producer_detail f
detail (OfBatch f) = 32 ∷ first_word f ++ detail f
detail (OfPartialSend s) = 32 ∷ decimal (count s) ++ outcomes s
detail (OfDiscovery f) = discovery_detail f
detail (OfAuthentication d) = denial_detail d
detail (failures.Custom text) = 32 ∷ word text
detail Executor = []

abbrev pub failure : Failure → List ℕ
failure f = first_word f ++ detail f
