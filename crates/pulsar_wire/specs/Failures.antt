-- Errors by their content: a text is the list of its bytes.
use Rattle.std.specs.Prelude.{ℕ, List, [], ◌∷◌, Option, Result, Ok, Err, string_bytes}
use Rattle.std.specs.Option.{option_map}
use Rattle.pulsar_wire.specs.declared.commands.enumerations.ServerError.{ServerError}
use Rattle.pulsar_wire.specs.Authentication.{Denial, denial}
use Rattle.pulsar_wire.specs.declared.error.IoKind.{IoKind}
use Rattle.pulsar_wire.specs.declared.error.Reason.{Reason}
use Rattle.pulsar_wire.specs.declared.error.ConnectionError.{ConnectionError}
use Rattle.pulsar_wire.specs.declared.error.ConnectionError.TheVariants as connection
use Rattle.pulsar_wire.specs.declared.error.ConsumerError.{ConsumerError}
use Rattle.pulsar_wire.specs.declared.error.ConsumerError.TheVariants as consumer
use Rattle.pulsar_wire.specs.declared.error.ServiceDiscoveryError.{ServiceDiscoveryError}
use Rattle.pulsar_wire.specs.declared.error.ServiceDiscoveryError.TheVariants as discovery
use Rattle.pulsar_wire.specs.declared.error.ProducerError.{ProducerError, Ok', Err', Held-ProducerError-PartialSend-0-2 as Held, Row_of-ProducerError-PartialSend-0-2 as Row, end_of-ProducerError-PartialSend-0-2 as end_of, more_of-ProducerError-PartialSend-0-2 as more_of}
use Rattle.pulsar_wire.specs.declared.error.ProducerError.TheVariants as producer
use Rattle.pulsar_wire.specs.declared.error.Error.{Error}
use Rattle.pulsar_wire.specs.declared.error.Error.TheVariants as error

-- why a connection, or what is asked on it, failed
pub data Fault : Type 0 where
  Io : IoKind → Fault
  SlowDown : Fault
  Disconnected : Fault
  PulsarError : (error : Option ServerError) (text : Option (List ℕ)) → Fault
  Unexpected : (text : List ℕ) → Fault
  Decoding : Reason → Fault
  Encoding : Reason → Fault
  SocketAddr : (text : List ℕ) → Fault
  UnexpectedResponse : (body : List ℕ) → Fault
  Authentication : Denial → Fault
  NotFound : Fault
  Canceled : Fault
  Shutdown : Fault
  Exhausted : Fault
  NoMemory : Fault

-- why a consumer, or an item of one, failed
pub data ConsumerFault : Type 0 where
  ConsumerConnection : Fault → ConsumerFault
  MissingPayload : (text : List ℕ) → ConsumerFault
  ConsumerIo : IoKind → ConsumerFault
  ChannelFull : ConsumerFault
  ConsumerClosed : ConsumerFault
  ConsumerBuild : ConsumerFault

-- why the broker of a topic was not found
pub data DiscoveryFault : Type 0 where
  DiscoveryConnection : Fault → DiscoveryFault
  Query : (error : Option ServerError) (text : Option (List ℕ)) → DiscoveryFault
  DiscoveryNotFound : DiscoveryFault
  DnsLookup : DiscoveryFault
  DiscoveryCanceled : DiscoveryFault
  DiscoveryShutdown : DiscoveryFault
  Dummy : DiscoveryFault

-- why a producer failed
pub data ProducerFault : Type 0 where
  ProducerConnection : Fault → ProducerFault
  ProducerCustom : (text : List ℕ) → ProducerFault
  ProducerIo : IoKind → ProducerFault
  Fenced : ProducerFault
  ProducerClosed : ProducerFault

mutual
  -- Why a call failed. A message that was sent fails with the batch in which it went, or with some of those that were sent with it.
  pub data Failure : Type 0 where
    OfConnection : Fault → Failure
    OfConsumer : ConsumerFault → Failure
    OfProducer : ProducerFault → Failure
    OfBatch : Failure → Failure
    OfPartialSend : Sent → Failure
    OfDiscovery : DiscoveryFault → Failure
    OfAuthentication : Denial → Failure
    Custom : (text : List ℕ) → Failure
    Executor : Failure

  -- what became of each of the messages that were sent together, in order: its ticket, or why it failed
  pub data Sent : Type 0 where
    NoMore : Sent
    Went : (ticket : ℕ) → Sent → Sent
    Failed : Failure → Sent → Sent

abbrev pub fault : ConnectionError → Fault
fault (connection.Io kind) = Io kind
fault connection.SlowDown = SlowDown
fault connection.Disconnected = Disconnected
fault (connection.PulsarError error text) = PulsarError error (option_map string_bytes text)
fault (connection.Unexpected text) = Unexpected (string_bytes text)
fault (connection.Decoding reason) = Decoding reason
fault (connection.Encoding reason) = Encoding reason
fault (connection.SocketAddr text) = SocketAddr (string_bytes text)
fault (connection.UnexpectedResponse body) = UnexpectedResponse (string_bytes body)
fault (connection.Authentication e) = Authentication (denial e)
fault connection.NotFound = NotFound
fault connection.Canceled = Canceled
fault connection.Shutdown = Shutdown
fault connection.Exhausted = Exhausted
fault connection.NoMemory = NoMemory

abbrev pub consumer_fault : ConsumerError → ConsumerFault
consumer_fault (consumer.Connection e) = ConsumerConnection (fault e)
consumer_fault (consumer.MissingPayload text) = MissingPayload (string_bytes text)
consumer_fault (consumer.Io kind) = ConsumerIo kind
consumer_fault consumer.ChannelFull = ChannelFull
consumer_fault consumer.Closed = ConsumerClosed
consumer_fault consumer.BuildError = ConsumerBuild

abbrev pub discovery_fault : ServiceDiscoveryError → DiscoveryFault
discovery_fault (discovery.Connection e) = DiscoveryConnection (fault e)
discovery_fault (discovery.Query error text) = Query error (option_map string_bytes text)
discovery_fault discovery.NotFound = DiscoveryNotFound
discovery_fault discovery.DnsLookupError = DnsLookup
discovery_fault discovery.Canceled = DiscoveryCanceled
discovery_fault discovery.Shutdown = DiscoveryShutdown
discovery_fault discovery.Dummy = Dummy

-- an error by its content; one of a producer may hold others
abbrev mutual
  pub failure : Error → Failure
  failure (error.Connection e) = OfConnection (fault e)
  failure (error.Consumer e) = OfConsumer (consumer_fault e)
  failure (error.Producer e) = of_producer e
  failure (error.ServiceDiscovery e) = OfDiscovery (discovery_fault e)
  failure (error.Authentication e) = OfAuthentication (denial e)
  failure (error.Custom text) = Custom (string_bytes text)
  failure error.Executor = Executor

  pub of_producer : ProducerError → Failure
  of_producer (producer.Connection e) = OfProducer (ProducerConnection (fault e))
  of_producer (producer.Custom text) = OfProducer (ProducerCustom (string_bytes text))
  of_producer (producer.Io kind) = OfProducer (ProducerIo kind)
  of_producer (producer.PartialSend' shape all) = OfPartialSend (all_sent all)
  of_producer (producer.Batch' p e) = OfBatch (failure e)
  of_producer producer.Fenced = OfProducer Fenced
  of_producer producer.Closed = OfProducer ProducerClosed

  pub all_sent : {n : _} → Row n → Sent
  all_sent end_of = NoMore
  all_sent (more_of one others) = one_sent one (all_sent others)

  pub one_sent : Held → Sent → Sent
  one_sent (Ok' ticket) more = Went ticket more
  one_sent (Err' e) more = Failed (failure e) more

-- the same of a list
abbrev pub sent : List (Result ℕ Error) → Sent
sent [] = NoMore
sent (Ok ticket ∷ all) = Went ticket (sent all)
sent (Err e ∷ all) = Failed (failure e) (sent all)
