-- The numbers that stand for a choice.  (PulsarApi.proto)
use Rattle.std.specs.Prelude.{ℤ, pos, List, [], ◌∷◌, Option, find}
use Rattle.std.specs.Ordering.{int_eq}
use Rattle.pulsar_wire.specs.declared.commands.topics.Mode.{Mode}
use Rattle.pulsar_wire.specs.declared.commands.topics.Mode.TheVariants.{Persistent, NonPersistent, All}
use Rattle.pulsar_wire.specs.declared.commands.enumerations.ServerError.{ServerError}
use Rattle.pulsar_wire.specs.declared.commands.enumerations.ServerError.TheVariants.{UnknownError, MetadataError, PersistenceError, AuthenticationError, AuthorizationError, ConsumerBusy, ServiceNotReady, ProducerBlockedQuotaExceededError, ProducerBlockedQuotaExceededException, ChecksumError, UnsupportedVersionError, TopicNotFound, SubscriptionNotFound, ConsumerNotFound, TooManyRequests, TopicTerminatedError, ProducerBusy, InvalidTopicName, IncompatibleSchema, ConsumerAssignError, TransactionCoordinatorNotFound, InvalidTxnStatus, NotAllowedError, TransactionConflict, TransactionNotFound, ProducerFenced}
use Rattle.pulsar_wire.specs.declared.commands.enumerations.SubType.{SubType}
use Rattle.pulsar_wire.specs.declared.commands.enumerations.SubType.TheVariants.{Exclusive, Shared, Failover, KeyShared}
use Rattle.pulsar_wire.specs.declared.commands.enumerations.InitialPosition.{InitialPosition}
use Rattle.pulsar_wire.specs.declared.commands.enumerations.InitialPosition.TheVariants.{Latest, Earliest}

-- the number of a mode, which says which topics of a namespace are meant
abbrev pub mode_number : Mode → ℤ
mode_number Persistent = pos 0
mode_number NonPersistent = pos 1
mode_number All = pos 2

-- the number of the error with which the broker refuses a command
abbrev pub error_number : ServerError → ℤ
error_number UnknownError = pos 0
error_number MetadataError = pos 1
error_number PersistenceError = pos 2
error_number AuthenticationError = pos 3
error_number AuthorizationError = pos 4
error_number ConsumerBusy = pos 5
error_number ServiceNotReady = pos 6
error_number ProducerBlockedQuotaExceededError = pos 7
error_number ProducerBlockedQuotaExceededException = pos 8
error_number ChecksumError = pos 9
error_number UnsupportedVersionError = pos 10
error_number TopicNotFound = pos 11
error_number SubscriptionNotFound = pos 12
error_number ConsumerNotFound = pos 13
error_number TooManyRequests = pos 14
error_number TopicTerminatedError = pos 15
error_number ProducerBusy = pos 16
error_number InvalidTopicName = pos 17
error_number IncompatibleSchema = pos 18
error_number ConsumerAssignError = pos 19
error_number TransactionCoordinatorNotFound = pos 20
error_number InvalidTxnStatus = pos 21
error_number NotAllowedError = pos 22
error_number TransactionConflict = pos 23
error_number TransactionNotFound = pos 24
error_number ProducerFenced = pos 25

-- each error with which the broker refuses a command
unfoldable pub server_errors : List ServerError
server_errors =
    UnknownError ∷ MetadataError ∷ PersistenceError ∷ AuthenticationError ∷ AuthorizationError ∷ ConsumerBusy ∷
    ServiceNotReady ∷ ProducerBlockedQuotaExceededError ∷ ProducerBlockedQuotaExceededException ∷ ChecksumError ∷
    UnsupportedVersionError ∷ TopicNotFound ∷ SubscriptionNotFound ∷ ConsumerNotFound ∷ TooManyRequests ∷
    TopicTerminatedError ∷ ProducerBusy ∷ InvalidTopicName ∷ IncompatibleSchema ∷ ConsumerAssignError ∷
    TransactionCoordinatorNotFound ∷ InvalidTxnStatus ∷ NotAllowedError ∷ TransactionConflict ∷ TransactionNotFound ∷
    ProducerFenced ∷ []

-- the error of a number, if there is one
unfoldable pub error_of : ℤ → Option ServerError
error_of n = find (λ error. int_eq (error_number error) n) server_errors

-- the number of the way in which consumers share a subscription
abbrev pub sub_type_number : SubType → ℤ
sub_type_number Exclusive = pos 0
sub_type_number Shared = pos 1
sub_type_number Failover = pos 2
sub_type_number KeyShared = pos 3

-- the number of the place where a subscription begins
abbrev pub initial_position_number : InitialPosition → ℤ
initial_position_number Latest = pos 0
initial_position_number Earliest = pos 1
