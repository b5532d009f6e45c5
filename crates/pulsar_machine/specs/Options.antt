-- What a client is made with.
use Rattle.std.specs.Prelude.{ℕ, List, Option}
use Rattle.pulsar_addresses.specs.Address.{Place}
use Rattle.pulsar_addresses.specs.declared.options.ConnectionRetryOptions.{ConnectionRetryOptions}
use Rattle.pulsar_addresses.specs.declared.options.OperationRetryOptions.{OperationRetryOptions}
use Rattle.pulsar_messages.specs.Content.{AuthenticationValues}
use Rattle.pulsar_producer.specs.Routing.{Policy}

-- What a client's options say of a run: the address of the service, where their URL has one; the credential; how connections are
-- attempted and kept, and how long requests wait, in milliseconds; how many frames of a link may be queued and not written; what random
-- words are drawn from; the number of the first request of each link, of the first producer, of the first consumer, and of the first message of
-- each producer; and the time of the start, in milliseconds since 1970.
pub record Chosen : Type 0 where
  pub base : Option Place
  pub auth : Option AuthenticationValues
  pub connection : ConnectionRetryOptions
  pub operation : OperationRetryOptions
  pub outbound : ℕ
  pub seed : ℕ
  pub first_number : ℕ
  pub now : ℕ

-- these, and the policies by which producers choose partitions
pub record Options : Type 0 where
  pub chosen : Chosen
  pub policies : List Policy
