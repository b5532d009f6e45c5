-- How a producer takes a message: it is sent by itself, or stored until it is sent in a batch.
use Rattle.std.specs.Prelude.{ℕ, Bool, if◌then◌else◌, Option, Some, None, Result, Ok, Err}
use Rattle.pulsar_frame.specs.Batch.{EntryValues}
use Rattle.pulsar_messages.specs.Content.{ProducerMessageValues}
use Rattle.pulsar_wire.specs.Failures.{Failure, Encoding}
use Rattle.pulsar_wire.specs.declared.error.Reason.TheVariants as reason
use Rattle.pulsar_outgoing.specs.Batch.{entry_of}
use Rattle.pulsar_outgoing.specs.Errors.{in_producer, no_such_index}
use Rattle.pulsar_producer.specs.Producer as producer
use Rattle.pulsar_producer.specs.Producer.{number_on}
use Rattle.pulsar_outgoing.specs.Storage.{is_batching}
use Rattle.pulsar_outgoing.specs.declared.multi_topic.Dispatch.{Dispatch}
use Rattle.pulsar_outgoing.specs.declared.multi_topic.Dispatch.TheVariants.{Send, Store}

-- the payload of a message that is stored has a size in an i32
abbrev pub stored_as : (number : ℕ) → Option EntryValues → Result Dispatch Failure
stored_as n None = Err (in_producer (Encoding reason.Batch))
stored_as n (Some e) = Ok (Store n e)

abbrev pub sent_as : (batches block : Bool) → (number : ℕ) → ProducerMessageValues → Result Dispatch Failure
sent_as batches block n m = if batches then stored_as n (entry_of m) else Ok (Send (record { producer = n; block = block }) m)

-- there may be no such partition
abbrev pub dispatched_to : (batches block : Bool) → (number : Option ℕ) → ProducerMessageValues → Result Dispatch Failure
dispatched_to batches block None m = Err no_such_index
dispatched_to batches block (Some n) m = sent_as batches block n m

-- by what its policy says
abbrev pub dispatched : (said : Option ℕ) → ProducerMessageValues → producer.Seen → Result Dispatch Failure
dispatched said m p = dispatched_to (is_batching p.options) p.options.block_queue_if_full (number_on said m p) m
