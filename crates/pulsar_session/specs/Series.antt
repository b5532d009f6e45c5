-- The series of attempts at an address, by whatever it is kept: which attempt that failed is followed by another one, and when.
-- (Pulsar binary protocol, Connection establishment)
use Rattle.std.specs.Prelude.{ℕ, nat_lt, Bool, true, false, ◌&&◌, Option, Some}
use Rattle.pulsar_wire.specs.Authentication.{Retriable}
use Rattle.pulsar_wire.specs.Failures.{Fault, Io, Authentication}
use Rattle.pulsar_wire.specs.declared.error.IoKind.{IoKind}
use Rattle.pulsar_wire.specs.declared.error.IoKind.TheVariants.{ConnectionRefused, TimedOut, Other}
use Rattle.pulsar_addresses.specs.Backoff.{backoff, jitter}
use Rattle.pulsar_addresses.specs.declared.options.ConnectionRetryOptions.{ConnectionRetryOptions}

-- an attempt that failed so may go well another time
abbrev pub is_passing : IoKind → Bool
is_passing ConnectionRefused = true
is_passing TimedOut = true
is_passing Other = false

abbrev pub is_retryable : Option Fault → Bool
is_retryable (Some (Io kind)) = is_passing kind
is_retryable (Some (Authentication (Retriable text))) = true
is_retryable _ = false

-- Another attempt is to follow one that failed where that may go well, and fewer retries were made than the most.
abbrev pub is_followed : (most retries : ℕ) → (passes : Bool) → Bool
is_followed most retries passes = passes && nat_lt retries most

-- It waits for the backoff of the retries so far, with the jitter of the link whose attempt failed.
abbrev pub delay : ConnectionRetryOptions → (seed link retries : ℕ) → ℕ
delay o seed link retries = backoff o.min_backoff o.max_backoff retries (jitter seed link)
