-- Which failed attempts to connect are made again.
use Rattle.std.specs.Prelude.{Bool, true, false}
use Rattle.pulsar_wire.specs.declared.error.AuthenticationError.TheVariants.{Retriable}
use Rattle.pulsar_wire.specs.declared.error.ConnectionError.{ConnectionError}
use Rattle.pulsar_wire.specs.declared.error.ConnectionError.TheVariants.{Io, Authentication}
use Rattle.pulsar_wire.specs.declared.error.IoKind.TheVariants.{ConnectionRefused, TimedOut}

-- An attempt that failed so may go well later.
abbrev pub is_retryable : ConnectionError → Bool
is_retryable (Io ConnectionRefused) = true
is_retryable (Io TimedOut) = true
is_retryable (Authentication (Retriable _)) = true
is_retryable _ = false
