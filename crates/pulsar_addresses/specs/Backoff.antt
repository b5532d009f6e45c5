-- When what failed is tried again, and what is drawn for a connection.
use Rattle.std.specs.Prelude.{ℕ, ◌+◌, ◌*◌, ◌-◌, ◌^◌, ◌%◌, min, Bool, true, List, Option, Some, None, nat_lt}
use Rattle.rand_core.specs.Steps.{fill_via_u32}
use Rattle.rand_pcg.specs.Lcg.{Lcg, started, increment_of}
use Rattle.rand_pcg.specs.Pcg.{multiplier_64, pcg32}
use Rattle.uuid.specs.Parts.{with_variant, with_version}
use Rattle.uuid.specs.declared.Variant.TheVariants.{RFC4122}
use Rattle.uuid.specs.declared.Version.TheVariants.{Random}
use Rattle.pulsar_addresses.specs.declared.options.ConnectionRetryOptions.{ConnectionRetryOptions}
use Rattle.pulsar_addresses.specs.declared.options.OperationRetryOptions.{OperationRetryOptions}

-- whether there may be one more retry after so many
abbrev pub allow_retry : Option ℕ → ℕ → Bool
allow_retry None n = true
allow_retry (Some most) n = nat_lt n most

-- the retries so far, and one more, counted to the end of 32 bits
abbrev pub one_more : ℕ → ℕ
one_more n = min (n + 1) (2 ^ 32 - 1)

abbrev pub capped : ℕ → ℕ
capped n = min n (2 ^ 64 - 1)

-- the power of two of the retries so far
abbrev pub power : ℕ → ℕ
power retries = min (2 ^ retries) (2 ^ 32 - 1)

-- the delay before a retry: it doubles each time up to a limit, and the jitter comes on top
abbrev pub backoff : (least most retries jitter : ℕ) → ℕ
backoff least most retries jitter = capped (min (capped (least * power retries)) most + capped (least * jitter))

-- a generator of random words
abbrev pub generator : (seed stream : ℕ) → Lcg
generator seed stream = started 64 multiplier_64 seed (increment_of 64 stream)

-- a connection draws from the stream of four times its number
abbrev pub stream_of_link : (link : ℕ) → ℕ
stream_of_link link = link * 4 % 2 ^ 64

-- the first word of the stream of a connection, of ten values
abbrev pub jitter : (seed link : ℕ) → ℕ
jitter seed link = (pcg32 (generator seed (stream_of_link link))).0 % 10

-- The id of a connection is of version 4. Its random bytes are the first four words of its stream under the next seed, each with
-- its low byte first.  (RFC 9562, section 5.4)
abbrev pub connection_id : (seed link : ℕ) → List ℕ
connection_id seed link =
    with_version (with_variant (fill_via_u32 pcg32 16 (generator ((seed + 1) % 2 ^ 64) (stream_of_link link))).0 RFC4122) Random

-- the options that are not given
abbrev pub default_connection_retry : ConnectionRetryOptions
default_connection_retry =
    record {
      min_backoff = 10;
      max_backoff = 30000;
      max_retries = 12;
      connection_timeout = 10000;
      keep_alive = 60000;
      connection_max_idle = 120000;
    }

abbrev pub default_operation_retry : OperationRetryOptions
default_operation_retry = record { operation_timeout = 30000; retry_delay = 5000; max_retries = None }
