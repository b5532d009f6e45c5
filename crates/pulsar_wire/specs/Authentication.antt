-- Errors of authentication by their content: a text is the list of its bytes.
use Rattle.std.specs.Prelude.{ℕ, List, string_bytes}
use Rattle.pulsar_wire.specs.declared.error.AuthenticationError.{AuthenticationError}
use Rattle.pulsar_wire.specs.declared.error.AuthenticationError.TheVariants as error

-- why there are no credentials to send
pub data Denial : Type 0 where
  Custom : (text : List ℕ) → Denial
  Retriable : (text : List ℕ) → Denial

abbrev pub denial : AuthenticationError → Denial
denial (error.Custom text) = Custom (string_bytes text)
denial (error.Retriable text) = Retriable (string_bytes text)
