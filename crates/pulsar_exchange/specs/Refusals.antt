-- Why a message of the broker fails a request.  (Pulsar binary protocol, Simple commands; PulsarApi.proto, CommandError)
use Rattle.std.specs.Prelude.{Option, Some, None, codes, ◌==◌, if◌then◌else◌}
use Rattle.pulsar_wire.specs.Field.{◌>>=◌}
use Rattle.pulsar_wire.specs.Enumerations.{error_of}
use Rattle.pulsar_wire.specs.Command.{body_name}
use Rattle.pulsar_wire.specs.Failures.{Fault, PulsarError, UnexpectedResponse}
use Rattle.pulsar_exchange.specs.Messages.{Reply, Written}

-- why a reply fails a request that expects another body: the broker's error with its text, or the name of the body
abbrev pub refused : Reply → Option Written → Fault
refused r None = UnexpectedResponse (codes "none")
refused r (Some body) = if body.number == 14 then PulsarError (r.content.error >>= error_of) r.content.text else UnexpectedResponse (body_name body.number)
