-- What a broker says of a producer that it has made.  (PulsarApi.proto, CommandProducerSuccess)
use Rattle.std.specs.Prelude.{[], None, unwrap_or}
use Rattle.pulsar_frame.specs.Reply.{Reply}
use Rattle.pulsar_outgoing.specs.declared.replies.Given.{Given}

-- its name, and the version of its schema
abbrev pub given : Reply → Given
given r = record { name = unwrap_or r.name []; version = r.version }

abbrev pub nothing : Given
nothing = record { name = []; version = None }
