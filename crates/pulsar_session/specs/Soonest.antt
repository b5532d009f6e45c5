-- The first moment at which a connection is due.
use Rattle.std.specs.Prelude.{ℕ, ◌+◌, Option, Some, None}
use Rattle.pulsar_wire.specs.Sink.{capped}
use Rattle.pulsar_requests.specs.Soonest as requests
use Rattle.pulsar_session.specs.declared.states.Stage.{Stage}
use Rattle.pulsar_session.specs.declared.states.Stage.TheVariants.{Dialing, Handshaking, Ready, Over}
use Rattle.pulsar_session.specs.Link.{Seen, Setup}

-- the moment at which it was dialed for too long
abbrev pub late_at : Setup → ℕ
late_at s = capped (s.made + s.connection_timeout)

abbrev pub due_at_in : Stage → Seen → Option ℕ
due_at_in Dialing v = Some (late_at v.setup)
due_at_in Handshaking v = Some (late_at v.setup)
due_at_in Ready v = requests.due_at v.waits
due_at_in Over v = None

abbrev pub due_at : Seen → Option ℕ
due_at v = due_at_in v.stage v
