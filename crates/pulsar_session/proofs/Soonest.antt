-- The first moment at which a connection is due.
use Rattle.std.proofs.Common.{◌≡◌, ℕ, refl}
use Rattle.pulsar_requests.specs.Soonest.{has_come}
use Rattle.pulsar_requests.proofs.Soonest.{due_by}
use Rattle.pulsar_session.specs.declared.states.Stage.{Stage}
use Rattle.pulsar_session.specs.declared.states.Stage.TheVariants.{Dialing, Handshaking, Ready, Over}
use Rattle.pulsar_session.specs.Link.{Seen, due, due_in}
use Rattle.pulsar_session.specs.Soonest.{due_at, due_at_in}

due_from_in : (s : Stage) (now : ℕ) (v : Seen) → due_in s now v ≡ has_come now (due_at_in s v)
due_from_in Dialing now v = refl
due_from_in Handshaking now v = refl
due_from_in Ready now v = due_by now v.waits
due_from_in Over now v = refl

-- it is due from that moment on
pub due_from : (now : ℕ) (v : Seen) → due now v ≡ has_come now (due_at v)
due_from now v = due_from_in v.stage now v
