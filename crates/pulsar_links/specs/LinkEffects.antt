-- What acts on links say outside.  (Pulsar binary protocol)
use Rattle.std.specs.Prelude.{ℕ, List, [], ◌∷◌, Option, Some, None}
use Rattle.pulsar_messages.specs.Words.{Words}
use Rattle.pulsar_session.specs.Link as session
use Rattle.pulsar_session.specs.Link.{Asks}
use Rattle.pulsar_calls.specs.declared.act.LinkAct.{LinkAct}
use Rattle.pulsar_links.specs.Address.{leads_to}
use Rattle.pulsar_addresses.specs.Address.{Place}
use Rattle.pulsar_calls.specs.Content.{Shown, Connect}
use Rattle.pulsar_links.specs.Links as links
use Rattle.pulsar_links.specs.Seats.{Seat}

-- links
abbrev pub given_at : ℕ → LinkAct → (now : ℕ) → Option Seat → List Shown
given_at l x now None = []
given_at l x now (Some seat) = links.effects l x now seat.seen

abbrev pub asked_at : ℕ → (now : ℕ) → Words → Option Seat → List Shown
asked_at l now request None = []
asked_at l now request (Some seat) = links.queues l seat.seen (session.after (Asks now request) seat.seen)

-- an attempt asks for a connection to where its address leads
abbrev pub connects_to : ℕ → Option (List ℕ × ℕ) → List Shown
connects_to l None = []
connects_to l (Some reached) = Connect l reached.0 reached.1 ∷ []

abbrev pub connects : ℕ → Place → List Shown
connects l p = connects_to l (leads_to p)
