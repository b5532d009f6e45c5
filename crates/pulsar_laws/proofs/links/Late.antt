-- A request times out with its link where it is late.
use Rattle.std.proofs.Common.{◌≡◌, ap, ℕ, ◌&&◌, refl, cond, nat_lt, Option, Some, None}
use Rattle.pulsar_laws.proofs.ActWords.{End, Overdue}
use Rattle.pulsar_requests.specs.Waits.{Pending, is_some_due, request_at}
use Rattle.pulsar_session.specs.Link.{Seen}
use Rattle.pulsar_calls.specs.declared.act.Outcome.TheVariants as outcome
use Rattle.pulsar_links.specs.LinkRules.{lost}
use Rattle.pulsar_links.specs.Links.{times_out}
use Rattle.pulsar_laws.specs.Laws.{ended_as, has_come, is_late}

-- a deadline has come for a request where it is overdue
come_same : (now : ℕ) (v : Seen) (r : Option Pending) → is_some_due now v.waits.excused r ≡ has_come now v.waits r
come_same now v None = refl
come_same now v (Some r) = refl

pub late_same : (end : End) (now : ℕ) (v : Seen) (place : ℕ) → times_out end now v place ≡ is_late end now v place
late_same (Overdue below) now v place = ap (λ b. nat_lt place below && b) (come_same now v (request_at place v.waits.waiting))
late_same end now v place = refl

-- and its asker is told so
pub lost_same : (end : End) (now : ℕ) (v : Seen) (place : ℕ) → lost end now v place ≡ ended_as end (is_late end now v place)
lost_same (Overdue below) now v place = ap (λ b. cond b outcome.TimedOut outcome.Disconnected) (late_same (Overdue below) now v place)
lost_same end now v place = refl
