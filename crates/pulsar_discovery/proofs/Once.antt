-- Each change of a connection is told once.
use Rattle.std.proofs.Common.{◌≡◌, ◌∙◌, ap, refl, ℕ, Bool, true, false, Option, Some, None, if◌then◌else◌}
use Rattle.pulsar_session.specs.Link as session
use Rattle.pulsar_session.specs.declared.states.Stage.{Stage}
use Rattle.pulsar_session.specs.declared.states.Stage.TheVariants.{Dialing, Handshaking, Ready, Over}
use Rattle.pulsar_discovery.specs.Manager.{Known, after_look, after_seen, is_over, left_of, looks, phase_after, seen_at, seen_by, seen_running}
use Rattle.pulsar_discovery.specs.declared.addresses.Phase.{Phase}
use Rattle.pulsar_discovery.specs.declared.addresses.Phase.TheVariants.{Runs, Pauses, Serves}
use Rattle.pulsar_discovery.specs.declared.addresses.Seat.{Seat}
use Rattle.pulsar_discovery.specs.declared.manager.Seen.{Seen}
use Rattle.pulsar_discovery.specs.declared.manager.Seen.TheVariants as seen
use Rattle.pulsar_discovery.specs.declared.manager.Terms.{Terms}
use Rattle.pulsar_discovery.proofs.Cases.{left_at, reseated_at, seat_left}

-- the connection that is left behind a change
abbrev connection_left : (over : Bool) → Option session.Seen → Option session.Seen
connection_left over c = if over then None else c

-- what is told of them then, by what was told
abbrev Then : Terms → (l now : ℕ) → Seat → session.Seen → Seen → Type 0
Then t l now s c what = seen_at t l (seat_left s.address (phase_after now s.phase what)) (connection_left (is_over what) (Some c)) ≡ seen.Same

failed : (t : Terms) (l now r : ℕ) (s : Seat) (c : session.Seen) (b : Bool) (delay : ℕ) → Then t l now s c (if b then seen.Retry delay else seen.Failed)
failed t l now r s c true delay = refl
failed t l now r s c false delay = refl

running : (t : Terms) (l now r : ℕ) (s : Seat) (c : session.Seen) (stage : Stage) → s.phase ≡ Runs r → c.stage ≡ stage → Then t l now s c (seen_running t l r stage c.error)
running t l now r s c Dialing p e = ap (λ x. seen_by t l x c) p ∙ ap (λ x. seen_running t l r x c.error) e
running t l now r s c Handshaking p e = ap (λ x. seen_by t l x c) p ∙ ap (λ x. seen_running t l r x c.error) e
running t l now r s c Ready p e = ap (λ x. if session.is_over x then seen.Ended else seen.Same) e
running t l now r s c Over p e = failed t l now r s c _ _

serving : (t : Terms) (l now since : ℕ) (s : Seat) (c : session.Seen) (over : Bool) → s.phase ≡ Serves since → session.is_over c.stage ≡ over → Then t l now s c (if over then seen.Ended else seen.Same)
serving t l now since s c true p e = refl
serving t l now since s c false p e = ap (λ x. seen_by t l x c) p ∙ ap (λ x. if x then seen.Ended else seen.Same) e

by_phase : (t : Terms) (l now : ℕ) (s : Seat) (c : session.Seen) (phase : Phase) → s.phase ≡ phase → Then t l now s c (seen_by t l phase c)
by_phase t l now s c (Runs r) p = running t l now r s c c.stage p refl
by_phase t l now s c (Pauses r) p = ap (λ x. seen_by t l x c) p
by_phase t l now s c (Serves since) p = serving t l now since s c (session.is_over c.stage) p refl

at_once : (t : Terms) (l now : ℕ) (s : Seat) (c : Option session.Seen) → seen_at t l (seat_left s.address (phase_after now s.phase (seen_at t l (Some s) c))) (connection_left (is_over (seen_at t l (Some s) c)) c) ≡ seen.Same
at_once t l now s None = refl
at_once t l now s (Some c) = by_phase t l now s c s.phase refl

-- the same where a seat stands, or none
standing : (l now : ℕ) (k : Known) (s : Option Seat) → k.series.seat l ≡ s → looks l (after_seen l now s (seen_at k.terms l s (k.connection l)) k) ≡ seen.Same
standing l now k None e = ap (λ s. seen_at k.terms l s (k.connection l)) e
standing l now k (Some s) e =
    let what = seen_at k.terms l (Some s) (k.connection l) in
    ap (λ x. seen_at k.terms l x (left_of l (is_over what) k.connection l)) (reseated_at l s.address (phase_after now s.phase what) k.series)
    ∙ (ap (λ x. seen_at k.terms l (seat_left s.address (phase_after now s.phase what)) x) (left_at l (is_over what) k.connection) ∙ at_once k.terms l now s (k.connection l))

pub told_once : (l now : ℕ) (k : Known) → looks l (after_look l now k) ≡ seen.Same
told_once l now k = standing l now k (k.series.seat l) refl
