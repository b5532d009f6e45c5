-- What is shown of an attempt that is to follow, and of a link that the client ends.
use Rattle.std.proofs.Common.{◌≡◌, sym, subst, ℕ, refl, map, true, false, cond, Some, None, inl}
use Rattle.pulsar_laws.proofs.ActWords.{Comes, End, Ends, Idles, LinkAct, Overdue, Shown, Stops, ToLink}
use Rattle.pulsar_laws.proofs.RunWords.{In, Turned, turned, View}
use Rattle.pulsar_laws.proofs.LinkWords.{Fault, Pause}
use Rattle.pulsar_wire.specs.Failures.{Disconnected, Io}
use Rattle.pulsar_wire.specs.declared.error.IoKind.TheVariants as io
use Rattle.pulsar_session.specs.declared.states.Stage.{Stage}
use Rattle.pulsar_session.specs.declared.states.Stage.TheVariants.{Dialing, Handshaking, Over, Ready}
use Rattle.pulsar_session.specs.Link.{Seen, due, ends, is_over, is_ready}
use Rattle.pulsar_calls.specs.Content.{Close, Retry}
use Rattle.pulsar_calls.specs.declared.act.End.TheVariants.{Broken}
use Rattle.pulsar_links.specs.LinkEffects.{given_at}
use Rattle.pulsar_links.specs.Links.{close, effects as shows, ended, is_own_end, lost, lost_in}
use Rattle.pulsar_acts.specs.Effects.{effects, retries, retries_on}
use Rattle.pulsar_laws.specs.RetryLaws.{wait_behind}
use Rattle.pulsar_laws.specs.WordLaws.{EffectsAreSaid}
use Rattle.pulsar_laws.proofs.Lists.{in_right}

pub lost_early : (stage : Stage) → is_ready stage ≡ false → is_over stage ≡ false → lost_in stage ≡ Io io.Other
lost_early Dialing h k = refl
lost_early Handshaking h k = refl
lost_early Ready h k = absurd cc
lost_early Over h k = absurd cc

retry_shown : (v : View) (l : ℕ) (x : LinkAct) (t : Turned) (p : Pause) → turned v (Comes (ToLink l x)) ≡ Some t → t.pause ≡ Some p →
    In (Retry t.link (wait_behind v.chosen t.link p.retries)) (effects v (Comes (ToLink l x)))
retry_shown v l x t p is next =
    let it : Shown = Retry t.link (wait_behind v.chosen t.link p.retries) in
    in_right it (given_at l x v.now (v.links.live l)) (retries_on v.chosen (turned v (Comes (ToLink l x))))
    (subst (λ r. In it (retries_on v.chosen r)) (sym is) (subst (λ q. In it (retries v.chosen t.link q)) (sym next) (inl refl)))

own_shown : (l now : ℕ) (s : Seen) (end : End) (cause : Fault) → is_own_end end ≡ true → In (Close l) (ended l end now (Some cause) s)
own_shown l now s end cause h =
    in_right (Close l) (map (lost l end now s) (ends s)) (close l (is_own_end end)) (subst (λ b. In (Close l) (close l b)) (sym h) (inl refl))

due_shown : (l now : ℕ) (s : Seen) (queued : ℕ) → due now s ≡ true → In (Close l) (shows l (Ends (Overdue queued)) now s)
due_shown l now s queued h =
    subst (λ b. In (Close l) (ended l (Overdue queued) now (cond b (Some (Io io.TimedOut)) None) s)) (sym h)
    (own_shown l now s (Overdue queued) (Io io.TimedOut) refl)

pub effects_are_said_lem : EffectsAreSaid
effects_are_said_lem = record {
  retry = retry_shown;
  answer = λ v t verdict. refl;
  close = λ l now s. (
    own_shown l now s Idles Disconnected refl,
    own_shown l now s Stops Disconnected refl,
    λ cause. own_shown l now s (Broken cause) cause refl,
    λ queued h. due_shown l now s queued h,
  );
}
