-- Whether something waits for a link, by the stage of the link.
use Rattle.std.proofs.Common.{◌≡◌, ℕ, ◌∙◌, sym, ap, refl, Bool, true, false, List, subst, ◌↔◌, inl, inr, Option, Some, None, IsTrue}
use Rattle.std.specs.Option.{option_map}
use Rattle.pulsar_session.specs.declared.states.Stage.{Stage}
use Rattle.pulsar_session.specs.declared.states.Stage.TheVariants.{Dialing, Handshaking, Ready, Over}
use Rattle.pulsar_session.specs.Link.{is_open}
use Rattle.pulsar_consumer_table.specs.Consumers.{IsHeard}
use Rattle.pulsar_acts.specs.declared.tables.Tables.{Tables}
use Rattle.pulsar_acts.specs.Run.{Good, view}
use Rattle.pulsar_calls.specs.Steps.{Step}
use Rattle.pulsar_client.specs.History.{Stands}
use Rattle.pulsar_acts.specs.Tables.{view_of}
use Rattle.pulsar_client.proofs.Stepping.{seen_of}
use Rattle.pulsar_acts.specs.View.{View, Waits, is_at, is_handshaking}
use Rattle.pulsar_machine.specs.Options.{Options}
use Rattle.pulsar_links.specs.Seats.{Seat, is_busy}

abbrev stage_of : Option Seat → Option Stage
stage_of row = option_map (λ seat. seat.seen.stage) row

at_stage : (test : Stage → Bool) (row : Option Seat) (s : Stage) → stage_of row ≡ Some s → is_at test row ≡ test s
at_stage test None s h = absurd cc
at_stage test (Some seat) s h = ap test cc

at_none : (test : Stage → Bool) (row : Option Seat) → stage_of row ≡ None → is_at test row ≡ false
at_none test None h = refl
at_none test (Some seat) h = absurd cc

-- what is answered of a link is right where it is right of what is seen
module _ (v : View) (l : ℕ) (b : Bool) where
  abbrev Right : Type 0
  Right = IsTrue b ↔ Waits l v

  closed : is_at is_open (v.links.live l) ≡ false → b ≡ false → Right
  closed h e = (
    (λ t. let no : false ≡ true = sym e ∙ t in absurd cc),
    (λ w. let no : false ≡ true = sym h ∙ w.0 in absurd cc),
  )

  pub none_waits : stage_of (v.links.live l) ≡ None → b ≡ false → Right
  none_waits h = closed (at_none is_open (v.links.live l) h)

  pub dialing_waits : stage_of (v.links.live l) ≡ Some Dialing → b ≡ false → Right
  dialing_waits h = closed (at_stage is_open (v.links.live l) Dialing h)

  pub over_waits : stage_of (v.links.live l) ≡ Some Over → b ≡ false → Right
  over_waits h = closed (at_stage is_open (v.links.live l) Over h)

  pub handshaking_waits : stage_of (v.links.live l) ≡ Some Handshaking → b ≡ true → Right
  handshaking_waits h e = (
    (λ t. (at_stage is_open (v.links.live l) Handshaking h, inl (at_stage is_handshaking (v.links.live l) Handshaking h))),
    (λ w. e),
  )

  pub busy_waits : stage_of (v.links.live l) ≡ Some Ready → is_busy (v.links.live l) ≡ true → b ≡ true → Right
  busy_waits h busy e = (
    (λ t. (at_stage is_open (v.links.live l) Ready h, inr (inl busy))),
    (λ w. e),
  )

  pub idle_waits : stage_of (v.links.live l) ≡ Some Ready → is_busy (v.links.live l) ≡ false → IsTrue b ↔ IsHeard l v.consumers.rows → Right
  idle_waits h idle heard = (
    (λ t. (at_stage is_open (v.links.live l) Ready h, inr (inr (heard.0 t)))),
    (λ w. elim w.1 [
      | inl e ↦ (let no : false ≡ true = sym (at_stage is_handshaking (v.links.live l) Ready h) ∙ e in absurd cc)
      | inr e ↦ elim e [
        | inl busy ↦ (let no : false ≡ true = sym idle ∙ busy in absurd cc)
        | inr is ↦ heard.1 is
      ]
    ]),
  )

-- and then of what is seen after the run of each history that the tables stand for
pub right_of : (c : Tables) {o : Options} {h : List Step} (l : ℕ) (b : Bool) → Right (view_of c) l b → Stands o c h → (g : Good o h) → IsTrue b ↔ Waits l (view o g.log)
right_of c l b is s g = subst (λ v. IsTrue b ↔ Waits l v) (seen_of c s g) is
