-- The link on which a consumer is subscribed was ready, since what was asked there was not refused.
use Rattle.std.proofs.Common.{◌≡◌, ◌⊎◌, inl, inr, ◌∙◌, sym, ap, subst, ℕ, List, [], ◌∷◌, refl, Bool, true, false, Option, Some, None, Result, Ok, Err}
use Rattle.std.specs.Prelude.{not}
use Rattle.pulsar_laws.proofs.ActWords.{Act, Action, Answers, Ask, Does, is_same, Notice, Outcome, Revive, Told, Verdict, Who, OfConsumer}
use Rattle.pulsar_laws.proofs.PlanWords.{begins, fails, Gives, Plan, PlanTransition, Stays, told}
use Rattle.pulsar_laws.proofs.RunWords.{agenda, Answered, Begins, Entry, first, follows, follows_some, IsRun, notice, Options, tells, Then, told_some, view}
use Rattle.pulsar_laws.proofs.LinkWords.{answer_at, ConnectionError, Exhausted, Fault, told_at, Words}
use Rattle.pulsar_wire.specs.Failures.{fault}
use Rattle.pulsar_session.specs.declared.states.Asked.{Asked as Placed}
use Rattle.pulsar_calls.specs.declared.act.Makes.TheVariants as makes
use Rattle.pulsar_calls.specs.declared.act.Outcome.TheVariants as outcome
use Rattle.pulsar_calls.specs.declared.content.Joining.{Joining}
use Rattle.pulsar_laws.proofs.plans.Standing.{moves, run_older, stands_so}
use Rattle.pulsar_laws.proofs.Cases.{none_some, some_is}
use Rattle.pulsar_laws.specs.Laws.{IsLed}
use Rattle.pulsar_laws.proofs.links.Receipts.{run_behind}
use Rattle.pulsar_laws.proofs.consumers.Flows.{first_at}
use Rattle.pulsar_laws.proofs.plans.Granted.{BeginsSo, IsLedSo, does_from}
use Rattle.pulsar_laws.proofs.plans.Led.{deeds_follow_lem}
use Rattle.pulsar_laws.proofs.links.Ready.{WasReady, more_ready, takes_ready}
use Rattle.pulsar_laws.proofs.calls.Same.{same_self}
use Rattle.pulsar_laws.proofs.plans.Subscribed.{From, LinkSo, MakesSo, Plain, TurnSo, Waits, asks_on, begins_plain, is_consumer, is_reviving, refuses, told_on}

-- what it asks there is done next, or it is told next that this was refused
abbrev pub Next : Options → List Entry → Who → ℕ → Type 0
Next o log w l =
    ((r : Words) × (first (agenda o log) ≡ Some (Does w (Ask l r))))
    ⊎ ((cause : Fault) × (first (agenda o log) ≡ Some (Told (notice w (outcome.Refused cause)))))

abbrev pub Reached : Options → List Entry → Who → Plan → ℕ → Type 0
Reached o log w p l = WasReady (view o log) l ⊎ ((is_reviving p ≡ false) × Next o log w l)

pub record AreReached (o : Options) (log : List Entry) : Type 0 where
  pub waits : (w : Who) (p : Plan) → (view o log).stand w ≡ Some p → Waits p
  pub reached : (w : Who) (p : Plan) (l : ℕ) → (view o log).stand w ≡ Some p → asks_on p ≡ Some l → Reached o log w p l

-- what one is told
abbrev said : Act → Outcome
said (Told n) = n.outcome
said _ = outcome.NotFound

abbrev heard : Act → Option Who
heard (Told n) = Some n.who
heard _ = None

-- one that is told something else than that it was refused has asked where that was taken
refused_not : (p : Plan) (u : Outcome) (cause : Fault) → u ≡ outcome.Refused cause → is_reviving p ≡ false → refuses p u ≡ false → ⊥
refused_not p u cause e rev h =
    let f : refuses p u ≡ true = ap (refuses p) e ∙ ap not rev in
    let g : true ≡ false = sym f ∙ h in cc

from_ready : (o : Options) (older : List Entry) (w : Who) (u : Outcome) (p : Plan) (l : ℕ) → first (agenda o older) ≡ Some (Told (notice w u)) →
    refuses p u ≡ false → Reached o older w p l → WasReady (view o older) l
from_ready o older w u p l fits h (inl ready) = ready
from_ready o older w u p l fits h (inr (rev, inl (r, next))) = (let f : Some (Told (notice w u)) ≡ Some (Does w (Ask l r)) = sym fits ∙ next in absurd cc)
from_ready o older w u p l fits h (inr (rev, inr (cause, next))) =
    let f : Told (notice w u) ≡ Told (notice w (outcome.Refused cause)) = some_is (sym fits ∙ next) in
    let g : u ≡ outcome.Refused cause = ap said f in
    absurd (refused_not p u cause g rev h)

-- WHAT COMES NEXT

-- it asks, and that is taken or refused
asks_next : (o : Options) (log : List Entry) (w : Who) (p : Plan) (l : ℕ) (r : Words) → is_reviving p ≡ false →
    Reached o (Then (Does w (Ask l r)) ∷ log) w p l
asks_next o log w p l r rev = by (answer_at (view o log).now r ((view o log).links.live l)) refl
  where
    by : (x : Result Placed ConnectionError) → answer_at (view o log).now r ((view o log).links.live l) ≡ x → Reached o (Then (Does w (Ask l r)) ∷ log) w p l
    by (Ok placed) e = inl (more_ready o (Then (Does w (Ask l r))) log l (takes_ready o log l r placed e))
    by (Err cause) e = inr (
      rev,
      inr (
        fault cause,
        first_at o log (Does w (Ask l r)) (Told (notice w (outcome.Refused (fault cause)))) (ap (λ x. tells w (told_at x)) e),
      ),
    )

-- it does something
does_next : (o : Options) (log : List Entry) (who : Who) (action : Action) (w : Who) (p : Plan) (l : ℕ) → first (agenda o log) ≡ Some (Does who action) →
    is_reviving p ≡ false → Next o log w l → Reached o (Then (Does who action) ∷ log) w p l
does_next o log who action w p l fits rev (inl (r, next)) =
    let f : Does w (Ask l r) ≡ Does who action = some_is (sym next ∙ fits) in
    subst (λ x. Reached o (Then x ∷ log) w p l) f (asks_next o log w p l r rev)
does_next o log who action w p l fits rev (inr (cause, next)) =
    (let f : Some (Told (notice w (outcome.Refused cause))) ≡ Some (Does who action) = sym next ∙ fits in absurd cc)

-- an act that is neither done nor told is not its own
abbrev is_apart : Act → Bool
is_apart (Told n) = false
is_apart (Does who action) = false
is_apart _ = true

apart_next : (o : Options) (log : List Entry) (a : Act) (w : Who) (l : ℕ) → is_apart a ≡ true → first (agenda o log) ≡ Some a → Next o log w l → ⊥
apart_next o log a w l h fits (inl (r, next)) =
    let f : a ≡ Does w (Ask l r) = some_is (sym fits ∙ next) in let g : true ≡ false = sym h ∙ ap is_apart f in cc
apart_next o log a w l h fits (inr (cause, next)) =
    let f : a ≡ Told (notice w (outcome.Refused cause)) = some_is (sym fits ∙ next) in let g : true ≡ false = sym h ∙ ap is_apart f in cc

-- another is told something
other_told : (o : Options) (log : List Entry) (n : Notice) (w : Who) (l : ℕ) → first (agenda o log) ≡ Some (Told n) → is_same w n.who ≡ false →
    Next o log w l → ⊥
other_told o log n w l fits d (inl (r, next)) = (let f : Told n ≡ Does w (Ask l r) = some_is (sym fits ∙ next) in cc)
other_told o log n w l fits d (inr (cause, next)) =
    let f : Told n ≡ Told (notice w (outcome.Refused cause)) = some_is (sym fits ∙ next) in
    let g : n.who ≡ w = some_is (ap heard f) in
    let s : is_same w n.who ≡ true = ap (is_same w) g ∙ same_self w in
    let x : true ≡ false = sym s ∙ d in
    cc

-- ALONG A LOG

module _ (o : Options) (w : Who) where
  waits_run : (log : List Entry) (p : Plan) → IsRun o log → (view o log).stand w ≡ Some p → Waits p
  waits_run =
      stands_so o w (IsRun o) (run_older o) (λ log p. Waits p) (λ e log p m r s k. k) (λ log q p a r e. (subst Plain e (begins_plain q)).0)
      (λ log b u p a r s k e. (subst (TurnSo b u) e (told_on b u k)).0)

  abbrev ReachedAt : List Entry → Plan → Type 0
  ReachedAt log p = (l : ℕ) → asks_on p ≡ Some l → Reached o log w p l

  more : (x : Entry) (log : List Entry) (p : Plan) → moves w x ≡ false → IsRun o (x ∷ log) → (view o log).stand w ≡ Some p → ReachedAt log p →
      ReachedAt (x ∷ log) p
  more x log p m run s k l h = by (k l h)
    where
      next_on : (x : Entry) → moves w x ≡ false → IsRun o (x ∷ log) → is_reviving p ≡ false → Next o log w l → Reached o (x ∷ log) w p l
      next_on (Begins e) m run rev (inl (r, next)) = absurd (none_some (sym run.1 ∙ next))
      next_on (Begins e) m run rev (inr (cause, next)) = absurd (none_some (sym run.1 ∙ next))
      next_on (Then (Does who action)) m run rev next = does_next o log who action w p l run.1 rev next
      next_on (Then (Told n)) m run rev next = absurd (other_told o log n w l run.1 m next)
      next_on (Then a) m run rev next = absurd (apart_next o log a w l refl run.1 next)

      by : Reached o log w p l → Reached o (x ∷ log) w p l
      by (inl ready) = inl (more_ready o x log l ready)
      by (inr (rev, next)) = next_on x m run rev next

  -- it is told something
  goes_on : (log : List Entry) (b : Plan) (u : Outcome) (p : Plan) (a : Action) → IsRun o (Then (Told (notice w u)) ∷ log) → (view o log).stand w ≡ Some b →
      ReachedAt log b → told b u ≡ Stays p a → ReachedAt (Then (Told (notice w u)) ∷ log) p
  goes_on log b u p a run s k e l h = by (asks_on p) h (subst (TurnSo b u) e (told_on b u (waits_run log b run.0 s))).1
    where
      by : (j : Option ℕ) → j ≡ Some l → LinkSo b u j p a → Reached o (Then (Told (notice w u)) ∷ log) w p l
      by None f g = absurd (none_some f)
      by (Some m) f g = subst (Reached o (Then (Told (notice w u)) ∷ log) w p) (some_is f) (at m g)
        where
          at : (m : ℕ) → LinkSo b u (Some m) p a → Reached o (Then (Told (notice w u)) ∷ log) w p m
          at m (inl from) = inl (more_ready o (Then (Told (notice w u))) log m (from_ready o log w u b m run.1 from.1 (k m from.0)))
          at m (inr (r, asks, rev)) = inr (
            rev,
            inl (
              r,
              first_at o log (Told (notice w u)) (Does w (Ask m r))
                  (ap (λ row. follows_some w (told_some row u)) s ∙ ap (λ t. follows w t) e ∙ ap (λ x. follows w (Stays p x)) asks),
            ),
          )

pub reached_run : (o : Options) (log : List Entry) → IsRun o log → AreReached o log
reached_run o log run = record {
  waits = λ w p h. waits_run o w log p run h;
  reached = λ w p l h d. stands_so o w (IsRun o) (run_older o) (ReachedAt o w) (more o w)
      (λ log q p a r e l h. absurd (none_some (sym (subst Plain e (begins_plain q)).1 ∙ h))) (goes_on o w) log p run h l d;
}

-- SO WHERE A SUBSCRIPTION IS MADE

told_ready : (o : Options) (older : List Entry) (w : Who) (u : Outcome) (p : Plan) (l : ℕ) → IsRun o (Then (Told (notice w u)) ∷ older) →
    (view o older).stand w ≡ Some p → From p u l → WasReady (view o (Then (Told (notice w u)) ∷ older)) l
told_ready o older w u p l run stood from =
    more_ready o (Then (Told (notice w u))) older l
    (from_ready o older w u p l run.1 from.1 ((reached_run o older run.0).reached w p l stood from.0))

turn_acts : (p : Plan) (u : Outcome) (t : PlanTransition) (q : Plan) (l : ℕ) → TurnSo p u t → t ≡ Stays q (OfConsumer (Revive l)) → From p u l
turn_acts p u t q l k e = (subst (TurnSo p u) e k).2.0

-- again
pub revives_ready : (o : Options) (log : List Entry) (w : Who) (l : ℕ) → IsRun o (Then (Does w (OfConsumer (Revive l))) ∷ log) → WasReady (view o log) l
revives_ready o log w l run = elim (does_from o log w (OfConsumer (Revive l)) run) [ inl k ↦ begun k | inr k ↦ led k ]
  where
    begun : BeginsSo o log w (OfConsumer (Revive l)) → WasReady (view o log) l
    begun k = let f = (subst Plain k.leads (begins_plain k.procedure)).2 in absurd cc

    led : IsLedSo o log w (OfConsumer (Revive l)) → WasReady (view o log) l
    led k =
        let r : IsRun o (Then (Told (notice w k.outcome)) ∷ k.older) = subst (IsRun o) k.is_there run.0 in
        let so : TurnSo k.before k.outcome (told k.before k.outcome) = told_on k.before k.outcome ((reached_run o k.older r.0).waits w k.before k.stood) in
        subst (λ x. WasReady (view o x) l) (sym k.is_there)
        (told_ready o k.older w k.outcome k.before l r k.stood (turn_acts k.before k.outcome (told k.before k.outcome) k.plan l so k.leads))

-- and for the first time
pub makes_of : (p : Plan) (u : Outcome) (t : PlanTransition) (v : Verdict) (j : Joining) → TurnSo p u t → t ≡ Gives v → v.makes ≡ makes.Consumer j →
    From p u j.link
makes_of p u t v j k e m = subst (MakesSo p u) m (subst (TurnSo p u) e k)

pub plain_makes : (t : PlanTransition) (v : Verdict) (j : Joining) → Plain t → t ≡ Gives v → v.makes ≡ makes.Consumer j → ⊥
plain_makes t v j k e m = let f : is_consumer v.makes ≡ false = subst Plain e k in let g : true ≡ false = sym (ap is_consumer m) ∙ f in cc

pub makes_ready : (o : Options) (log : List Entry) (w : Who) (v : Verdict) (j : Joining) → IsRun o (Then (Answers w v) ∷ log) → v.makes ≡ makes.Consumer j →
    WasReady (view o log) j.link
makes_ready o log w v j run m = by (deeds_follow_lem o log w (Answered v) run)
  where
    told_so : (older : List Entry) → IsRun o older → (u : Outcome) (p : Plan) → (x : Entry) → x ≡ Then (Told (notice w u)) → IsRun o (x ∷ older) →
        (view o older).stand w ≡ Some p → told p u ≡ Gives v → WasReady (view o (x ∷ older)) j.link
    told_so older was u p x is r stood leads =
        let r2 : IsRun o (Then (Told (notice w u)) ∷ older) = subst (λ y. IsRun o (y ∷ older)) is r in
        let so : TurnSo p u (told p u) = told_on p u ((reached_run o older was).waits w p stood) in
        subst (λ y. WasReady (view o (y ∷ older)) j.link) (sym is)
        (told_ready o older w u p j.link r2 stood (makes_of p u (told p u) v j so leads m))

    by : IsLed o w (Answered v) log → WasReady (view o log) j.link
    by (x, older, there, inl (p, is, leads)) = absurd (plain_makes (begins p) v j (begins_plain p) leads m)
    by (x, older, there, inr (inl (u, p, is, stood, leads))) =
        let r : IsRun o (x ∷ older) = subst (IsRun o) there run.0 in
        let was : IsRun o older = run_behind o (x ∷ []) older r in
        subst (λ y. WasReady (view o y) j.link) (sym there) (told_so older was u p x is r stood leads)
    by (x, older, there, inr (inr (asked, said, is, who, lacks, d))) =
        let f : v ≡ fails Exhausted = (let g : Answered v ≡ Answered (fails Exhausted) = d in cc) in
        let g : makes.Nothing ≡ makes.Consumer j = sym (ap (λ (y : Verdict). y.makes) f) ∙ m in absurd cc
