-- Along a run, one whose plan reports does so next, and no plan stands where a queued part of a call has not reported.
use Rattle.std.proofs.Common.{◌≡◌, ◌∙◌, sym, ap, subst, ℕ, List, ◌∷◌, ◌++◌, refl, Bool, true, false, ◌&&◌, cond, Option, Some, None, []}
use Rattle.pulsar_laws.proofs.ActWords.{Act, Action, Ask, Does, Find, Hold, Notice, OfTopic, Outcome, Part, PassTurn, Procedure, Rest, Shut, Starts, StopAll, Store, TakeBatch, Tell, TellAll, Told, Who, is_same}
use Rattle.pulsar_laws.proofs.PlanWords.{begins, Gives, Plan, PlanTransition, Stays, told}
use Rattle.pulsar_laws.proofs.RunWords.{agenda, Agenda, at_once, Begins, begun_same, does, Entry, first, first_of, follows, follows_some, IsRun, none_now, Options, rest, rules, stays, stays_some, tells, Then, told_some, view, View}
use Rattle.pulsar_laws.proofs.LinkWords.{answer_at, told_at}
use Rattle.pulsar_calls.specs.declared.act.Outcome.TheVariants as outcome
use Rattle.pulsar_producer_table.specs.Producers.{link_at, next_batch_at}
use Rattle.pulsar_acts.specs.Rules.{says_to}
use Rattle.pulsar_acts.specs.View.{stand_after}
use Rattle.pulsar_outgoing.specs.declared.news.News.TheVariants as news
use Rattle.pulsar_calls.specs.declared.act.Procedure.TheVariants as procedure
use Rattle.pulsar_laws.proofs.plans.Fitting.{Fits, Holds, Keeps, Leaves, Nowhere, Reports, Spot, Stores, Usual, begins_fits, fits, is_own, is_quick, is_stop, spot, told_fits}
use Rattle.pulsar_producer_table.specs.Asks.{link_said}
pub use Rattle.pulsar_laws.proofs.calls.Same.{same_self, same_who}

-- THE FIRST OF WHAT IS LEFT

-- this one does what it is told of at once, or is told
abbrev IsNext : Who → Act → Type 0
IsNext w (Does who action) = (who ≡ w) × (is_quick action ≡ true)
IsNext w (Told n) = n.who ≡ w
IsNext w a = ⊥

abbrev IsFirst : Who → List Act → Type 0
IsFirst w [] = ⊥
IsFirst w (a ∷ now) = IsNext w a

abbrev pub spot_of : Option Plan → Spot
spot_of None = Usual
spot_of (Some plan) = spot plan

abbrev SoundAt : Spot → Who → List Act → Type 0
SoundAt Usual w now = Unit {0}
SoundAt Reports w now = IsFirst w now
SoundAt Leaves w now = Unit {0}
SoundAt Keeps w now = Unit {0}
SoundAt Holds w now = IsFirst w now
SoundAt Stores w now = IsFirst w now
SoundAt Nowhere w now = ⊥

head_is : (w : Who) (now : List Act) (here : List Notice) (behind : List (List Notice)) (parts : List Part) (a : Act) →
    first_of rules now here behind parts ≡ Some a →
    IsFirst w now → IsNext w a
head_is w [] here behind parts a h k = absurd k
head_is w (b ∷ now) here behind parts a h k = subst (IsNext w) (let e : b ≡ a = cc in e) k

-- WHAT A PLAN DOES

both : (a b : Bool) → (a && b) ≡ true → (a ≡ true) × (b ≡ true)
both true b h = (refl, h)
both false b h = absurd cc

holds_on : (w who : Who) (action : Action) (left : List Act) → who ≡ w → is_quick action ≡ true → IsFirst w (does who action ++ left)
holds_on w who Rest left is h = absurd cc
holds_on w who action left is h = (is, h)

at_spot : (w who : Who) (s : Spot) (action : Action) (left : List Act) → who ≡ w → fits s action ≡ true → SoundAt s w (does who action ++ left)
at_spot w who Usual action left is h = tt
at_spot w who Reports (Tell n) left is h = (is, refl)
at_spot w who Reports action left is h = absurd cc
at_spot w who Leaves action left is h = tt
at_spot w who Keeps action left is h = tt
at_spot w who Stores (OfTopic n (Store entry)) left is h = (is, refl)
at_spot w who Stores action left is h = absurd cc
at_spot w who Holds action left is h = holds_on w who action left is (both (is_quick action) (is_own action) h).0
at_spot w who Nowhere action left is h = absurd cc

turn_sound : (w who : Who) (turn : PlanTransition) (left : List Act) → who ≡ w → Fits turn → SoundAt (spot_of (stays turn)) w (follows who turn ++ left)
turn_sound w who (Gives verdict) left is h = tt
turn_sound w who (Stays plan action) left is h = at_spot w who (spot plan) action left is h

start_sound : (w who : Who) (p : Procedure) (b : Bool) (left : List Act) → is_stop p ≡ b → who ≡ w →
    SoundAt (spot_of (stays (begins p))) w (follows who (begins p) ++ left)
start_sound w who p false left h is = turn_sound w who (begins p) left is (begins_fits p h)
start_sound w who procedure.Stop true left h is = tt
start_sound w who p true left h is = absurd cc

some_sound : (who : Who) (row : Option Plan) (u : Outcome) (left : List Act) →
    SoundAt (spot_of (stays_some (told_some row u))) who (follows_some who (told_some row u) ++ left)
some_sound who None u left = tt
some_sound who (Some plan) u left = turn_sound who who (told plan u) left refl (told_fits plan u)

-- ALONG A RUN

module _ (o : Options) (w : Who) (log : List Entry) (k : SoundAt (spot_of ((view o log).stand w)) w (agenda o log).now) where
  abbrev v : View
  v = view o log

  abbrev g : Agenda
  g = agenda o log

  abbrev left : List Act
  left = (rest g).now

  -- where another act is first, this one does not report
  elsewhere : (s : Spot) (a : Act) (later : List Act) → first g ≡ Some a → (IsNext w a → ⊥) → SoundAt s w g.now → SoundAt s w later
  elsewhere Usual a later fits other k = tt
  elsewhere Reports a later fits other k = absurd (other (head_is w g.now g.here g.behind g.parts a fits k))
  elsewhere Leaves a later fits other k = tt
  elsewhere Keeps a later fits other k = tt
  elsewhere Stores a later fits other k = absurd (other (head_is w g.now g.here g.behind g.parts a fits k))
  elsewhere Holds a later fits other k = absurd (other (head_is w g.now g.here g.behind g.parts a fits k))
  elsewhere Nowhere a later fits other k = absurd k

  others : (a : Act) (later : List Act) → first g ≡ Some a → (IsNext w a → ⊥) → SoundAt (spot_of (v.stand w)) w later
  others a later fits other = elsewhere (spot_of (v.stand w)) a later fits other k

  starts_on : (who : Who) (p : Procedure) → first g ≡ Some (Starts who p) →
      SoundAt (spot_of (stand_after (Starts who p) w (v.stand w))) w (follows who (begins p) ++ left)
  starts_on who p f = by (is_same w who) refl
    where
      by : (b : Bool) → is_same w who ≡ b → SoundAt (spot_of (cond b (stays (begins p)) (v.stand w))) w (follows who (begins p) ++ left)
      by true e = start_sound w who p (is_stop p) left refl (sym (same_who w who e))
      by false e = others (Starts who p) (follows who (begins p) ++ left) f (λ none. none)

  told_on : (n : Notice) → first g ≡ Some (Told n) →
      SoundAt (spot_of (stand_after (Told n) w (v.stand w))) w (follows_some n.who (told_some (v.stand n.who) n.outcome) ++ left)
  told_on n f = by (is_same w n.who) refl
    where
      acts : List Act
      acts = follows_some n.who (told_some (v.stand n.who) n.outcome) ++ left

      not_it : is_same w n.who ≡ false → n.who ≡ w → ⊥
      not_it e is = (let no : false ≡ true = sym e ∙ ap (is_same w) is ∙ same_self w in absurd cc)

      by : (b : Bool) → is_same w n.who ≡ b → SoundAt (spot_of (cond b (stays_some (told_some (v.stand w) n.outcome)) (v.stand w))) w acts
      by true e =
          subst (λ x. SoundAt (spot_of (stays_some (told_some (v.stand x) n.outcome))) x acts) (sym (same_who w n.who e))
          (some_sound n.who (v.stand n.who) n.outcome left)
      by false e = others (Told n) acts f (not_it e)

  -- one who does what it is told of at once is told next
  told_next : (who : Who) (action : Action) → is_quick action ≡ true → (u : Outcome) × (at_once v (Does who action) ≡ tells who u)
  told_next who (Tell n) q = (outcome.Granted news.Done, refl)
  told_next who (TellAll ns) q = (outcome.Granted news.Done, refl)
  told_next who (OfTopic n TakeBatch) q = (outcome.Granted (news.HasBatch (next_batch_at (v.producers.topics n))), refl)
  told_next who (OfTopic n (Store entry)) q = (outcome.Granted news.Done, refl)
  told_next who (Hold l n) q = (outcome.Granted news.Done, refl)
  told_next who (Shut t) q = (outcome.Granted news.Done, refl)
  told_next who (OfTopic n Find) q = found (link_at (v.producers.topics n))
    where
      found : (r : Option ℕ) → (u : Outcome) × (says_to who (link_said r) ≡ tells who u)
      found None = (outcome.Disconnected, refl)
      found (Some l) = (outcome.GotLink l, refl)
  told_next who (Ask l request) q = (told_at (answer_at v.now request (v.links.live l)), refl)
  told_next who (OfTopic n PassTurn) q = (outcome.Granted news.Done, refl)
  told_next who action q = absurd cc

  quick_on : (who : Who) (action : Action) → is_quick action ≡ true → first g ≡ Some (Does who action) →
      SoundAt (spot_of (v.stand w)) w (at_once v (Does who action) ++ left)
  quick_on who action q f =
      let t = told_next who action q in
      subst (λ xs. SoundAt (spot_of (v.stand w)) w (xs ++ left)) (sym t.1) (by t.0 (spot_of (v.stand w)) k)
    where
      by : (u : Outcome) (s : Spot) → SoundAt s w g.now → SoundAt s w (tells who u ++ left)
      by u Usual j = tt
      by u Reports j = (head_is w g.now g.here g.behind g.parts (Does who action) f j).0
      by u Leaves j = tt
      by u Keeps j = tt
      by u Holds j = (head_is w g.now g.here g.behind g.parts (Does who action) f j).0
      by u Stores j = (head_is w g.now g.here g.behind g.parts (Does who action) f j).0
      by u Nowhere j = absurd j

  does_on : (who : Who) (action : Action) (b : Bool) → is_quick action ≡ b → first g ≡ Some (Does who action) →
      SoundAt (spot_of (v.stand w)) w (at_once v (Does who action) ++ left)
  does_on who action true q f = quick_on who action q f
  does_on who action false q f =
      others (Does who action) (at_once v (Does who action) ++ left) f (λ next. let no : false ≡ true = sym q ∙ next.1 in absurd cc)

  sound_on : (a : Act) → first g ≡ Some a → SoundAt (spot_of (stand_after a w (v.stand w))) w (at_once v a ++ left)
  sound_on (Starts who p) f = starts_on who p f
  sound_on (Told n) f = told_on n f
  sound_on (Does who action) f = does_on who action (is_quick action) refl f
  sound_on a f = others a (at_once v a ++ left) f (λ none. none)

sound : (o : Options) (w : Who) (log : List Entry) → IsRun o log → SoundAt (spot_of ((view o log).stand w)) w (agenda o log).now
sound o w [] run = tt
sound o w (Begins e ∷ log) run =
    let g : Agenda = agenda o log in
    subst (λ row. SoundAt (spot_of row) w []) (sym (begun_same (λ v. v.stand w) e (view o log) refl))
    (subst (SoundAt (spot_of ((view o log).stand w)) w) (none_now g.now g.here g.behind g.parts run.1) (sound o w log run.0))
sound o w (Then a ∷ log) run = sound_on o w log (sound o w log run.0) a run.1

-- AT THE STOP

-- none reports, and none holds what it is told of at once
abbrev pub is_calm : Spot → Bool
is_calm Usual = true
is_calm Reports = false
is_calm Leaves = true
is_calm Keeps = true
is_calm Holds = false
is_calm Stores = false
is_calm Nowhere = false

pub calm_stop : (o : Options) (w who : Who) (log : List Entry) → IsRun o log → first (agenda o log) ≡ Some (Does who StopAll) →
    is_calm (spot_of ((view o log).stand w)) ≡ true
calm_stop o w who log run f = by (spot_of ((view o log).stand w)) (sound o w log run)
  where
    g : Agenda
    g = agenda o log

    never : IsNext w (Does who StopAll) → ⊥
    never next = (let no : false ≡ true = next.1 in absurd cc)

    by : (s : Spot) → SoundAt s w g.now → is_calm s ≡ true
    by Usual k = refl
    by Reports k = absurd (never (head_is w g.now g.here g.behind g.parts (Does who StopAll) f k))
    by Leaves k = refl
    by Keeps k = refl
    by Holds k = absurd (never (head_is w g.now g.here g.behind g.parts (Does who StopAll) f k))
    by Stores k = absurd (never (head_is w g.now g.here g.behind g.parts (Does who StopAll) f k))
    by Nowhere k = absurd k
