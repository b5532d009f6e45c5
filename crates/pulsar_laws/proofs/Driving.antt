-- A run, computed from its events: behind each event, the acts that are first, one after the other.
use Rattle.std.proofs.Common.{◌≡◌, ◌∙◌, sym, ap, ℕ, zero, suc, List, ◌∷◌, refl, map, Option, Some, None, []}
use Rattle.pulsar_laws.proofs.ActWords.{Act, Heard}
use Rattle.pulsar_laws.proofs.RunWords.{after, agenda, Agenda, Begins, begun, Entry, first, IsRun, Options, parts, rules, Then, view, View}
use Rattle.pulsar_run.specs.Run.{events, in_order, only, steps_done, with_effects}
use Rattle.pulsar_acts.specs.Effects.{effects}
use Rattle.pulsar_calls.specs.Order.{effect_below}
use Rattle.pulsar_acts.specs.Run.{Good, goes_on}
use Rattle.pulsar_calls.specs.Steps.{Step}
use Rattle.pulsar_agenda.specs.Agenda.{rest}
use Rattle.pulsar_acts.specs.View.{new}

-- what is seen, what is left to do, and the steps so far
pub record State : Type 0 where
  pub view : View
  pub left : Agenda
  pub done : List Step

abbrev pub fresh : Options → State
fresh o = record { view = new o; left = only []; done = [] }

abbrev pub acted : Act → State → State
acted a s = record { view = after a s.view; left = goes_on s.view a (rest s.left); done = with_effects (effects s.view a) s.done }

abbrev pub started : Options → Heard → State → State
started o e s = record { view = begun e s.view; left = only (parts o s.view e); done = record { event = e; effects = [] } ∷ s.done }

abbrev pub turned : (State → State) → Option Act → State → State
turned more None s = s
turned more (Some a) s = more (acted a s)

-- all acts that are first, but no more than so many
abbrev pub driven : ℕ → State → State
driven zero s = s
driven (suc n) s = turned (driven n) (first s.left) s

-- an event begins where nothing is left to do
abbrev pub opened : Options → ℕ → Heard → Option Act → State → Option State
opened o n e None s = Some (driven n (started o e s))
opened o n e (Some a) s = None

abbrev pub next : Options → ℕ → Heard → Option State → Option State
next o n e None = None
next o n e (Some s) = opened o n e (first s.left) s

-- after these events, newest first
abbrev pub state : Options → ℕ → List Heard → Option State
state o n [] = Some (fresh o)
state o n (e ∷ es) = next o n e (state o n es)

abbrev pub closed : Option Act → State → Option (List Step)
closed None s = Some (map (in_order effect_below) s.done)
closed (Some a) s = None

abbrev pub history_of : Option State → Option (List Step)
history_of None = None
history_of (Some s) = closed (first s.left) s

-- IT IS A RUN

module _ (o : Options) where
  record Stands (s : State) : Type 0 where
    log : List Entry
    run : IsRun o log
    sees : s.view ≡ view o log
    left : s.left ≡ agenda o log
    done : s.done ≡ steps_done rules o log

  acts : (a : Act) (s : State) → first s.left ≡ Some a → Stands s → Stands (acted a s)
  acts a s e k = record {
    log = Then a ∷ k.log;
    run = (k.run, ap first (sym k.left) ∙ e);
    sees = ap (after a) k.sees;
    left = λ i. goes_on (k.sees i) a (rest (k.left i));
    done = λ i. with_effects (effects (k.sees i) a) (k.done i);
  }

  starts : (e : Heard) (s : State) → first s.left ≡ None → Stands s → Stands (started o e s)
  starts e s none k = record {
    log = Begins e ∷ k.log;
    run = (k.run, ap first (sym k.left) ∙ none);
    sees = ap (begun e) k.sees;
    left = ap (λ v. only (parts o v e)) k.sees;
    done = ap (λ ss. record { event = e; effects = [] } ∷ ss) k.done;
  }

  turns : (more : State → State) → ((s : State) → Stands s → Stands (more s)) → (r : Option Act) (s : State) → first s.left ≡ r → Stands s →
      Stands (turned more r s)
  turns more goes_on None s e k = k
  turns more goes_on (Some a) s e k = goes_on (acted a s) (acts a s e k)

  drives : (n : ℕ) (s : State) → Stands s → Stands (driven n s)
  drives zero s k = k
  drives (suc n) s k = turns (driven n) (drives n) (first s.left) s refl k

  -- so of a state, if there is one
  abbrev SomeStands : Option State → Type 0
  SomeStands None = Unit {0}
  SomeStands (Some s) = Stands s

  opens : (n : ℕ) (e : Heard) (r : Option Act) (s : State) → first s.left ≡ r → Stands s → SomeStands (opened o n e r s)
  opens n e None s none k = drives n (started o e s) (starts e s none k)
  opens n e (Some a) s none k = tt

  follows : (n : ℕ) (e : Heard) (s : Option State) → SomeStands s → SomeStands (next o n e s)
  follows n e None k = tt
  follows n e (Some s) k = opens n e (first s.left) s refl k

  stands : (n : ℕ) (es : List Heard) → SomeStands (state o n es)
  stands n [] = record { log = []; run = tt; sees = refl; left = refl; done = refl }
  stands n (e ∷ es) = follows n e (state o n es) (stands n es)

  closes : (r : Option Act) (s : State) (h : List Step) → first s.left ≡ r → Stands s → closed r s ≡ Some h → Good o h
  closes None s h none k e =
      let same : map (in_order effect_below) s.done ≡ h = cc in
      record { log = k.log; run = k.run; rests = ap first (sym k.left) ∙ none; same = sym same ∙ ap (map (in_order effect_below)) k.done }
  closes (Some a) s h some k e = absurd cc

  ends : (s : Option State) (h : List Step) → SomeStands s → history_of s ≡ Some h → Good o h
  ends None h k e = absurd cc
  ends (Some s) h k e = closes (first s.left) s h refl k e

-- a history that is what is computed from its events is good
pub computed : (o : Options) (n : ℕ) (h : List Step) → history_of (state o n (events h)) ≡ Some h → Good o h
computed o n h e = ends o (state o n (events h)) h (stands o n (events h)) e
