-- A good run, over any rules.
--
-- A run is a list of events and acts. An event comes from outside, and brings parts. Each part comes as an act, one after the other. An act
-- changes what is seen, has effects, and gives rise to further acts, at once or by notices. A notice tells something to one of those who
-- take part, and that it is told is an act again. All whom an act has something to tell together are a cause: it serves them by rank,
-- and the next cause waits until it has served them all. An act may bring further parts, too: they come before those that its event still
-- brings.
use Rattle.std.specs.Prelude.{◌≡◌, Bool, List, [], ◌∷◌, ◌++◌, Option, Some, None, drop, map}
use Rattle.pulsar_run.specs.Order.{put_all, arranged}

-- The rules of a run. They look at the options and at what is seen, and at nothing else. What arises from an act comes at once; or it is
-- told to some who join those whom the present cause still serves, or to those whom each new cause serves; or it comes as a further part.
--     O options, H events, V what is seen, A acts, N notices, P parts of events, E effects
pub record Rules (O H V A N P E : Type 0) : Type 0 where
  -- what is seen at first, as an event begins, and after an act
  pub new : O → V
  pub begun : H → V → V
  pub after : A → V → V
  -- what an event brings, from the options and what is seen before it
  pub parts : O → V → H → List P
  -- what arises from an act, and its effects, from what is seen before it
  pub at_once : V → A → List A
  pub joins : V → A → List N
  pub causes : V → A → List (List N)
  pub further : V → A → List P
  pub effects : V → A → List E
  -- the act of a notice, and that of a part
  pub told : N → A
  pub comes : P → A
  -- the order in which a cause serves, and that of the effects of a step
  pub below : N → N → Bool
  pub effect_below : E → E → Bool

-- the log of a run, newest entry first: the events, and the acts between them
pub data Entry (H A : Type 0) : Type 0 where
  Begins : H → Entry H A
  Then : A → Entry H A

-- what is seen after a log
abbrev pub view : {O H V A N P E : Type 0} → Rules O H V A N P E → O → List (Entry H A) → V
view r o [] = r.new o
view r o (Begins e ∷ log) = r.begun e (view r o log)
view r o (Then a ∷ log) = r.after a (view r o log)

-- WHAT IS LEFT TO DO

-- What arose at once, first; then those whom the present cause still serves; then the causes that wait; then the parts that are
-- still to come.
pub record Agenda (A N P : Type 0) : Type 0 where
  pub now : List A
  pub here : List N
  pub behind : List (List N)
  pub parts : List P

-- as an event begins, its parts are all that is left
abbrev pub only : {A N P : Type 0} → List P → Agenda A N P
only parts = record { now = []; here = []; behind = []; parts = parts }

-- the act that is first in these lists, where these are the acts of a notice and of a part
abbrev pub first_by : {A N P : Type 0} → (N → A) → (P → A) → List A → List N → List (List N) → List P → Option A
first_by told comes (a ∷ now) here behind parts = Some a
first_by told comes [] (n ∷ here) behind parts = Some (told n)
first_by told comes [] [] (cause ∷ behind) parts = first_by told comes [] cause behind parts
first_by told comes [] [] [] (part ∷ parts) = Some (comes part)
first_by told comes [] [] [] [] = None

abbrev pub first_of : {O H V A N P E : Type 0} → Rules O H V A N P E → List A → List N → List (List N) → List P → Option A
first_of r now here behind parts = first_by r.told r.comes now here behind parts

-- what is left behind it
abbrev pub rest_of : {A N P : Type 0} → List A → List N → List (List N) → List P → Agenda A N P
rest_of (a ∷ now) here behind parts = record { now = now; here = here; behind = behind; parts = parts }
rest_of [] (n ∷ here) behind parts = record { now = []; here = here; behind = behind; parts = parts }
rest_of [] [] (cause ∷ behind) parts = rest_of [] cause behind parts
rest_of [] [] [] parts = only (drop 1 parts)

-- the same of an agenda
abbrev pub first : {O H V A N P E : Type 0} → Rules O H V A N P E → Agenda A N P → Option A
first r g = first_of r g.now g.here g.behind g.parts

abbrev pub rest : {A N P : Type 0} → Agenda A N P → Agenda A N P
rest g = rest_of g.now g.here g.behind g.parts

-- What arises from an act takes its place: what comes at once, in front of all; those who join, by rank among those whom the present cause
-- still serves; each new cause, by rank in itself, behind the causes that wait; and further parts, in front of the parts that wait.
abbrev pub goes_on : {O H V A N P E : Type 0} → Rules O H V A N P E → V → A → Agenda A N P → Agenda A N P
goes_on r v a g =
    record {
      now = r.at_once v a ++ g.now;
      here = put_all r.below (r.joins v a) g.here;
      behind = g.behind ++ map (arranged r.below) (r.causes v a);
      parts = r.further v a ++ g.parts;
    }

-- what is left to do after a log
abbrev pub agenda : {O H V A N P E : Type 0} → Rules O H V A N P E → O → List (Entry H A) → Agenda A N P
agenda r o [] = only []
agenda r o (Begins e ∷ log) = only (r.parts o (view r o log) e)
agenda r o (Then a ∷ log) = goes_on r (view r o log) a (rest (agenda r o log))

-- each act is the first that is left to do, and an event begins where nothing is left
abbrev pub IsRun : {O H V A N P E : Type 0} → Rules O H V A N P E → O → List (Entry H A) → Type 0
IsRun r o [] = Unit {0}
IsRun r o (Begins e ∷ log) = IsRun r o log × (first r (agenda r o log) ≡ None)
IsRun r o (Then a ∷ log) = IsRun r o log × (first r (agenda r o log) ≡ Some a)

-- nothing is left to do: so it is wherever a step has ended
abbrev pub Rests : {O H V A N P E : Type 0} → Rules O H V A N P E → O → List (Entry H A) → Type 0
Rests r o log = first r (agenda r o log) ≡ None

-- HISTORIES

-- an event with its effects
pub record Step (H E : Type 0) : Type 0 where
  pub event : H
  pub effects : List E

-- further effects in the newest step
abbrev pub with_effects : {H E : Type 0} → List E → List (Step H E) → List (Step H E)
with_effects xs [] = []
with_effects xs (s ∷ steps) = record { event = s.event; effects = s.effects ++ xs } ∷ steps

-- the steps of a log, newest first: each event with the effects of the acts up to the next, in the order of these acts
abbrev pub steps_done : {O H V A N P E : Type 0} → Rules O H V A N P E → O → List (Entry H A) → List (Step H E)
steps_done r o [] = []
steps_done r o (Begins e ∷ log) = record { event = e; effects = [] } ∷ steps_done r o log
steps_done r o (Then a ∷ log) = with_effects (r.effects (view r o log) a) (steps_done r o log)

-- a step with its effects in their order
abbrev pub in_order : {H E : Type 0} → (E → E → Bool) → Step H E → Step H E
in_order below s = record { event = s.event; effects = arranged below s.effects }

-- the steps of a log, with the effects of each in their order
abbrev pub steps : {O H V A N P E : Type 0} → Rules O H V A N P E → O → List (Entry H A) → List (Step H E)
steps r o log = map (in_order r.effect_below) (steps_done r o log)

-- a history, newest step first, is good where it is that of a run in which nothing is left to do
pub record Good {O H V A N P E : Type 0} (r : Rules O H V A N P E) (o : O) (history : List (Step H E)) : Type 0 where
  pub log : List (Entry H A)
  pub run : IsRun r o log
  pub rests : Rests r o log
  pub same : history ≡ steps r o log

-- its events
abbrev pub events : {H E : Type 0} → List (Step H E) → List H
events h = map (λ s. s.event) h
