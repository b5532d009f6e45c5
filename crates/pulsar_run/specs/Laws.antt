-- What follows from the definition of a good run, whatever the rules are.
use Rattle.std.specs.Prelude.{◌≡◌, ◌⊎◌, Bool, List, [], ◌∷◌, ◌++◌, map}
use Rattle.std.specs.Cmp.{IsStrictWeakOrder}
use Rattle.std.specs.List.{filter}
use Rattle.pulsar_run.specs.Order.{AllInOrder, Arranges, InOrder, arranged}
use Rattle.pulsar_run.specs.Run.{Entry, Begins, Then, Good, IsRun, Rules, Step, agenda, events, steps, steps_done, view}

-- options and events determine the effects of a good run
abbrev pub Determined : (O H V A N P E : Type 0) → Type 0
Determined O H V A N P E = (r : Rules O H V A N P E) (o : O) (h h' : List (Step H E)) →
    Good r o h → Good r o h' → events h ≡ events h' → h ≡ h'

-- what was a run before its newest entries is a run
abbrev pub OlderIsRun : (O H V A N P E : Type 0) → Type 0
OlderIsRun O H V A N P E = (r : Rules O H V A N P E) (o : O) (newer older : List (Entry H A)) →
    IsRun r o (newer ++ older) → IsRun r o older

-- the second steps are the first ones with the effects of each in order
abbrev pub ArrangeSteps : {H E : Type 0} → (E → E → Bool) → List (Step H E) → List (Step H E) → Type 0
ArrangeSteps below [] [] = Unit {0}
ArrangeSteps below (s ∷ ss) (t ∷ ts) = (s.event ≡ t.event) × Arranges below s.effects t.effects × ArrangeSteps below ss ts
ArrangeSteps below _ _ = ⊥

-- the effects of each step stand in order, and they are just those of its acts, each once
abbrev pub EffectsArranged : (O H V A N P E : Type 0) → Type 0
EffectsArranged O H V A N P E = (r : Rules O H V A N P E) (o : O) (log : List (Entry H A)) →
    IsStrictWeakOrder r.effect_below → ArrangeSteps r.effect_below (steps_done r o log) (steps r o log)

-- where those of a list that pass a test stand in order already, they stand so when the whole list is put in order
abbrev pub KindsInOrder : (E : Type 0) → Type 0
KindsInOrder E = (below : E → E → Bool) (test : E → Bool) (xs : List E) →
    IsStrictWeakOrder below → InOrder below (filter test xs) → filter test (arranged below xs) ≡ filter test xs

-- the present cause serves by rank, and so do the causes that wait
abbrev pub CausesInOrder : (O H V A N P E : Type 0) → Type 0
CausesInOrder O H V A N P E = (r : Rules O H V A N P E) (o : O) (log : List (Entry H A)) →
    IsStrictWeakOrder r.below → InOrder r.below (agenda r o log).here × AllInOrder r.below (agenda r o log).behind

-- a list holds this; one of some lists holds it
abbrev pub In : {A : Type 0} → A → List A → Type 0
In x [] = ⊥
In x (y ∷ ys) = (x ≡ y) ⊎ In x ys

abbrev pub InOne : {A : Type 0} → A → List (List A) → Type 0
InOne x [] = ⊥
InOne x (ys ∷ yss) = In x ys ⊎ InOne x yss

-- the newest step of a log has an entry that is so, with the entries before it
abbrev pub InThisStep : {H A : Type 0} → (Entry H A → List (Entry H A) → Type 0) → List (Entry H A) → Type 0
InThisStep P [] = ⊥
InThisStep P (Begins e ∷ log) = P (Begins e) log
InThisStep P (Then a ∷ log) = P (Then a) log ⊎ InThisStep P log

-- an act arises from an event, as a part of it, and from an act: at once, as the notice of one whom a cause serves, or as a further part
abbrev pub Arises : {O H V A N P E : Type 0} → Rules O H V A N P E → O → A → Entry H A → List (Entry H A) → Type 0
Arises r o a (Begins e) older = In a (map r.comes (r.parts o (view r o older) e))
Arises r o a (Then b) older =
    In a (r.at_once (view r o older) b)
    ⊎ (In a (map r.told (r.joins (view r o older) b))
    ⊎ (InOne a (map (map r.told) (r.causes (view r o older) b)) ⊎ In a (map r.comes (r.further (view r o older) b))))

-- whatever is done has arisen before, in the same step
abbrev pub ActsArise : (O H V A N P E : Type 0) → Type 0
ActsArise O H V A N P E = (r : Rules O H V A N P E) (o : O) (a : A) (log : List (Entry H A)) →
    IsRun r o (Then a ∷ log) → InThisStep (Arises r o a) log
