-- Things in what is seen, each by its key: one is born by an act, and from then on it is what its own acts make of it, and nothing else.
use Rattle.std.specs.Prelude.{◌≡◌, Bool, true, false, List, [], ◌∷◌, ◌++◌, Option, Some, None}
use Rattle.std.specs.Option.{option_map}
use Rattle.pulsar_run.specs.Run.{Entry, Begins, Then, Rules, view}

-- what acts make of one, the newest first
abbrev pub along : {E S : Type 0} → (E → S → S) → List E → S → S
along after [] s = s
along after (e ∷ es) s = after e (along after es s)

-- what becomes of a row: nothing, where nothing is done to it
abbrev pub row_by : {E S : Type 0} → (E → S → S) → List E → Option S → Option S
row_by after [] row = row
row_by after (e ∷ es) row = option_map (λ s. after e (along after es s)) row

-- and one that is born stands in it; one that ends leaves it
abbrev pub row_after : {E S : Type 0} → (E → S → S) → (born : Option S) → (gone : Bool) → List E → Option S → Option S
row_after after None false es row = row_by after es row
row_after after None true es row = None
row_after after (Some s) gone es row = Some s

-- A kind of thing: K its keys, S what is seen of one, E what is done to one.
pub record Kind (V H A K S E : Type 0) : Type 0 where
  pub row : V → K → Option S
  -- the one that an act makes, and what an act and an event do to one: nothing, where they are not of it
  pub born : V → A → K → Option S
  pub gone : V → A → K → Bool
  pub acts : V → A → K → List E
  pub heard : V → H → K → List E
  -- what is done to one makes this of it
  pub after : E → S → S

-- What is seen is so by these rules: the view's definition says it, so each is proved by computing, or by one case.
pub record Keeps {O H V A N P F K S E : Type 0} (r : Rules O H V A N P F) (t : Kind V H A K S E) : Type 0 where
  pub none : (o : O) (k : K) → t.row (r.new o) k ≡ None
  pub begins : (e : H) (v : V) (k : K) → t.row (r.begun e v) k ≡ row_by t.after (t.heard v e k) (t.row v k)
  pub then_so : (a : A) (v : V) (k : K) → t.row (r.after a v) k ≡ row_after t.after (t.born v a k) (t.gone v a k) (t.acts v a k) (t.row v k)

-- all that was done to one since it was born, the newest first
abbrev pub since_act : {E S : Type 0} → (born : Option S) → List E → List E → List E
since_act None es past = es ++ past
since_act (Some s) es past = []

abbrev pub since : {O H V A N P F K S E : Type 0} → Rules O H V A N P F → Kind V H A K S E → O → List (Entry H A) → K → List E
since r t o [] k = []
since r t o (Begins e ∷ log) k = t.heard (view r o log) e k ++ since r t o log k
since r t o (Then a ∷ log) k = since_act (t.born (view r o log) a k) (t.acts (view r o log) a k) (since r t o log k)

-- an act of the log made it so
pub record IsBorn {O H V A N P F K S E : Type 0} (r : Rules O H V A N P F) (t : Kind V H A K S E) (o : O) (log : List (Entry H A)) (k : K) (s : S) :
    Type 0 where
  pub act : A
  pub newer : List (Entry H A)
  pub older : List (Entry H A)
  pub is_there : log ≡ newer ++ Then act ∷ older
  pub is_born : t.born (view r o older) act k ≡ Some s

-- ALONE: one is what was done to it since it was born, and nothing else, in every log.
pub record Alone {O H V A N P F K S E : Type 0} (r : Rules O H V A N P F) (t : Kind V H A K S E) (o : O) (log : List (Entry H A)) (k : K) (s : S) :
    Type 0 where
  pub at_first : S
  pub is_born : IsBorn r t o log k at_first
  pub is_it : s ≡ along t.after (since r t o log k) at_first

abbrev pub ThingsAlone : (O H V A N P F K S E : Type 0) → Type 0
ThingsAlone O H V A N P F K S E = (r : Rules O H V A N P F) (t : Kind V H A K S E) → Keeps r t → (o : O) (log : List (Entry H A)) (k : K) (s : S) →
    t.row (view r o log) k ≡ Some s → Alone r t o log k s
