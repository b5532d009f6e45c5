-- A thing is what was done to it since it was born; and what is so of each at its birth, and stays so by each act, is so.
use Rattle.std.proofs.Common.{◌≡◌, ◌∙◌, sym, ap, subst, List, [], ◌∷◌, ◌++◌, refl, Bool, true, false, Option, Some, None}
use Rattle.pulsar_run.specs.Run.{Entry, Begins, Then, IsRun, Rules, view}
use Rattle.pulsar_run.specs.Things.{Alone, IsBorn, Keeps, Kind, ThingsAlone, along, row_after, row_by, since, since_act}

pub along_more : {E S : Type 0} (after : E → S → S) (es past : List E) (s : S) → along after (es ++ past) s ≡ along after es (along after past s)
along_more after [] past s = refl
along_more after (e ∷ es) past s = ap (after e) (along_more after es past s)

-- a row that is there was there before, or is born
pub record WasThere {E S : Type 0} (after : E → S → S) (born : Option S) (es : List E) (row : Option S) (s : S) : Type 0 where
  pub none : born ≡ None
  pub before : S
  pub was : row ≡ Some before
  pub is_it : s ≡ along after es before

pub data Came {E S : Type 0} (after : E → S → S) (born : Option S) (es : List E) (row : Option S) (s : S) : Type 0 where
  WasIn : WasThere after born es row s → Came after born es row s
  IsNewIn : born ≡ Some s → Came after born es row s

pub by_acts : {E S : Type 0} (after : E → S → S) (es : List E) (row : Option S) (s : S) → row_by after es row ≡ Some s → WasThere after None es row s
by_acts after [] (Some t) s h = record { none = refl; before = t; was = refl; is_it = cc }
by_acts after [] None s h = absurd cc
by_acts after (e ∷ es) (Some t) s h = record { none = refl; before = t; was = refl; is_it = cc }
by_acts after (e ∷ es) None s h = absurd cc

pub came : {E S : Type 0} (after : E → S → S) (born : Option S) (gone : Bool) (es : List E) (row : Option S) (s : S) →
    row_after after born gone es row ≡ Some s → Came after born es row s
came after None false es row s h = WasIn (by_acts after es row s h)
came after None true es row s h = absurd cc
came after (Some b) gone es row s h = IsNewIn h

-- and one that was there is there still, unless another is born in its place
pub row_stays : {E S : Type 0} (after : E → S → S) (es : List E) (s : S) → row_by after es (Some s) ≡ Some (along after es s)
row_stays after [] s = refl
row_stays after (e ∷ es) s = refl

module _ {O H V A N P F K S E : Type 0} (r : Rules O H V A N P F) (t : Kind V H A K S E) (keeps : Keeps r t) (o : O) where
  IsBornIn : List (Entry H A) → K → S → Type 0
  IsBornIn log k s = IsBorn r t o log k s

  later : (e : Entry H A) (log : List (Entry H A)) (k : K) (s : S) → IsBorn r t o log k s → IsBorn r t o (e ∷ log) k s
  later e log k s b = record {
    act = b.act;
    newer = e ∷ b.newer;
    older = b.older;
    is_there = ap (λ l. e ∷ l) b.is_there;
    is_born = b.is_born;
  }

  goes_on : (e : Entry H A) (log : List (Entry H A)) (k : K) (es : List E) (was s : S) → Alone r t o log k was → s ≡ along t.after es was →
      since r t o (e ∷ log) k ≡ es ++ since r t o log k → Alone r t o (e ∷ log) k s
  goes_on e log k es was s a is since_is = record {
    at_first = a.at_first;
    is_born = later e log k a.at_first a.is_born;
    is_it =
        is ∙ ap (along t.after es) a.is_it ∙ sym (along_more t.after es (since r t o log k) a.at_first)
        ∙ ap (λ l. along t.after l a.at_first) (sym since_is);
  }

  pub alone : (log : List (Entry H A)) (k : K) (s : S) → t.row (view r o log) k ≡ Some s → Alone r t o log k s
  alone [] k s h = let e : None ≡ Some s = sym (keeps.none o k) ∙ h in absurd cc
  alone (Begins x ∷ log) k s h =
      let w = by_acts t.after (t.heard (view r o log) x k) (t.row (view r o log) k) s (sym (keeps.begins x (view r o log) k) ∙ h) in
      goes_on (Begins x) log k (t.heard (view r o log) x k) w.before s (alone log k w.before w.was) w.is_it refl
  alone (Then a ∷ log) k s h =
      elim (came t.after (t.born (view r o log) a k) (t.gone (view r o log) a k) (t.acts (view r o log) a k) (t.row (view r o log) k) s (sym (keeps.then_so a (view r o log) k) ∙ h)) [
        | WasIn w ↦
            goes_on (Then a) log k (t.acts (view r o log) a k) w.before s (alone log k w.before w.was) w.is_it
            (ap (λ b. since_act b (t.acts (view r o log) a k) (since r t o log k)) w.none)
        | IsNewIn b ↦ record {
          at_first = s;
          is_born = record { act = a; newer = []; older = log; is_there = refl; is_born = b };
          is_it = ap (λ x. along t.after (since_act x (t.acts (view r o log) a k) (since r t o log k)) s) (sym b);
        }
      ]

  -- WHAT HOLDS OF EACH
  module _ (I : S → Type 0) where
    pub along_holds : (es : List E) (s : S) → ((e : E) (s : S) → I s → I (t.after e s)) → I s → I (along t.after es s)
    along_holds [] s more i = i
    along_holds (e ∷ es) s more i = more e (along t.after es s) (along_holds es s more i)

    pub holds : ((v : V) (a : A) (k : K) (s : S) → t.born v a k ≡ Some s → I s) → ((e : E) (s : S) → I s → I (t.after e s)) →
        (log : List (Entry H A)) (k : K) (s : S) → t.row (view r o log) k ≡ Some s → I s
    holds born more log k s h =
        let a = alone log k s h in
        subst I (sym a.is_it)
        (along_holds (since r t o log k) a.at_first more (born (view r o a.is_born.older) a.is_born.act k a.at_first a.is_born.is_born))

  -- the same, where it takes that the log is a run, and what else is known of it
  module _ (I : K → S → List (Entry H A) → Type 0) where
    pub holds_along : ((a : A) (log : List (Entry H A)) (k : K) (s : S) → IsRun r o (Then a ∷ log) → t.born (view r o log) a k ≡ Some s → I k s (Then a ∷ log)) →
        ((x : H) (log : List (Entry H A)) (k : K) (s : S) → IsRun r o (Begins x ∷ log) → t.row (view r o log) k ≡ Some s → I k s log →
        I k (along t.after (t.heard (view r o log) x k) s) (Begins x ∷ log)) →
        ((a : A) (log : List (Entry H A)) (k : K) (s : S) → IsRun r o (Then a ∷ log) → t.row (view r o log) k ≡ Some s → I k s log →
        I k (along t.after (t.acts (view r o log) a k) s) (Then a ∷ log)) →
        (log : List (Entry H A)) (k : K) (s : S) → IsRun r o log → t.row (view r o log) k ≡ Some s → I k s log
    holds_along born heard more [] k s run h = let e : None ≡ Some s = sym (keeps.none o k) ∙ h in absurd cc
    holds_along born heard more (Begins x ∷ log) k s run h =
        let w = by_acts t.after (t.heard (view r o log) x k) (t.row (view r o log) k) s (sym (keeps.begins x (view r o log) k) ∙ h) in
        subst (λ y. I k y (Begins x ∷ log)) (sym w.is_it) (heard x log k w.before run w.was (holds_along born heard more log k w.before run.0 w.was))
    holds_along born heard more (Then a ∷ log) k s run h =
        elim (came t.after (t.born (view r o log) a k) (t.gone (view r o log) a k) (t.acts (view r o log) a k) (t.row (view r o log) k) s (sym (keeps.then_so a (view r o log) k) ∙ h)) [
          | WasIn w ↦ subst (λ y. I k y (Then a ∷ log)) (sym w.is_it) (more a log k w.before run w.was (holds_along born heard more log k w.before run.0 w.was))
          | IsNewIn b ↦ born a log k s run b
        ]

pub things_alone_lem : {O H V A N P F K S E : Type 0} → ThingsAlone O H V A N P F K S E
things_alone_lem r t keeps o log k s h = alone r t keeps o log k s h
