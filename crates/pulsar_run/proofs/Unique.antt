-- Options and events determine a run.
use Rattle.std.proofs.Common.{◌≡◌, ℕ, zero, suc, ◌≤◌, ◌∙◌, sym, ap, map, List, [], ◌∷◌, ◌++◌, refl, arith, length, Some, None, ◌⊎◌, inl, inr, reverse, append_assoc, append-nil, length-append, subst}
use Rattle.std.specs.List.{slice_get}
use Rattle.std.proofs.lemmas.List.{length-reverse}
use Rattle.std.proofs.lemmas.Grind.{reverse_onto}
use Rattle.pulsar_run.specs.Run.{Entry, Begins, Then, Rules, agenda, view, in_order, IsRun, Step, steps, steps_done, first, with_effects, Good, events}

-- how many events have begun
abbrev begun : {H A : Type 0} → List (Entry H A) → ℕ
begun [] = 0
begun (Begins e ∷ log) = suc (begun log)
begun (Then a ∷ log) = begun log

-- the events of the log are the first of these
abbrev IsOf : {H A : Type 0} → List H → List (Entry H A) → Type 0
IsOf all [] = Unit {0}
IsOf all (Begins e ∷ log) = IsOf all log × (slice_get all (begun log) ≡ Some e)
IsOf all (Then a ∷ log) = IsOf all log

module _ {O H V A N P E : Type 0} (rs : Rules O H V A N P E) where
  pub older_run : (o : O) (xs log : List (Entry H A)) → IsRun rs o (xs ++ log) → IsRun rs o log
  older_run o [] log r = r
  older_run o (Begins e ∷ xs) log r = older_run o xs log r.0
  older_run o (Then a ∷ xs) log r = older_run o xs log r.0

  older_of : (all : List H) (xs log : List (Entry H A)) → IsOf all (xs ++ log) → IsOf all log
  older_of all [] log r = r
  older_of all (Begins e ∷ xs) log r = older_of all xs log r.0
  older_of all (Then a ∷ xs) log r = older_of all xs log r

  -- what comes next is determined
  next_same : (o : O) (all : List H) (a b : Entry H A) (log : List (Entry H A)) →
      IsRun rs o (a ∷ log) → IsOf all (a ∷ log) → IsRun rs o (b ∷ log) → IsOf all (b ∷ log) → a ≡ b
  next_same o all (Begins e) (Begins f) log r p s q = let h : Some e ≡ Some f = sym p.1 ∙ q.1 in cc
  next_same o all (Begins e) (Then a) log r p s q = let h : None ≡ Some a = sym r.1 ∙ s.1 in cc
  next_same o all (Then a) (Begins e) log r p s q = let h : None ≡ Some a = sym s.1 ∙ r.1 in cc
  next_same o all (Then a) (Then b) log r p s q = let h : Some a ≡ Some b = sym r.1 ∙ s.1 in cc

  last_view : {A : Type 0} (xs : List A) → (xs ≡ []) ⊎ ((ys : List A) × (x : A) × (xs ≡ ys ++ x ∷ []))
  last_view [] = inl refl
  last_view (x ∷ xs) = elim (last_view xs) [ inl e ↦ inr ([], x, ap (λ t. x ∷ t) e) | inr w ↦ inr (x ∷ w.0, w.1, ap (λ t. x ∷ t) w.2) ]

  -- of two runs of the same events one goes on from the other
  comparable : (o : O) (all : List H) (l m : List (Entry H A)) → IsRun rs o l → IsOf all l → IsRun rs o m → IsOf all m →
      ((xs : List (Entry H A)) × (m ≡ xs ++ l)) ⊎ ((xs : List (Entry H A)) × (l ≡ xs ++ m))
  comparable o all [] m r p s q = inl (m, sym (append-nil m))
  comparable o all (a ∷ l) m r p s q =
      elim (comparable o all l m (older_run o (a ∷ []) l r) (older_of all (a ∷ []) l p) s q) [
        | inr w ↦ inr (a ∷ w.0, ap (λ t. a ∷ t) w.1)
        | inl w ↦ elim (last_view w.0) [
          | inl e ↦ inr (a ∷ [], ap (λ t. a ∷ t) (sym (w.1 ∙ ap (λ t. t ++ l) e)))
          | inr v ↦
              (let m_is : m ≡ v.0 ++ (v.1 ∷ l) = w.1 ∙ ap (λ t. t ++ l) v.2 ∙ append_assoc v.0 (v.1 ∷ []) l in
              let run : IsRun rs o (v.1 ∷ l) = older_run o v.0 (v.1 ∷ l) (subst (IsRun rs o) m_is s) in
              let of : IsOf all (v.1 ∷ l) = older_of all v.0 (v.1 ∷ l) (subst (IsOf all) m_is q) in
              inl (v.0, m_is ∙ ap (λ t. v.0 ++ (t ∷ l)) (sym (next_same o all a v.1 l r p run of))))
        ]
      ]

  past_end : {A : Type 0} (xs : List A) (i : ℕ) → length xs ≤ i → slice_get xs i ≡ None
  past_end [] i h = refl
  past_end (x ∷ xs) zero h = absurd (omega (arith, h))
  past_end (x ∷ xs) (suc i) h = past_end xs i (omega (arith, h))

  at_end : {A : Type 0} (xs : List A) (e : A) (rest : List A) → slice_get (xs ++ e ∷ rest) (length xs) ≡ Some e
  at_end [] e rest = refl
  at_end (x ∷ xs) e rest = at_end xs e rest

  -- nothing comes after the whole run
  none_after : (o : O) (all : List H) (x : Entry H A) (l : List (Entry H A)) →
      IsRun rs o (x ∷ l) → IsOf all (x ∷ l) → first rs (agenda rs o l) ≡ None → length all ≤ begun l → ⊥
  none_after o all (Begins e) l r p h k = let f : None ≡ Some e = sym (past_end all (begun l) k) ∙ p.1 in cc
  none_after o all (Then a) l r p h k = let f : None ≡ Some a = sym h ∙ r.1 in cc

  nothing_more : (o : O) (all : List H) (xs l : List (Entry H A)) →
      IsRun rs o (xs ++ l) → IsOf all (xs ++ l) → first rs (agenda rs o l) ≡ None → length all ≤ begun l → xs ≡ []
  nothing_more o all xs l r p h k =
      elim (last_view xs) [
        | inl e ↦ e
        | inr v ↦
            (let is : xs ++ l ≡ v.0 ++ (v.1 ∷ l) = ap (λ t. t ++ l) v.2 ∙ append_assoc v.0 (v.1 ∷ []) l in
            absurd (none_after o all v.1 l (older_run o v.0 (v.1 ∷ l) (subst (IsRun rs o) is r)) (older_of all v.0 (v.1 ∷ l) (subst (IsOf all) is p)) h k))
      ]

  events_with : (x : List E) (h : List (Step H E)) → events (with_effects x h) ≡ events h
  events_with x [] = refl
  events_with x (s ∷ h) = refl

  events_in_order : (h : List (Step H E)) → events (map (in_order rs.effect_below) h) ≡ events h
  events_in_order [] = refl
  events_in_order (s ∷ h) = ap (λ es. s.event ∷ es) (events_in_order h)

  events_then : (o : O) (a : A) (l : List (Entry H A)) → events (steps rs o (Then a ∷ l)) ≡ events (steps rs o l)
  events_then o a l =
      events_in_order (with_effects (rs.effects (view rs o l) a) (steps_done rs o l))
      ∙ events_with (rs.effects (view rs o l) a) (steps_done rs o l)
      ∙ sym (events_in_order (steps_done rs o l))

  begun_is : (o : O) (l : List (Entry H A)) → begun l ≡ length (events (steps rs o l))
  begun_is o [] = refl
  begun_is o (Begins e ∷ l) = ap suc (begun_is o l)
  begun_is o (Then a ∷ l) = begun_is o l ∙ sym (ap length (events_then o a l))

  of_events : (o : O) (l : List (Entry H A)) (rest all : List H) → reverse (events (steps rs o l)) ++ rest ≡ all → IsOf all l
  of_events o [] rest all h = tt
  of_events o (Begins e ∷ l) rest all h =
      let older : List H = reverse (events (steps rs o l)) in
      let is : older ++ (e ∷ rest) ≡ all = sym (append_assoc older (e ∷ []) rest) ∙ ap (λ t. t ++ rest) (sym (reverse_onto (events (steps rs o l)) e [])) ∙ h in
      let place : begun l ≡ length older = begun_is o l ∙ sym (length-reverse (events (steps rs o l))) in
      (of_events o l (e ∷ rest) all is, rw (← is, place) (at_end older e rest))
  of_events o (Then a ∷ l) rest all h = of_events o l rest all (ap (λ es. reverse es ++ rest) (sym (events_then o a l)) ∙ h)

  logs_same : (o : O) (all : List H) (l m : List (Entry H A)) → IsRun rs o l → IsOf all l → IsRun rs o m → IsOf all m →
      first rs (agenda rs o l) ≡ None → first rs (agenda rs o m) ≡ None → length all ≤ begun l → length all ≤ begun m → l ≡ m
  logs_same o all l m r p s q hl hm kl km =
      elim (comparable o all l m r p s q) [
        | inl w ↦ (let none : w.0 ≡ [] = nothing_more o all w.0 l (subst (IsRun rs o) w.1 s) (subst (IsOf all) w.1 q) hl kl in
            sym (w.1 ∙ ap (λ t. t ++ l) none))
        | inr w ↦ (let none : w.0 ≡ [] = nothing_more o all w.0 m (subst (IsRun rs o) w.1 r) (subst (IsOf all) w.1 p) hm km in
            w.1 ∙ ap (λ t. t ++ m) none)
      ]

  -- the runs of good histories with the same events have the same log
  pub one_log : (o : O) (h h' : List (Step H E)) (g : Good rs o h) (g' : Good rs o h') → events h ≡ events h' → g.log ≡ g'.log
  one_log o h h' g g' same =
      let all : List H = reverse (events h) in
      let l_events : reverse (events (steps rs o g.log)) ++ [] ≡ all = append-nil (reverse (events (steps rs o g.log))) ∙ ap (λ t. reverse (events t)) (sym g.same) in
      let m_events : reverse (events (steps rs o g'.log)) ++ [] ≡ all = append-nil (reverse (events (steps rs o g'.log))) ∙ ap (λ t. reverse (events t)) (sym g'.same) ∙ ap reverse (sym same) in
      let l_count : length all ≤ begun g.log = rw (← l_events, begun_is o g.log) (simp (length-append, length-reverse) (omega arith)) in
      let m_count : length all ≤ begun g'.log = rw (← m_events, begun_is o g'.log) (simp (length-append, length-reverse) (omega arith)) in
      logs_same o all g.log g'.log g.run (of_events o g.log [] all l_events) g'.run (of_events o g'.log [] all m_events) g.rests g'.rests l_count m_count

  pub determined_lem : (o : O) (h h' : List (Step H E)) → Good rs o h → Good rs o h' → events h ≡ events h' → h ≡ h'
  determined_lem o h h' g g' same = g.same ∙ ap (steps rs o) (one_log o h h' g g' same) ∙ sym g'.same
