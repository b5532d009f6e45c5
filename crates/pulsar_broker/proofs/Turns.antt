-- Consumers are served one after the other.
use Rattle.std.proofs.Common.{◌≡◌, ◌∙◌, sym, ap, refl, subst, ℕ, zero, suc, ◌+◌, ◌<◌, ◌≤◌, ◌==◌, ◌||◌, Bool, true, false, List, [], ◌∷◌, ◌++◌, arith}
use Rattle.std.proofs.lemmas.List.{append_assoc}
use Rattle.std.proofs.lemmas.List.Concat.{flat_map-append}
use Rattle.std.proofs.lemmas.Bool.{eqb-true}
use Rattle.std.proofs.lemmas.Bool.Decides.{nat_tests}
use Rattle.std.proofs.lemmas.Grind.{common_steps}
use Rattle.std.specs.List.{AllByRecursion, flat_map, range_with_len}
use Rattle.std.specs.List.Sorted.{IsStrictlySortedBy}
use Rattle.std.specs.Ordering.{nat_cmp}
use Rattle.std.specs.declared.cmp.Ordering.TheVariants.{Less}
use Rattle.pulsar_broker.specs.History.{bytes_for}
use Rattle.pulsar_broker.specs.Kept.{is_due_in, is_listed}
use Rattle.pulsar_broker.proofs.Due.{keeps_sated, sated}
use Rattle.pulsar_broker.proofs.Serving.{not_due}
use Rattle.pulsar_broker.specs.State.{Owed, State, Turn, serve, serve_all}

-- WHILE SEATS ARE SERVED

-- what is owed to each link so far, and behind these frames
abbrev pub owed_then : (now : ℕ → List ℕ) → List Owed → ℕ → List ℕ
owed_then now frames l = now l ++ flat_map (bytes_for l) frames

-- What is left to serve, behind what was served, is all that was to be served.
pub record AreServing (left : List ℕ) (s : State) (now : ℕ → List ℕ) (whole : Turn) (before : ℕ → List ℕ) : Type 0 where
  pub state : (serve_all left s).state ≡ whole.state
  pub given : (l : ℕ) → owed_then now (serve_all left s).given l ≡ owed_then before whole.given l

pub owed_more : (now new : ℕ → List ℕ) (first others : List Owed) → ((l : ℕ) → new l ≡ owed_then now first l) → (l : ℕ) →
    owed_then new others l ≡ owed_then now (first ++ others) l
owed_more now new first others is l =
    ap (λ xs. xs ++ flat_map (bytes_for l) others) (is l)
    ∙ append_assoc (now l) (flat_map (bytes_for l) first) (flat_map (bytes_for l) others)
    ∙ ap (λ xs. now l ++ xs) (sym (flat_map-append (bytes_for l) first others))

-- one more is served
pub served_one : (seat : ℕ) (left : List ℕ) (s next : State) (now new : ℕ → List ℕ) (whole : Turn) (before : ℕ → List ℕ) →
    next ≡ (serve seat s).state → ((l : ℕ) → new l ≡ owed_then now (serve seat s).given l) →
    AreServing (seat ∷ left) s now whole before → AreServing left next new whole before
served_one seat left s next now new whole before is gives serving =
    record {
      state = ap (λ x. (serve_all left x).state) is ∙ serving.state;
      given = λ l.
          ap (λ x. owed_then new (serve_all left x).given l) is
          ∙ owed_more now new (serve seat s).given (serve_all left (serve seat s).state).given gives l
          ∙ serving.given l;
    }

-- ALL SEATS, OR THOSE ALONE THAT ARE DUE

-- two turns, one behind the other
abbrev behind : Turn → Turn → Turn
behind first others = record { state = others.state; given = first.given ++ others.given }

none_due : (a n : ℕ) (s : State) → ((seat : ℕ) → is_due_in s seat ≡ false) → serve_all (range_with_len a n) s ≡ record { state = s; given = [] }
none_due a zero s none = refl
none_due a (suc n) s none =
    ap (λ (x : Turn). behind x (serve_all (range_with_len (a + 1) n) x.state)) (not_due a (s.consumers a) s (none a))
    ∙ ap (behind (record { state = s; given = [] })) (none_due (a + 1) n s none)

abbrev IsWithin : (a n : ℕ) → List ℕ → Type 0
IsWithin a n due = AllByRecursion (λ k. (a ≤ k) × (k < a + n)) due

below_less : (x y : ℕ) → nat_cmp x y ≡ Less → x < y
below_less x y h = grind (arith, nat_tests, common_steps)

-- none of these is listed whose numbers are greater
unlisted : (a : ℕ) (due : List ℕ) → AllByRecursion (λ k. a < k) due → is_listed a due ≡ false
unlisted a [] above = refl
unlisted a (k ∷ ks) above = let differ : (k == a) ≡ false = other above.0 in rw (differ, unlisted a ks above.1) refl
  where
    other : a < k → (k == a) ≡ false
    other lt = grind (arith, nat_tests)

all_above : (a n k : ℕ) (ks : List ℕ) → a < k → IsWithin a n ks → AllByRecursion (λ y. nat_cmp k y ≡ Less) ks → AllByRecursion (λ j. a < j) ks
all_above a n k [] lt within sorted = tt
all_above a n k (j ∷ js) lt within sorted = (above, all_above a n k js lt within.1 sorted.1)
  where
    above : a < j
    above = let less = below_less k j sorted.0 in omega (arith, lt, less)

-- those from the next number on
within_more : (a n : ℕ) (ks : List ℕ) → AllByRecursion (λ j. a < j) ks → IsWithin a (suc n) ks → IsWithin (a + 1) n ks
within_more a n [] above within = tt
within_more a n (j ∷ js) above within = ((omega (arith, above.0), omega (arith, within.0.1)), within_more a n js above.1 within.1)

behind_first : (k n : ℕ) (ks : List ℕ) → AllByRecursion (λ y. nat_cmp k y ≡ Less) ks → AllByRecursion (λ j. k < j) ks
behind_first k n [] sorted = tt
behind_first k n (j ∷ js) sorted = (below_less k j sorted.0, behind_first k n js sorted.1)

-- All seats of a range are served where those are that may be due.
pub due_alone : (n a : ℕ) (due : List ℕ) (s : State) → IsWithin a n due → IsStrictlySortedBy nat_cmp due → ((seat : ℕ) → is_listed seat due ≡ false → is_due_in s seat ≡ false) →
    serve_all (range_with_len a n) s ≡ serve_all due s
unfolding IsStrictlySortedBy
due_alone zero a [] s within sorted others = refl
due_alone zero a (k ∷ ks) s within sorted others = absurd (omega (arith, within.0.0, within.0.1))
due_alone (suc n) a [] s within sorted others = none_due a (suc n) s (λ seat. others seat refl)
due_alone (suc n) a (k ∷ ks) s within sorted others =
    by (k == a) refl
    (λ x first rest. due_alone n (a + 1) ks x rest sorted.1 first)
    (λ rest. due_alone n (a + 1) (k ∷ ks) s rest sorted others)
  where
    above : AllByRecursion (λ j. k < j) ks
    above = behind_first k n ks sorted.0

    unserved : (seat : ℕ) → k ≡ a → is_listed seat ks ≡ false → (b : Bool) → (a == seat) ≡ b → is_due_in (serve a s).state seat ≡ false
    unserved seat same h true e = subst (λ m. is_due_in (serve a s).state m ≡ false) (eqb-true a seat e) (sated a s)
    unserved seat same h false e = keeps_sated a seat s (others seat (ap (λ m. (m == seat) || is_listed seat ks) same ∙ ap (λ b. b || is_listed seat ks) e ∙ h))

    by : (b : Bool) → (k == a) ≡ b →
        ((x : State) → ((seat : ℕ) → is_listed seat ks ≡ false → is_due_in x seat ≡ false) → IsWithin (a + 1) n ks → serve_all (range_with_len (a + 1) n) x ≡ serve_all ks x) →
        (IsWithin (a + 1) n (k ∷ ks) → serve_all (range_with_len (a + 1) n) s ≡ serve_all (k ∷ ks) s) →
        serve_all (range_with_len a (suc n)) s ≡ serve_all (k ∷ ks) s
    by true e here there =
        let same : k ≡ a = eqb-true k a e in
        let rest : IsWithin (a + 1) n ks = within_more a n ks (subst (λ m. AllByRecursion (λ j. m < j) ks) same above) within.1 in
        ap (behind (serve a s)) (here (serve a s).state (λ seat h. unserved seat same h (a == seat) refl) rest)
        ∙ ap (λ m. serve_all (m ∷ ks) s) (sym same)
    by false e here there =
        let lt : a < k = grind (arith, nat_tests, within.0.0) in
        let far : AllByRecursion (λ j. a < j) (k ∷ ks) = (lt, all_above a (suc n) k ks lt within.1 sorted.0) in
        ap (λ (x : Turn). behind x (serve_all (range_with_len (a + 1) n) x.state)) (not_due a (s.consumers a) s (others a (unlisted a (k ∷ ks) far)))
        ∙ ap (behind (record { state = s; given = [] })) (there (within_more a n (k ∷ ks) far within))

-- Then nobody is due.
pub all_served : (due : List ℕ) (s : State) → ((seat : ℕ) → is_listed seat due ≡ false → is_due_in s seat ≡ false) → (seat : ℕ) → is_due_in (serve_all due s).state seat ≡ false
all_served [] s others seat = others seat refl
all_served (k ∷ ks) s others seat = all_served ks (serve k s).state (λ other h. by other h (k == other) refl) seat
  where
    by : (other : ℕ) → is_listed other ks ≡ false → (b : Bool) → (k == other) ≡ b → is_due_in (serve k s).state other ≡ false
    by other h true e = subst (λ m. is_due_in (serve k s).state m ≡ false) (eqb-true k other e) (sated k s)
    by other h false e = keeps_sated k other s (others other (ap (λ b. b || is_listed other ks) e ∙ h))
