-- What is still to be told to a topic producer by others: the outcome of what it waits for, once at most.
use Rattle.std.proofs.Common.{◌≡◌, inl, inr, ◌∙◌, sym, ap, subst, ℕ, zero, suc, ◌+◌, ◌≤◌, ◌<◌, ◌==◌, arith, List, [], ◌∷◌, ◌++◌, refl, map, Bool, true, false, ◌&&◌, cond, Option, Some, None}
use Rattle.std.proofs.lemmas.Bool.{cases_Bool, eqb-true}
use Rattle.std.specs.List.{cons_option, filter_map}
use Rattle.std.specs.Option.{option_map}
use Rattle.pulsar_laws.proofs.ActWords.{Act, below, Comes, Notice, numbers_from, opens, Outcome, Part, Producer, Told, Who, is_same}
use Rattle.pulsar_laws.proofs.RunWords.{agenda, arranged, causes, Each, Entry, first_of, IsRun, joins, notice, Options, put_all, rest, rest_of, rules, Then, view, View}
use Rattle.pulsar_laws.proofs.LinkWords.{tells_asker}
use Rattle.pulsar_requests.specs.Waits.{Pending, places}
use Rattle.pulsar_session.proofs.Steps.{Rises, rises_le}
use Rattle.pulsar_outgoing.specs.declared.news.News.TheVariants as news
use Rattle.pulsar_calls.specs.declared.act.Outcome.TheVariants as outcome
use Rattle.pulsar_laws.proofs.calls.Same.{same_who}
use Rattle.pulsar_laws.proofs.calls.Whereabouts.{times}
use Rattle.pulsar_laws.proofs.plans.Wording.{IsWord, is_word}
use Rattle.pulsar_laws.proofs.producers.TurnActs.{equal_self}
use Rattle.pulsar_laws.proofs.producers.Turns.{sum, sum_append, sum_none, sum_put_all}

-- what comes of a wait; but a turn, that a frame was queued, what is said of consumers, and what becomes of messages come elsewhere
abbrev pub is_hard : Outcome → Bool
is_hard (outcome.Granted (news.HasTurn version)) = false
is_hard outcome.Queued = false
is_hard (outcome.Word w) = false
is_hard (outcome.Settled f) = false
is_hard (outcome.Parted ticket f) = false
is_hard _ = true

word_soft : (u : Outcome) → is_word u ≡ true → is_hard u ≡ false
word_soft (outcome.Word w) h = refl
word_soft u h = absurd cc

-- how often a place is among these
abbrev pub count : ℕ → List ℕ → ℕ
count p ps = sum (λ q. cond (q == p) 1 0) ps

pub one_or_none : (b : Bool) → cond b 1 0 ≤ 1
one_or_none true = omega arith
one_or_none false = omega arith

module _ (n : ℕ) where
  abbrev pub me : Who
  me = Producer n

  abbrev pub note : Notice → ℕ
  note m = cond (is_same me m.who && is_hard m.outcome) 1 0

  abbrev pub owed : List Notice → ℕ
  owed ns = sum note ns

  abbrev pub all_owed : List (List Notice) → ℕ
  all_owed nss = sum owed nss

  soft_note : (m : Notice) → is_hard m.outcome ≡ false → note m ≡ 0
  soft_note m h =
      ap (λ b. cond (is_same me m.who && b) 1 0) h
      ∙ (elim (is_same me m.who) as (λ b. ◌≡◌ {A = ℕ} (cond (b && false) 1 0) 0) [ true ↦ refl | false ↦ refl ])

  pub other_note : (m : Notice) → is_same me m.who ≡ false → note m ≡ 0
  other_note m h = ap (λ b. cond (b && is_hard m.outcome) 1 0) h

  -- NOTHING IS OWED

  pub soft_owed : (ns : List Notice) → Each (λ m. is_hard m.outcome ≡ false) ns → owed ns ≡ 0
  soft_owed ns k = sum_none (λ m. is_hard m.outcome ≡ false) note ns soft_note k

  pub words_owed : (ns : List Notice) → Each IsWord ns → owed ns ≡ 0
  words_owed ns k = sum_none IsWord note ns (λ m h. soft_note m (word_soft m.outcome h)) k

  pub others_owed : (ns : List Notice) → Each (λ m. is_same me m.who ≡ false) ns → owed ns ≡ 0
  others_owed ns k = sum_none (λ m. is_same me m.who ≡ false) note ns other_note k

  -- IN THE AGENDA

  pub opens_owed : (ns : List Notice) → all_owed (opens ns) ≡ owed ns
  opens_owed [] = refl
  opens_owed (m ∷ ns) = omega arith

  arranged_owed : (nss : List (List Notice)) → all_owed (map (arranged below) nss) ≡ all_owed nss
  arranged_owed [] = refl
  arranged_owed (ns ∷ nss) =
      let k : all_owed (map (arranged below) nss) ≡ all_owed nss = arranged_owed nss in
      let x : owed (put_all below ns []) ≡ owed ns + owed [] = sum_put_all note below ns [] in
      omega (arith, k, x)

  -- by those whom the present cause serves, and those behind it
  abbrev pub owing : Options → List Entry → ℕ
  owing o log = owed (agenda o log).here + all_owed (agenda o log).behind

  abbrev pub took : List Act → Act → ℕ
  took [] (Told m) = note m
  took [] a = 0
  took (x ∷ now) a = 0

  pub rest_owed : (now : List Act) (here : List Notice) (behind : List (List Notice)) (parts : List Part) (a : Act) →
      first_of rules now here behind parts ≡ Some a →
      owed here + all_owed behind ≡ took now a + (owed (rest_of now here behind parts).here + all_owed (rest_of now here behind parts).behind)
  rest_owed (x ∷ now) here behind parts a h = omega arith
  rest_owed [] (m ∷ here) behind parts a h =
      let e : Told m ≡ a = cc in
      subst (λ (x : Act). note m + owed here + all_owed behind ≡ took [] x + (owed here + all_owed behind)) e (omega arith)
  rest_owed [] [] (c ∷ behind) parts a h = let k = rest_owed [] c behind parts a h in omega (arith, k)
  rest_owed [] [] [] (p ∷ parts) a h = let e : Comes p ≡ a = cc in subst (λ (x : Act). 0 + 0 ≡ took [] x + (0 + 0)) e refl
  rest_owed [] [] [] [] a h = absurd cc

  -- what an act brings
  abbrev pub brings : View → Act → ℕ
  brings v a = owed (joins v a) + all_owed (causes v a)

  pub owing_then : (o : Options) (log : List Entry) (a : Act) → IsRun o (Then a ∷ log) →
      owing o log + brings (view o log) a ≡ took (agenda o log).now a + owing o (Then a ∷ log)
  owing_then o log a run =
      let g = agenda o log in
      let v : View = view o log in
      let k = rest_owed g.now g.here g.behind g.parts a run.1 in
      let x : owed (put_all below (joins v a) (rest g).here) ≡ owed (joins v a) + owed (rest g).here = sum_put_all note below (joins v a) (rest g).here in
      let y : all_owed ((rest g).behind ++ map (arranged below) (causes v a)) ≡ all_owed (rest g).behind + all_owed (map (arranged below) (causes v a)) =
      sum_append owed (rest g).behind (map (arranged below) (causes v a)) in
      let z : all_owed (map (arranged below) (causes v a)) ≡ all_owed (causes v a) = arranged_owed (causes v a) in
      omega (arith, k, x, y, z)

  -- THOSE WHO ASKED

  askers_owed : (says : ℕ → Outcome) (f : ℕ → Option Who) (c : ℕ → ℕ) → ((q : ℕ) → f q ≡ Some me → 1 ≤ c q) → (ps : List ℕ) →
      owed (filter_map (tells_asker says f) ps) ≤ sum c ps
  askers_owed says f c only [] = omega arith
  askers_owed says f c only (q ∷ ps) = by (f q) refl (askers_owed says f c only ps)
    where
      by : (r : Option Who) → f q ≡ r → owed (filter_map (tells_asker says f) ps) ≤ sum c ps →
          owed (cons_option (option_map (λ who. notice who (says q)) r) (filter_map (tells_asker says f) ps)) ≤ c q + sum c ps
      by None e more = omega (arith, more)
      by (Some w) e more = elim (cases_Bool (is_same me w)) [
        | inl s ↦
            (let one : 1 ≤ c q = only q (e ∙ ap Some (sym (same_who me w s))) in
            let few : note (notice w (says q)) ≤ 1 = one_or_none (is_same me w && is_hard (says q)) in
            omega (arith, more, one, few))
        | inr s ↦ (let none : note (notice w (says q)) ≡ 0 = other_note (notice w (says q)) s in omega (arith, more, none))
      ]

  none_sum : (ps : List ℕ) → sum {A = ℕ} (λ q. 0) ps ≡ 0
  none_sum [] = refl
  none_sum (p ∷ ps) = let k : sum {A = ℕ} (λ q. 0) ps ≡ 0 = none_sum ps in omega (arith, k)

  pub unasked_owed : (says : ℕ → Outcome) (f : ℕ → Option Who) → ((q : ℕ) → f q ≡ Some me → ⊥) → (ps : List ℕ) →
      owed (filter_map (tells_asker says f) ps) ≡ 0
  unasked_owed says f none ps =
      let k = askers_owed says f (λ q. 0) (λ q e. absurd (none q e)) ps in let z : sum {A = ℕ} (λ q. 0) ps ≡ 0 = none_sum ps in omega (arith, k, z)

  pub asked_owed : (says : ℕ → Outcome) (f : ℕ → Option Who) (p : ℕ) → ((q : ℕ) → f q ≡ Some me → q ≡ p) → (ps : List ℕ) →
      owed (filter_map (tells_asker says f) ps) ≤ count p ps
  asked_owed says f p only ps =
      askers_owed says f (λ q. cond (q == p) 1 0)
      (λ q e. (let one : ◌≡◌ {A = ℕ} (cond (q == p) 1 0) 1 = ap (λ x. cond (x == p) 1 0) (only q e) ∙ ap (λ b. cond b 1 0) (equal_self p) in
      omega (arith, one))) ps

  -- those who wait for an address
  pub waiters_owed : (f : Who → Outcome) (ws : List Who) → owed (map (λ w. notice w (f w)) ws) ≤ times me ws
  waiters_owed f [] = omega arith
  waiters_owed f (w ∷ ws) =
      let more : owed (map (λ w. notice w (f w)) ws) ≤ times me ws = waiters_owed f ws in
      let one : note (notice w (f w)) ≤ cond (is_same me w) 1 0 = elim (is_same me w) as (λ b. cond (b && is_hard (f w)) 1 0 ≤ cond b 1 0) [
        | true ↦ one_or_none (is_hard (f w))
        | false ↦ omega arith
      ] in
      omega (arith, more, one)

-- PLACES THAT RISE: each is there once

pub rising_once : (p lo hi : ℕ) (ps : List Pending) → Rises lo ps hi →
    (count p (places ps) ≤ 1) × (p < lo → count p (places ps) ≡ 0) × (hi ≤ p → count p (places ps) ≡ 0)
rising_once p lo hi [] r = (omega arith, (λ h. refl), (λ h. refl))
rising_once p lo hi (x ∷ ps) r =
    let k = rising_once p (x.place + 1) hi ps r.1 in
    let le : x.place + 1 ≤ hi = rises_le (x.place + 1) ps hi r.1 in
    let low : lo ≤ x.place = r.0 in
    elim (cases_Bool (x.place == p)) [
      | inl e ↦
          (let same : x.place ≡ p = eqb-true x.place p e in
          let one : ◌≡◌ {A = ℕ} (cond (x.place == p) 1 0) 1 = ap (λ b. cond b 1 0) e in
          let none : count p (places ps) ≡ 0 = k.1 (omega (arith, same)) in
          (omega (arith, one, none), (λ h. absurd (omega (arith, h, low, same))), (λ h. absurd (omega (arith, h, le, same)))))
      | inr e ↦
          (let no : ◌≡◌ {A = ℕ} (cond (x.place == p) 1 0) 0 = ap (λ b. cond b 1 0) e in
          let few = k.0 in (
            omega (arith, no, few),
            (λ h. (let z : count p (places ps) ≡ 0 = k.1 (omega (arith, h, low)) in omega (arith, no, z))),
            (λ h. (let z : count p (places ps) ≡ 0 = k.2 h in omega (arith, no, z))),
          ))
    ]

pub numbers_once : (p a len : ℕ) → (count p (numbers_from a len) ≤ 1) × (p < a → count p (numbers_from a len) ≡ 0)
numbers_once p a zero = (omega arith, (λ h. refl))
numbers_once p a (suc len) =
    let k = numbers_once p (suc a) len in
    elim (cases_Bool (a == p)) [
      | inl e ↦
          (let same : a ≡ p = eqb-true a p e in
          let one : ◌≡◌ {A = ℕ} (cond (a == p) 1 0) 1 = ap (λ b. cond b 1 0) e in
          let none : count p (numbers_from (suc a) len) ≡ 0 = k.1 (omega (arith, same)) in
          (omega (arith, one, none), (λ h. absurd (omega (arith, h, same)))))
      | inr e ↦
          (let no : ◌≡◌ {A = ℕ} (cond (a == p) 1 0) 0 = ap (λ b. cond b 1 0) e in
          let few = k.0 in
          (omega (arith, no, few), (λ h. (let z : count p (numbers_from (suc a) len) ≡ 0 = k.1 (omega (arith, h)) in omega (arith, no, z)))))
    ]
