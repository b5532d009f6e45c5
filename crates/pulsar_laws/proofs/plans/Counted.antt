-- Where a topic has several partitions, a reply has said so.
use Rattle.std.proofs.Common.{arith, ◌≡◌, ◌⊎◌, inl, inr, sym, subst, ℕ, zero, suc, ◌+◌, ◌≤◌, ◌==◌, List, [], ◌∷◌, ◌++◌, length, refl, false, ◌&&◌, None, Result, Ok, Err}
use Rattle.std.proofs.lemmas.Bool.{cases_Bool, eqb-true}
use Rattle.pulsar_laws.proofs.ActWords.{Outcome}
use Rattle.pulsar_laws.proofs.PlanWords.{Denies, Heard as News, Later, Looking, Naming, Says, SearchTransition, Ways}
use Rattle.pulsar_laws.proofs.RunWords.{In}
use Rattle.pulsar_laws.proofs.LinkWords.{Failure, Named, Place, Reply}
use Rattle.pulsar_frame.specs.Reply.{Reply as Content}
use Rattle.pulsar_searches.specs.Plans as search
use Rattle.pulsar_addresses.specs.Address as search_low
use Rattle.pulsar_searches.specs.Plans.{is_lost, is_partition}
use Rattle.pulsar_searches.specs.Replies.{count_in}
use Rattle.pulsar_searches.specs.declared.count.Counting.{Counting}
use Rattle.pulsar_searches.specs.declared.count.Counting.TheVariants as count
use Rattle.pulsar_searches.specs.declared.names.Naming.TheVariants as name
use Rattle.pulsar_searches.specs.declared.replies.Heard.{Heard}
use Rattle.pulsar_searches.specs.declared.turn.SearchOutcome.TheVariants as news
use Rattle.pulsar_consumer.specs.Plans as consume
use Rattle.pulsar_calls.specs.declared.act.Outcome.TheVariants as outcome
use Rattle.pulsar_laws.proofs.Cases.{cond_so}
use Rattle.pulsar_searches.specs.declared.transition.Transition.TheVariants as transition

not_zero : (n : ℕ) → (n == 0) ≡ false → 1 ≤ n
not_zero zero h = absurd cc
not_zero (suc n) h = omega (arith)

one_more : (xs : List Named) (x : Named) → length (xs ++ x ∷ []) ≡ length xs + 1
one_more [] x = refl
one_more (y ∷ xs) x = let k = one_more xs x in omega (arith, k)

-- more than one, where they are some and not one
several_of : (xs : List Named) → consume.only xs ≡ None → 1 ≤ length xs → 2 ≤ length xs
several_of [] h some = omega (arith, some)
several_of (x ∷ []) h some = absurd cc
several_of (x ∷ y ∷ xs) h some = omega (arith)

module _ (w : Ways) (all : List Outcome) where
  -- a reply said that there are so many
  abbrev pub IsCounted : ℕ → Type 0
  IsCounted k = (r : Reply) × (retries : ℕ) × In (outcome.Replied r) all × (count_in w retries r.content ≡ Says k)

  abbrev pub Several : Type 0
  Several = (k : ℕ) × IsCounted k × (2 ≤ k)

  -- what is told is so
  abbrev pub Heeds : News → Type 0
  Heeds x = (r : Content) (n k : ℕ) → x ≡ news.Replied r → count_in w n r ≡ Says k → IsCounted k

  abbrev pub NamedIn : Naming → Type 0
  NamedIn (name.Part l p) = (length p.found + p.left + 1 ≡ p.count) × IsCounted p.count
  NamedIn (name.Counting c) = Unit {0}
  NamedIn (name.Whole l) = Unit {0}

  abbrev CountKept : SearchTransition Counting (Result ℕ Failure) → Type 0
  CountKept (transition.Stays s a) = Unit {0}
  CountKept (transition.Gives (Ok k)) = (k ≡ 0) ⊎ IsCounted k
  CountKept (transition.Gives (Err f)) = Unit {0}

  abbrev pub NamesKept : SearchTransition Naming (Result (List Named) Failure) → Type 0
  NamesKept (transition.Stays s a) = NamedIn s
  NamesKept (transition.Gives (Ok names)) = consume.only names ≡ None → Several
  NamesKept (transition.Gives (Err f)) = Unit {0}

  count_kept : (t : List ℕ) (c : Counting) (x : News) → Heeds x → CountKept (search.count_told w t c x)
  count_kept t (count.Getting again n) (news.GotLink l) h = tt
  count_kept t (count.Getting again n) _ h = tt
  count_kept t (count.Asked again n l) (news.Replied r) h = heard (count_in w n r) refl
    where
      heard : (x : Heard ℕ) → count_in w n r ≡ x → CountKept (search.count_heard w n l x)
      heard (Says k) e = inr (h r n k refl e)
      heard Later e = tt
      heard (Denies f) e = tt
  count_kept t (count.Asked again n l) x h =
      cond_so CountKept (again && is_lost (search.fault_of x)) (search.count_gets w false n) (search.fails (_)) tt tt
  count_kept t (count.Resting n l) news.Woken h = tt
  count_kept t (count.Resting n l) _ h = tt

  left_kept : (t : List ℕ) (n left : ℕ) (found : List Named) → length found + left ≡ n → 1 ≤ n → IsCounted n →
      NamesKept (search.names_left w t n left found)
  left_kept t n left found e some c = elim (cases_Bool (left == 0)) [
    | inl z ↦
        (let none : left ≡ 0 = eqb-true left 0 z in
        rw z (λ only. (
          n,
          c,
          (let x : 1 ≤ length found = omega (arith, e, some, none) in
              let y : 2 ≤ length found = several_of found only x in
              omega (arith, e, none, y)),
        )))
    | inr z ↦ (let more : 1 ≤ left = not_zero left z in rw z (omega (arith, e, more), c))
  ]

  of_kept : (t : List ℕ) (k : ℕ) → (k ≡ 0) ⊎ IsCounted k → NamesKept (search.names_of w t k)
  of_kept t k (inl e) = subst (λ x. NamesKept (search.names_of w t x)) (sym e) tt
  of_kept t k (inr c) = elim (cases_Bool (k == 0)) [
    | inl z ↦ rw z tt
    | inr z ↦ (let more : 1 ≤ k = not_zero k z in rw z (omega (arith, more), c))
  ]

  count_then : (t : List ℕ) (x : SearchTransition Counting (Result ℕ Failure)) → CountKept x → NamesKept (search.and_then x name.Counting (search.names_of w t))
  count_then t (transition.Stays s a) k = tt
  count_then t (transition.Gives (Ok n)) k = of_kept t n k
  count_then t (transition.Gives (Err f)) k = tt

  look_then : (x : SearchTransition Looking (Result Place Failure)) (within : Looking → Naming) (on : Place →
      SearchTransition Naming (Result (List Named) Failure)) →
      ((l : Looking) → NamedIn (within l)) → ((p : Place) → NamesKept (on p)) → NamesKept (search.and_then x within on)
  look_then (transition.Stays s a) within on k m = k s
  look_then (transition.Gives (Ok p)) within on k m = m p
  look_then (transition.Gives (Err f)) within on k m = tt

  only_one : (t : List ℕ) (p : Place) → consume.only (search_low.name_found [] t p) ≡ None → Several
  only_one t p h = absurd cc

  pub names_kept : (t : List ℕ) (n : Naming) (x : News) → Heeds x → NamedIn n → NamesKept (search.names_told w t n x)
  names_kept t (name.Counting c) x h k = count_then t (search.count_told w t c x) (count_kept t c x h)
  names_kept t (name.Whole l) x h k =
      look_then (search.look_told w t l x) name.Whole (λ p. transition.Gives (Ok (search_low.name_found [] t p))) (λ l. tt) (λ p. only_one t p)
  names_kept t (name.Part l p) x h k =
      look_then (search.look_told w p.name l x) (λ l. name.Part l p) (λ y. search.names_left w t p.count p.left (search_low.name_found p.found p.name y))
      (λ l. k) (λ y. left_kept t p.count p.left (search_low.name_found p.found p.name y) (so_many y) some k.1)
    where
      some : 1 ≤ p.count
      some = let e = k.0 in omega (arith, e)

      so_many : (y : Place) → length (search_low.name_found p.found p.name y) + p.left ≡ p.count
      so_many y = let e = k.0 in let m = one_more p.found (record { name = p.name; place = y }) in omega (arith, e, m)

  pub names_begin_kept : (t : List ℕ) → NamesKept (search.names_begins w t)
  names_begin_kept t = elim (cases_Bool (is_partition t)) [ inl e ↦ rw e tt | inr e ↦ rw e tt ]
