-- An index lists just those that pass a test at a place. It stays so, as they change.
use Rattle.std.proofs.Common.{◌≡◌, ◌∙◌, ℕ, ◌==◌, ◌&&◌, ◌||◌, not, sym, ap, refl, Bool, true, false, cond, List, [], Option, Some, None}
use Rattle.std.proofs.lemmas.Bool.{eqb-true, false≢true}
use Rattle.std.specs.BTreeMap.{BTreeMap, is_at}
use Rattle.std.specs.BTreeSet.{BTreeSet}
use Rattle.std.specs.Map.{lookup}
use Rattle.std.specs.Option.{option_map}
use Rattle.std.specs.Ordering.{nat_cmp}
use Rattle.pulsar_consumer.specs.Topic.{is_on}
use Rattle.pulsar_consumer_table.specs.Consumers.{Member}
use Rattle.pulsar_consumer_table.specs.KeptConsumers.{Drops, Moves, listed_at, one_changed, some_changed, tickets_of}
use Rattle.pulsar_calls.specs.Places.{is_listed}

-- what is left of one that was listed where it passed the test, and passes it now or not
left : (was is one here kept : Bool) → (one ≡ false → was ≡ is) → (is ≡ true → was ≡ true) → (one ≡ true → was ≡ true → here ≡ true) → (here ≡ true → kept ≡ is) →
    (was && not (one && (here && not kept))) ≡ is
left true is false here kept same back there k = same refl
left false is false here kept same back there k = same refl
left false true true here kept same back there k = back refl
left false false true here kept same back there k = refl
left true is true false kept same back there k = absurd (false≢true (there refl refl))
left true is true true true same back there k = k refl
left true is true true false same back there k = k refl

-- what is left of one that has moved, and of another
moved_one : (was is x y : Bool) → was ≡ x → is ≡ y → ((was && not (x && true)) || (y && true)) ≡ is
moved_one true is true true e f = sym f
moved_one true is true false e f = sym f
moved_one true is false y e f = absurd (false≢true (sym e))
moved_one false is x true e f = sym f
moved_one false is x false e f = sym f

moved_other : (was x y : Bool) → ((was && not (x && false)) || (y && false)) ≡ was
moved_other true true y = refl
moved_other true false y = refl
moved_other false x true = refl
moved_other false x false = refl

-- none is listed in an index that is empty
pub none_listed : (index : BTreeMap ℕ (BTreeSet ℕ)) → index.entries ≡ [] → (t n : ℕ) → is_listed t (listed_at index n) ≡ false
none_listed index empty t n = ap (λ es. is_listed t (tickets_of (lookup (is_at (nat_cmp n)) es))) empty

module _ (test : ℕ → Option Member → Bool) where
  -- whoever passes the test is listed, and nobody else
  abbrev pub IsPlaced : BTreeMap ℕ (BTreeSet ℕ) → (ℕ → Option Member) → Type 0
  IsPlaced index rows = (t n : ℕ) → is_listed t (listed_at index n) ≡ test n (rows t)

  -- a change by which each passes it just where it did, and one by which none passes it where it did not
  abbrev pub Stays : (Member → Member) → Type 0
  Stays f = (n : ℕ) (m : Member) → test n (Some (f m)) ≡ test n (Some m)

  abbrev pub Holds : (Member → Member) → Type 0
  Holds f = (n : ℕ) (m : Member) → test n (Some (f m)) ≡ true → test n (Some m) ≡ true

  stays_so : (f : Member → Member) → Stays f → (b : Bool) (n : ℕ) (row : Option Member) → test n (cond b (option_map f row) row) ≡ test n row
  stays_so f stays true n None = refl
  stays_so f stays true n (Some m) = stays n m
  stays_so f stays false n row = refl

  holds_so : (f : Member → Member) → Holds f → (b : Bool) (n : ℕ) (row : Option Member) → test n (cond b (option_map f row) row) ≡ true → test n row ≡ true
  holds_so f holds true n None h = h
  holds_so f holds true n (Some m) h = holds n m h
  holds_so f holds false n row h = h

  module _ (index : BTreeMap ℕ (BTreeSet ℕ)) (rows : ℕ → Option Member) (placed : IsPlaced index rows) where
    -- where one is changed that stays where it is
    pub one_placed : (ticket : ℕ) (f : Member → Member) (after : ℕ → Option Member) → Stays f → ((t : ℕ) → after t ≡ one_changed ticket f rows t) → IsPlaced index after
    one_placed ticket f after stays is t n = placed t n ∙ sym (ap (test n) (is t) ∙ stays_so f stays (t == ticket) n (rows t))

    -- where some are changed, each at its place, and those are listed there no more that do not pass the test any longer
    pub some_placed : (index' : BTreeMap ℕ (BTreeSet ℕ)) (ts us : List ℕ) → us ≡ ts → (place : ℕ → ℕ) (f : Member → Member) (after : ℕ → Option Member) → Holds f →
        ((t : ℕ) → after t ≡ some_changed ts f rows t) →
        ((t n : ℕ) → is_listed t ts ≡ true → test n (rows t) ≡ true → (n == place t) ≡ true) →
        Drops us place (λ t. test (place t) (after t)) index index' →
        IsPlaced index' after
    some_placed index' ts us same place f after holds is there drops t n =
        drops t n
        ∙ ap (λ vs. is_listed t (listed_at index n) && not (is_listed t vs && ((n == place t) && not (test (place t) (after t))))) same
        ∙ ap (λ b. b && not (is_listed t ts && ((n == place t) && not (test (place t) (after t))))) (placed t n)
        ∙ left (test n (rows t)) (test n (after t)) (is_listed t ts) (n == place t) (test (place t) (after t))
        (λ e. sym (ap (test n) (is t ∙ ap (λ b. cond b (option_map f (rows t)) (rows t)) e)))
        (λ h. holds_so f holds (is_listed t ts) n (rows t) (sym (ap (test n) (is t)) ∙ h))
        (there t n)
        (λ e. ap (λ k. test k (after t)) (sym (eqb-true n (place t) e)))

    -- where one is changed, and moves from its place to the one that it has now
    pub moved_placed : (place : Option Member → Option ℕ) → ((n : ℕ) (row : Option Member) → test n row ≡ is_on n (place row)) →
        (index' : BTreeMap ℕ (BTreeSet ℕ)) (ticket : ℕ) (after : ℕ → Option Member) → ((t : ℕ) → (t == ticket) ≡ false → after t ≡ rows t) →
        (from to : Option ℕ) → from ≡ place (rows ticket) → to ≡ place (after ticket) → Moves ticket from to index index' → IsPlaced index' after
    moved_placed place by_place index' ticket after others from to was is moves t n =
        moves t n ∙ ap (λ b. (b && not (is_on n from && (t == ticket))) || (is_on n to && (t == ticket))) (placed t n) ∙ by (t == ticket) refl
      where
        by : (b : Bool) → (t == ticket) ≡ b → ((test n (rows t) && not (is_on n from && b)) || (is_on n to && b)) ≡ test n (after t)
        by true e =
            let same : t ≡ ticket = eqb-true t ticket e in
            moved_one (test n (rows t)) (test n (after t)) (is_on n from) (is_on n to)
            (by_place n (rows t) ∙ ap (λ u. is_on n (place (rows u))) same ∙ ap (is_on n) (sym was))
            (by_place n (after t) ∙ ap (λ u. is_on n (place (after u))) same ∙ ap (is_on n) (sym is))
        by false e = moved_other (test n (rows t)) (is_on n from) (is_on n to) ∙ ap (test n) (sym (others t e))
