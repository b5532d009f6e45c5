-- All consumers, as the code keeps them: by their entries, and by their tickets.
use Rattle.std.proofs.Common.{◌==◌, ◌≡◌, ◌∙◌, ℕ, ◌||◌, ◌++◌, sym, ap, refl, cond, filter, Bool, true, false, List, [], ◌∷◌, Option, Some, inl, inr}
use Rattle.std.proofs.lemmas.Bool.{cases_Bool, false≢true, or_right}
use Rattle.std.proofs.lemmas.Cmp.{nat_cmp_total}
use Rattle.std.proofs.lemmas.List.{append-nil}
use Rattle.std.proofs.lemmas.List.Elements.{recursion_from_All}
use Rattle.std.proofs.lemmas.Map.Views.{All-found}
use Rattle.std.specs.BTreeMap.{BTreeMap, IsOrdered, get, insert_entry, is_at, keys}
use Rattle.std.specs.BTreeSet.{insert_key}
use Rattle.std.specs.List.{AllByRecursion, flat_map, list_any}
use Rattle.std.specs.Map.{keys_of, lookup}
use Rattle.std.specs.Option.{is_some, option_map, option_to_list}
use Rattle.std.specs.Ordering.{match_ordering, nat_cmp}
use Rattle.std.specs.declared.cmp.Ordering.{Ordering}
use Rattle.std.specs.declared.cmp.Ordering.TheVariants.{Less, Equal, Greater}
use Rattle.pulsar_requests.proofs.Awaiting.{is_at-eqb}
use Rattle.pulsar_consumer_table.specs.declared.row.ConsumerRow.{ConsumerRow}
use Rattle.pulsar_consumer_table.specs.Consumers.{Member, at_row}
use Rattle.pulsar_consumer_table.specs.KeptConsumers.{member_in, rows_in}
use Rattle.pulsar_calls.proofs.Places.{swapped}

abbrev Found : BTreeMap ℕ ConsumerRow → List (ℕ × ConsumerRow) → Type 0
Found rows es = AllByRecursion (λ e. get nat_cmp rows e.0 ≡ Some e.1) es

pub all_found : (rows : BTreeMap ℕ ConsumerRow) → IsOrdered nat_cmp rows → Found rows rows.entries
all_found rows sorted = recursion_from_All (λ e. get nat_cmp rows e.0 ≡ Some e.1) rows.entries (All-found nat_cmp_total rows sorted)

-- what all give
gives : {A : Type 0} (f : ℕ → Member → List A) (rows : BTreeMap ℕ ConsumerRow) (es : List (ℕ × ConsumerRow)) → Found rows es →
    flat_map (λ e. f e.0 (member_in e.1)) es ≡ flat_map (at_row f (rows_in rows)) (keys_of es)
gives f rows [] h = refl
gives f rows (e ∷ es) h =
    ap (λ xs. f e.0 (member_in e.1) ++ xs) (gives f rows es h.1)
    ∙ sym (ap (λ xs. xs ++ flat_map (at_row f (rows_in rows)) (keys_of es)) (append-nil (f e.0 (member_in e.1))))
    ∙ sym (ap (λ row. flat_map (f e.0) (option_to_list (option_map member_in row)) ++ flat_map (at_row f (rows_in rows)) (keys_of es)) h.0)

pub all_give : {A : Type 0} (f : ℕ → Member → List A) (rows : BTreeMap ℕ ConsumerRow) → IsOrdered nat_cmp rows →
    flat_map (λ e. f e.0 (member_in e.1)) rows.entries ≡ flat_map (at_row f (rows_in rows)) (keys rows)
all_give f rows sorted = gives f rows rows.entries (all_found rows sorted)

-- those that are so
kept_of : (test : Option Member → Bool) (rows : BTreeMap ℕ ConsumerRow) (es : List (ℕ × ConsumerRow)) → Found rows es →
    keys_of (filter (λ e. test (Some (member_in e.1))) es) ≡ filter (λ t. test (rows_in rows t)) (keys_of es)
kept_of test rows [] h = refl
kept_of test rows (e ∷ es) h =
    let same : test (rows_in rows e.0) ≡ test (Some (member_in e.1)) = ap (λ row. test (option_map member_in row)) h.0 in
    elim (cases_Bool (test (Some (member_in e.1)))) [
      | inl y ↦ rw y (rw (same ∙ y) (ap (λ xs. e.0 ∷ xs) (kept_of test rows es h.1)))
      | inr n ↦ rw n (rw (same ∙ n) (kept_of test rows es h.1))
    ]

pub all_kept : (test : Option Member → Bool) (rows : BTreeMap ℕ ConsumerRow) → IsOrdered nat_cmp rows →
    keys_of (filter (λ e. test (Some (member_in e.1))) rows.entries) ≡ filter (λ t. test (rows_in rows t)) (keys rows)
all_kept test rows sorted = kept_of test rows rows.entries (all_found rows sorted)

-- one more is kept, or not
pub keys_end : {X : Type 0} (p : ℕ × X → Bool) (es : List (ℕ × X)) (e : ℕ × X) →
    keys_of (filter p (es ++ e ∷ [])) ≡ keys_of (filter p es) ++ cond (p e) (e.0 ∷ []) []
keys_end p [] e = elim (cases_Bool (p e)) [ inl y ↦ rw y refl | inr n ↦ rw n refl ]
keys_end p (f ∷ es) e = elim (cases_Bool (p f)) [ inl y ↦ rw y (ap (λ xs. f.0 ∷ xs) (keys_end p es e)) | inr n ↦ rw n (keys_end p es e) ]

pub filter_end : (p : ℕ → Bool) (ts : List ℕ) (t : ℕ) → filter p (ts ++ t ∷ []) ≡ filter p ts ++ cond (p t) (t ∷ []) []
filter_end p [] t = elim (cases_Bool (p t)) [ inl y ↦ rw y refl | inr n ↦ rw n refl ]
filter_end p (u ∷ ts) t = elim (cases_Bool (p u)) [ inl y ↦ rw y (ap (λ xs. u ∷ xs) (filter_end p ts t)) | inr n ↦ rw n (filter_end p ts t) ]

-- ONE MORE, AND ITS TICKET

keys_insert_by : {X : Type 0} (es : List (ℕ × X)) (e : ℕ × X) (k : ℕ) (v : X) → keys_of (insert_entry nat_cmp es k v) ≡ insert_key nat_cmp (keys_of es) k → (o : Ordering) →
    keys_of (match_ordering o ((k, v) ∷ e ∷ es) ((e.0, v) ∷ es) (e ∷ insert_entry nat_cmp es k v))
    ≡ match_ordering o (k ∷ e.0 ∷ keys_of es) (e.0 ∷ keys_of es) (e.0 ∷ insert_key nat_cmp (keys_of es) k)
keys_insert_by es e k v h Less = refl
keys_insert_by es e k v h Equal = refl
keys_insert_by es e k v h Greater = ap (λ ks. e.0 ∷ ks) h

pub keys_insert : {X : Type 0} (es : List (ℕ × X)) (k : ℕ) (v : X) → keys_of (insert_entry nat_cmp es k v) ≡ insert_key nat_cmp (keys_of es) k
keys_insert [] k v = refl
keys_insert (e ∷ es) k v = keys_insert_by es e k v (keys_insert es k v) (nat_cmp k e.0)

-- what is seen where one is put, or written
pub put : (ticket t : ℕ) (row : ConsumerRow) (old new : Option ConsumerRow) → new ≡ cond (is_at (nat_cmp ticket) t) (Some row) old →
    option_map member_in new ≡ cond (t == ticket) (Some (member_in row)) (option_map member_in old)
put ticket t row old new h =
    ap (option_map member_in) h ∙ ap (λ b. option_map member_in (cond b (Some row) old)) (is_at-eqb ticket t ∙ swapped ticket t) ∙ by (t == ticket)
  where
    by : (b : Bool) → option_map member_in (cond b (Some row) old) ≡ cond b (Some (member_in row)) (option_map member_in old)
    by true = refl
    by false = refl

-- whether one is so
any_of : (test : Option Member → Bool) (rows : BTreeMap ℕ ConsumerRow) (es : List (ℕ × ConsumerRow)) → Found rows es →
    list_any (λ e. test (Some (member_in e.1))) es ≡ list_any (λ t. test (rows_in rows t)) (keys_of es)
any_of test rows [] h = refl
any_of test rows (e ∷ es) h =
    ap (λ b. test (Some (member_in e.1)) || b) (any_of test rows es h.1)
    ∙ sym (ap (λ row. test (option_map member_in row) || list_any (λ t. test (rows_in rows t)) (keys_of es)) h.0)

pub any_row : (test : Option Member → Bool) (rows : BTreeMap ℕ ConsumerRow) → IsOrdered nat_cmp rows →
    list_any (λ e. test (Some (member_in e.1))) rows.entries ≡ list_any (λ t. test (rows_in rows t)) (keys rows)
any_row test rows sorted = any_of test rows rows.entries (all_found rows sorted)

-- one that is so is found, and it has one of the tickets
pub some_one : (test : ℕ → Bool) (ts : List ℕ) → list_any test ts ≡ true → (t : ℕ) × (test t ≡ true)
some_one test [] h = absurd (false≢true h)
some_one test (t ∷ ts) h = elim (cases_Bool (test t)) [ inl y ↦ (t, y) | inr n ↦ some_one test ts (rw n at h) ]

pub any_key : {X : Type 0} (test : ℕ → Bool) (t : ℕ) (same : (u : ℕ) → is_at (nat_cmp t) u ≡ true → test u ≡ true) (es : List (ℕ × X)) →
    is_some (lookup (is_at (nat_cmp t)) es) ≡ true → list_any test (keys_of es) ≡ true
any_key test t same [] h = absurd (false≢true h)
any_key test t same (e ∷ es) h = elim (cases_Bool (is_at (nat_cmp t) e.0)) [
  | inl y ↦ (let here : test e.0 ≡ true = same e.0 y in rw here refl)
  | inr n ↦ or_right (test e.0) (list_any test (keys_of es)) (any_key test t same es (rw n at h))
]
