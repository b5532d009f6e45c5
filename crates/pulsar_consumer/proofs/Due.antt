-- Ids that are kept, over every history: which they are, and those that a check names.
use Rattle.std.proofs.Common.{◌≡◌, ◌∙◌, sym, ap, refl, subst, ℕ, ◌||◌, not, Bool, true, false, cond, List, [], ◌∷◌, ◌++◌, Option, Some, None}
use Rattle.std.proofs.lemmas.Map.Entries.{lookup-filter-keys}
use Rattle.std.specs.BTreeMap.{insert_entry}
use Rattle.std.specs.Cmp.{eq_by_cmp_equiv}
use Rattle.std.specs.List.{AllByRecursion, list_any}
use Rattle.std.specs.List.Sorted.{IsStrictlySortedBy}
use Rattle.std.specs.Map.{keys_of, lookup}
use Rattle.std.specs.Ordering.{ordering_reverse}
use Rattle.std.specs.declared.cmp.Ordering.{Ordering}
use Rattle.std.specs.declared.cmp.Ordering.TheVariants.{Less, Equal, Greater}
use Rattle.pulsar_wire.specs.Orders.{id_order}
use Rattle.pulsar_consumer.specs.Items.{Item}
use Rattle.pulsar_consumer.specs.Laws.{has_id, is_one_of}
use Rattle.pulsar_consumer.specs.IdOrder.{id_total}
use Rattle.pulsar_consumer.specs.Redelivery.{Id, Kept, forget, forget_all, id_of, is_same_id, keep, keep_all, keep_if, keep_item}
use Rattle.pulsar_consumer.proofs.Keeping.{exact_id, is_this, sorted_filter}

-- WHAT IS KEPT OF AN ID

found_at : {X : Type 0} (q k : Id) (v : X) (e : Id × X) (es : List (Id × X)) (o : Ordering) → id_order k e.0 ≡ o →
    lookup (is_same_id q) (insert_entry id_order es k v) ≡ cond (is_same_id q k) (Some v) (lookup (is_same_id q) es) →
    lookup (is_same_id q) (insert_entry id_order (e ∷ es) k v) ≡ cond (is_same_id q k) (Some v) (lookup (is_same_id q) (e ∷ es))
found_at q k v e es Less h more = rw h refl
found_at q k v e es Equal h more =
    let same : k ≡ e.0 = exact_id k e.0 h in
    rw h (subst (λ x. cond (is_same_id q e.0) (Some v) (lookup (is_same_id q) es) ≡ cond (is_same_id q x) (Some v) (lookup (is_same_id q) (e ∷ es))) (sym same)
    (by (is_same_id q e.0)))
  where
    by : (b : Bool) → cond b (Some v) (lookup (is_same_id q) es) ≡ cond b (Some v) (cond b (Some e.1) (lookup (is_same_id q) es))
    by true = refl
    by false = refl
found_at q k v e es Greater h more = rw h (by (is_same_id q e.0) (is_same_id q k) refl refl)
  where
    apart : is_same_id q e.0 ≡ true → is_same_id q k ≡ true → ⊥
    apart here there =
        let same : k ≡ e.0 = sym (is_this q k there) ∙ is_this q e.0 here in
        let equal : id_order e.0 e.0 ≡ Greater = subst (λ x. id_order x e.0 ≡ Greater) same h in
        let back = id_total.antisymm e.0 e.0 in
        let less : id_order e.0 e.0 ≡ Less = back ∙ ap ordering_reverse equal in
        absurd (let nay : Less ≡ Greater = sym less ∙ equal in cc)

    by : (b c : Bool) → is_same_id q e.0 ≡ b → is_same_id q k ≡ c →
        cond (is_same_id q e.0) (Some e.1) (lookup (is_same_id q) (insert_entry id_order es k v)) ≡ cond (is_same_id q k) (Some v)
        (cond (is_same_id q e.0) (Some e.1) (lookup (is_same_id q) es))
    by true true here there = absurd (apart here there)
    by true false here there = rw (here, there) refl
    by false c here there = rw here more

pub found_kept : {X : Type 0} (q k : Id) (v : X) (es : List (Id × X)) →
    lookup (is_same_id q) (insert_entry id_order es k v) ≡ cond (is_same_id q k) (Some v) (lookup (is_same_id q) es)
found_kept q k v [] = refl
found_kept q k v (e ∷ es) = found_at q k v e es (id_order k e.0) refl (found_kept q k v es)

not_cond : {X : Type 0} (b : Bool) (x : Option X) → cond (not b) x None ≡ cond b None x
not_cond true x = refl
not_cond false x = refl

pub found_left : (q id : Id) (kept : Kept) → lookup (is_same_id q) (forget id kept) ≡ cond (is_same_id id q) None (lookup (is_same_id q) kept)
found_left q id kept =
    lookup-filter-keys (is_same_id q) (λ k. not (is_same_id id k)) (not (is_same_id id q))
    (λ k here. ap (λ x. not (is_same_id id x)) (sym (is_this q k here))) kept
    ∙ not_cond (is_same_id id q) (lookup (is_same_id q) kept)

pub found_left_all : (q : Id) (ids : List Id) (kept : Kept) →
    lookup (is_same_id q) (forget_all ids kept) ≡ cond (list_any (is_same_id q) ids) None (lookup (is_same_id q) kept)
found_left_all q [] kept = refl
found_left_all q (id ∷ ids) kept =
    found_left_all q ids (forget id kept)
    ∙ ap (λ x. cond (list_any (is_same_id q) ids) None x) (found_left q id kept)
    ∙ ap (λ b. cond (list_any (is_same_id q) ids) None (cond b None (lookup (is_same_id q) kept))) ((eq_by_cmp_equiv id_total).symm id q)
    ∙ by (is_same_id q id) (list_any (is_same_id q) ids)
  where
    by : (b c : Bool) → cond c None (cond b None (lookup (is_same_id q) kept)) ≡ cond (b || c) None (lookup (is_same_id q) kept)
    by true true = refl
    by true false = refl
    by false true = refl
    by false false = refl

-- items are placed: those with this id are due then
pub found_placed : (q : Id) (due : ℕ) (items : List Item) (kept : Kept) →
    lookup (is_same_id q) (keep_all (Some due) items kept) ≡ cond (is_one_of q items) (Some due) (lookup (is_same_id q) kept)
found_placed q due [] kept = refl
found_placed q due (item ∷ items) kept =
    found_placed q due items (keep_item (Some due) item kept)
    ∙ ap (λ x. cond (is_one_of q items) (Some due) x) (one (id_of item))
    ∙ by (has_id q (id_of item)) (is_one_of q items)
  where
    one : (o : Option Id) → lookup (is_same_id q) (keep_if due o kept) ≡ cond (has_id q o) (Some due) (lookup (is_same_id q) kept)
    one None = refl
    one (Some id) = found_kept q id due kept

    by : (b c : Bool) → cond c (Some due) (cond b (Some due) (lookup (is_same_id q) kept)) ≡ cond (b || c) (Some due) (lookup (is_same_id q) kept)
    by true true = refl
    by true false = refl
    by false true = refl
    by false false = refl

pub kept_none : (items : List Item) (kept : Kept) → keep_all None items kept ≡ kept
kept_none [] kept = refl
kept_none (item ∷ items) kept = kept_none items kept

pub keep_more : (due : Option ℕ) (xs ys : List Item) (kept : Kept) → keep_all due (xs ++ ys) kept ≡ keep_all due ys (keep_all due xs kept)
keep_more due [] ys kept = refl
keep_more due (x ∷ xs) ys kept = keep_more due xs ys (keep_item due x kept)

-- THEY ARE IN ORDER

abbrev pub AreOrdered : Kept → Type 0
AreOrdered kept = IsStrictlySortedBy id_order (keys_of kept)

all_below : (a k : Id) (d : ℕ) (es : Kept) → id_order a k ≡ Less → AllByRecursion (λ b. id_order a b ≡ Less) (keys_of es) →
    AllByRecursion (λ b. id_order a b ≡ Less) (keys_of (insert_entry id_order es k d))
all_below a k d [] less all = (less, tt)
all_below a k d (e ∷ es) less all = by (id_order k e.0) refl (all_below a k d es less all.1)
  where
    by : (o : Ordering) → id_order k e.0 ≡ o → AllByRecursion (λ b. id_order a b ≡ Less) (keys_of (insert_entry id_order es k d)) →
        AllByRecursion (λ b. id_order a b ≡ Less) (keys_of (insert_entry id_order (e ∷ es) k d))
    by Less h more = rw h (less, all)
    by Equal h more = rw h all
    by Greater h more = rw h (all.0, more)

all_above : (k a : Id) (xs : List Id) → id_order k a ≡ Less → AllByRecursion (λ b. id_order a b ≡ Less) xs → AllByRecursion (λ b. id_order k b ≡ Less) xs
all_above k a [] less all = tt
all_above k a (x ∷ xs) less all = (id_total.trans k a x less all.0, all_above k a xs less all.1)

pub keep_ordered : (due : ℕ) (id : Id) (kept : Kept) → AreOrdered kept → AreOrdered (keep due id kept)
unfolding IsStrictlySortedBy
keep_ordered due id [] all = (tt, tt)
keep_ordered due id (e ∷ es) all = by (id_order id e.0) refl (keep_ordered due id es all.1)
  where
    by : (o : Ordering) → id_order id e.0 ≡ o → AreOrdered (insert_entry id_order es id due) → AreOrdered (insert_entry id_order (e ∷ es) id due)
    by Less h more = rw h ((h, all_above id e.0 (keys_of es) h all.0), all)
    by Equal h more = rw h all
    by Greater h more =
        let less : id_order e.0 id ≡ Less = id_total.antisymm e.0 id ∙ ap ordering_reverse h in
        rw h (all_below e.0 id due es less all.0, more)

pub placed_ordered : (due : Option ℕ) (items : List Item) (kept : Kept) → AreOrdered kept → AreOrdered (keep_all due items kept)
placed_ordered due [] kept all = all
placed_ordered None (item ∷ items) kept all = placed_ordered None items kept all
placed_ordered (Some due) (item ∷ items) kept all = placed_ordered (Some due) items (keep_item (Some due) item kept) (one (id_of item))
  where
    one : (o : Option Id) → AreOrdered (keep_if due o kept)
    one None = all
    one (Some id) = keep_ordered due id kept all

pub forget_ordered : (id : Id) (kept : Kept) → AreOrdered kept → AreOrdered (forget id kept)
forget_ordered id kept all = sorted_filter (λ e. not (is_same_id id e.0)) kept all

pub forget_all_ordered : (ids : List Id) (kept : Kept) → AreOrdered kept → AreOrdered (forget_all ids kept)
forget_all_ordered [] kept all = all
forget_all_ordered (id ∷ ids) kept all = forget_all_ordered ids (forget id kept) (forget_ordered id kept all)

pub forget_none : (ids : List Id) → forget_all ids [] ≡ []
forget_none [] = refl
forget_none (id ∷ ids) = forget_none ids
