-- What was stored stands in batches, in order.
use Rattle.std.proofs.Common.{◌≡◌, ◌∙◌, sym, ap, refl, subst, ℕ, ◌-◌, Bool, true, false, cond, List, [], ◌∷◌, ◌++◌, Option, Some, None, arith, append-nil, append_assoc, length, length-append, take, ◌⊎◌, inl, inr}
use Rattle.std.proofs.Math.Seq.{take-append_seam, take-length}
use Rattle.std.proofs.lemmas.Grind.{flat_map-append}
use Rattle.std.specs.Option.{option_to_list}
use Rattle.pulsar_messages.specs.Claims.{is_spent}
use Rattle.pulsar_outgoing.specs.declared.multi_topic.Taker.{Taker}
use Rattle.pulsar_producer.specs.BatchLaws.{BatchesInOrder, CutInTime, FlushIsLast, ItemsInOrder, batches_dropped, cut_by, is_full, items_dropped, joined, stored_by, taken_by, taken_of, without_last}
use Rattle.pulsar_outgoing.specs.Storage.{Item, SingleMessage, Flush, Storage, is_ready, pushed}
use Rattle.pulsar_producer.specs.Topic.{Act, Takes, Draws, Closes, Stores, Flushes, Cuts, TakesBatch, Halts, Seen, after, cuts, flushes, is_settled, left_of, next_of, seen, stores, takes_in}
use Rattle.pulsar_outgoing.specs.Storage.{is_nothing}
use Rattle.pulsar_outgoing.specs.declared.storage.Limits.{Limits}
use Rattle.pulsar_producer.proofs.Storages.{NotYet, draws_storage, flush_full, left_storage, limits_stay, not_yet, split_last, takes_storage}

-- LISTS

whole : {X : Type 0} (xs : List X) → without_last 0 xs ≡ xs
whole xs = let e : length xs - 0 ≡ length xs = omega arith in ap (λ n. take n xs) e ∙ take-length xs

but_last : {X : Type 0} (xs ys : List X) → without_last (length ys) (xs ++ ys) ≡ xs
but_last xs ys =
    let sum = length-append xs ys in
    let e : length (xs ++ ys) - length ys ≡ length xs = omega (arith, sum) in
    ap (λ n. take n (xs ++ ys)) e ∙ take-append_seam xs ys

pub joined_one : (b : List Item) → joined (b ∷ []) ≡ b
joined_one b = append-nil b

pub joined_append : (bs cs : List (List Item)) → joined (bs ++ cs) ≡ joined bs ++ joined cs
joined_append bs cs = flat_map-append (λ b. b) bs cs

-- BATCHES

takes_cut : (o : Option Taker) (t : Taker) (v : Seen) → (takes_in o t v).cut ≡ v.cut
takes_cut None t v = refl
takes_cut (Some other) t v = refl

draws_cut : (b : Bool) (v w : Seen) → w.cut ≡ v.cut → (cond b v w).cut ≡ v.cut
draws_cut true v w e = refl
draws_cut false v w e = e

stores_cut : (x : Item) (v : Seen) → v.cut ++ cond (is_ready (pushed x v.storage)) ((v.storage.items ++ x ∷ []) ∷ []) [] ≡ (stores x v).cut
stores_cut x v = by (is_ready (pushed x v.storage))
  where
    by : (b : Bool) → v.cut ++ cond b ((v.storage.items ++ x ∷ []) ∷ []) [] ≡ (cond b (cuts (record v { storage = pushed x v.storage })) (record v { storage = pushed x v.storage })).cut
    by true = refl
    by false = append-nil v.cut

flushes_cut : (t : ℕ) (v : Seen) → v.cut ++ cond (is_settled v) [] ((v.storage.items ++ Flush t ∷ []) ∷ []) ≡ (flushes t v).cut
flushes_cut t v = by (is_settled v)
  where
    by : (b : Bool) → v.cut ++ cond b [] ((v.storage.items ++ Flush t ∷ []) ∷ []) ≡ (cond b v (stores (Flush t) v)).cut
    by true = append-nil v.cut
    by false = ap (λ b. v.cut ++ cond b ((v.storage.items ++ Flush t ∷ []) ∷ []) []) (sym (flush_full v.storage.limits v.storage.items t)) ∙ stores_cut (Flush t) v

cuts_cut : (b : Bool) (v : Seen) → v.cut ++ cond b [] (v.storage.items ∷ []) ≡ (cond b v (cuts v)).cut
cuts_cut true v = append-nil v.cut
cuts_cut false v = refl

takes_next : (bs : List (List Item)) (v : Seen) → v.cut ≡ bs → v.cut ++ [] ≡ option_to_list (next_of bs) ++ (left_of bs v).cut
takes_next [] v e = append-nil v.cut
takes_next (b ∷ bs) v e = append-nil v.cut ∙ e

-- where nothing is dropped
queue_kept : (xs c d t u : List (List Item)) → c ++ d ≡ t ++ u → without_last 0 (xs ++ c) ++ d ≡ (xs ++ t) ++ u
queue_kept xs c d t u e = ap (λ z. z ++ d) (whole (xs ++ c)) ∙ append_assoc xs c d ∙ ap (λ z. xs ++ z) e ∙ sym (append_assoc xs t u)

queue_step : (act : Act) (v : Seen) (xs : List (List Item)) →
    without_last (batches_dropped act v) (xs ++ v.cut) ++ cut_by act v ≡ (xs ++ taken_by act v) ++ (after act v).cut
queue_step (Takes t) v xs = queue_kept xs v.cut [] [] (after (Takes t) v).cut (append-nil v.cut ∙ sym (takes_cut v.holder t v))
queue_step Draws v xs = queue_kept xs v.cut [] [] (after Draws v).cut (append-nil v.cut ∙ sym (draws_cut (is_spent v.next) v _ refl))
queue_step (Stores t e) v xs = queue_kept xs v.cut (cut_by (Stores t e) v) [] (after (Stores t e) v).cut (stores_cut (SingleMessage t e) v)
queue_step (Flushes t) v xs = queue_kept xs v.cut (cut_by (Flushes t) v) [] (after (Flushes t) v).cut (flushes_cut t v)
queue_step Cuts v xs = queue_kept xs v.cut (cut_by Cuts v) [] (after Cuts v).cut (cuts_cut (is_nothing v.storage.items) v)
queue_step TakesBatch v xs = queue_kept xs v.cut [] (taken_by TakesBatch v) (after TakesBatch v).cut (takes_next v.cut v refl)
queue_step Halts v xs = append-nil _ ∙ but_last xs v.cut ∙ sym (append-nil xs) ∙ sym (append-nil (xs ++ []))
queue_step _ v xs = queue_kept xs v.cut [] [] v.cut (append-nil v.cut)

pub batches_in_order : BatchesInOrder
batches_in_order s [] = refl
batches_in_order s (act ∷ h) =
    ap (λ bs. without_last (batches_dropped act (seen s h)) bs ++ cut_by act (seen s h)) (batches_in_order s h)
    ∙ queue_step act (seen s h) (taken_of s h)

-- ITEMS

stores_items : (x : Item) (v : Seen) → v.storage.items ++ x ∷ [] ≡ joined (cond (is_ready (pushed x v.storage)) ((v.storage.items ++ x ∷ []) ∷ []) []) ++ (stores x v).storage.items
stores_items x v = by (is_ready (pushed x v.storage))
  where
    by : (b : Bool) → v.storage.items ++ x ∷ [] ≡ joined (cond b ((v.storage.items ++ x ∷ []) ∷ []) []) ++ (cond b (cuts (record v { storage = pushed x v.storage })) (record v { storage = pushed x v.storage })).storage.items
    by true = sym (append-nil _ ∙ joined_one (v.storage.items ++ x ∷ []))
    by false = refl

flushes_items : (t : ℕ) (v : Seen) → v.storage.items ++ cond (is_settled v) [] (Flush t ∷ []) ≡ joined (cond (is_settled v) [] ((v.storage.items ++ Flush t ∷ []) ∷ [])) ++ (flushes t v).storage.items
flushes_items t v = by (is_settled v)
  where
    by : (b : Bool) → v.storage.items ++ cond b [] (Flush t ∷ []) ≡ joined (cond b [] ((v.storage.items ++ Flush t ∷ []) ∷ [])) ++ (cond b v (stores (Flush t) v)).storage.items
    by true = append-nil v.storage.items
    by false =
        stores_items (Flush t) v
        ∙ ap (λ b. joined (cond b ((v.storage.items ++ Flush t ∷ []) ∷ []) []) ++ (stores (Flush t) v).storage.items) (flush_full v.storage.limits v.storage.items t)

cuts_items : (b : Bool) (v : Seen) → v.storage.items ++ [] ≡ joined (cond b [] (v.storage.items ∷ [])) ++ (cond b v (cuts v)).storage.items
cuts_items true v = append-nil v.storage.items
cuts_items false v = ap (λ xs. xs ++ []) (sym (joined_one v.storage.items))

items_kept : (bs cs : List (List Item)) (xs ys zs : List Item) → xs ++ ys ≡ joined cs ++ zs →
    without_last 0 (joined bs ++ xs) ++ ys ≡ joined (without_last 0 bs ++ cs) ++ zs
items_kept bs cs xs ys zs e =
    ap (λ z. z ++ ys) (whole (joined bs ++ xs)) ∙ append_assoc (joined bs) xs ys ∙ ap (λ z. joined bs ++ z) e
    ∙ sym (append_assoc (joined bs) (joined cs) zs) ∙ ap (λ z. z ++ zs) (sym (joined_append bs cs))
    ∙ ap (λ z. joined (z ++ cs) ++ zs) (sym (whole bs))

items_same : (bs : List (List Item)) (xs zs : List Item) → zs ≡ xs → without_last 0 (joined bs ++ xs) ++ [] ≡ joined (without_last 0 bs ++ []) ++ zs
items_same bs xs zs e = items_kept bs [] xs [] zs (append-nil xs ∙ sym e)

-- all but the batches that are dropped
items_left : (bs cs : List (List Item)) (xs : List Item) →
    without_last (length (joined cs ++ xs)) (joined (bs ++ cs) ++ xs) ++ [] ≡ joined (without_last (length cs) (bs ++ cs) ++ []) ++ []
items_left bs cs xs =
    append-nil _
    ∙ ap (without_last (length (joined cs ++ xs))) (ap (λ z. z ++ xs) (joined_append bs cs) ∙ append_assoc (joined bs) (joined cs) xs)
    ∙ but_last (joined bs) (joined cs ++ xs)
    ∙ ap joined (sym (append-nil _ ∙ but_last bs cs))
    ∙ sym (append-nil _)

items_step : (act : Act) (v : Seen) (ts : List (List Item)) →
    without_last (items_dropped act v) (joined (ts ++ v.cut) ++ v.storage.items) ++ stored_by act v
    ≡ joined (without_last (batches_dropped act v) (ts ++ v.cut) ++ cut_by act v) ++ (after act v).storage.items
items_step (Takes t) v ts = items_same (ts ++ v.cut) v.storage.items (after (Takes t) v).storage.items (ap (λ s. s.items) (takes_storage v.holder t v))
items_step Draws v ts = items_same (ts ++ v.cut) v.storage.items (after Draws v).storage.items (ap (λ s. s.items) (draws_storage (is_spent v.next) v _ refl))
items_step Closes v ts =
    append-nil _ ∙ but_last (joined (ts ++ v.cut)) v.storage.items ∙ ap joined (sym (append-nil _ ∙ whole (ts ++ v.cut))) ∙ sym (append-nil _)
items_step (Stores t e) v ts =
    items_kept (ts ++ v.cut) (cut_by (Stores t e) v) v.storage.items (SingleMessage t e ∷ []) (after (Stores t e) v).storage.items (stores_items (SingleMessage t e) v)
items_step (Flushes t) v ts =
    items_kept (ts ++ v.cut) (cut_by (Flushes t) v) v.storage.items (stored_by (Flushes t) v) (after (Flushes t) v).storage.items (flushes_items t v)
items_step Cuts v ts = items_kept (ts ++ v.cut) (cut_by Cuts v) v.storage.items [] (after Cuts v).storage.items (cuts_items (is_nothing v.storage.items) v)
items_step TakesBatch v ts = items_same (ts ++ v.cut) v.storage.items (after TakesBatch v).storage.items (ap (λ s. s.items) (left_storage v.cut v))
items_step Halts v ts = items_left ts v.cut v.storage.items
items_step _ v ts = items_same (ts ++ v.cut) v.storage.items v.storage.items refl

pub items_in_order : ItemsInOrder
items_in_order s [] = refl
items_in_order s (act ∷ h) =
    let v = seen s h in
    let batches = batches_in_order s h in
    ap (λ xs. without_last (items_dropped act v) xs ++ stored_by act v)
    (items_in_order s h ∙ ap (λ bs. joined bs ++ v.storage.items) batches)
    ∙ items_step act v (taken_of s h)
    ∙ ap (λ bs. joined (without_last (batches_dropped act v) bs ++ cut_by act v) ++ (after act v).storage.items) (sym batches)

-- WHEN IT IS CUT

abbrev IsCut : Limits → Act → List Item → Type 0
IsCut limits act b =
    (is_nothing b ≡ false) × ((is_full limits b ≡ true) ⊎ (act ≡ Cuts))
    × ((xs ys : List Item) → b ≡ xs ++ ys → is_nothing xs ≡ false → is_nothing ys ≡ false → is_full limits xs ≡ false)

some_there : (xs : List Item) (x : Item) → is_nothing (xs ++ x ∷ []) ≡ false
some_there [] x = refl
some_there (y ∷ ys) x = refl

behind_item : (act : Act) (st : Storage) (x : Item) → NotYet st → is_full st.limits (st.items ++ x ∷ []) ≡ true → IsCut st.limits act (st.items ++ x ∷ [])
behind_item act st x k r = (some_there st.items x, inl r, λ xs ys e f g. by xs ys f g (split_last xs ys st.items x e))
  where
    by : (xs ys : List Item) → is_nothing xs ≡ false → is_nothing ys ≡ false → (ys ≡ []) ⊎ ((ws : List Item) × (st.items ≡ xs ++ ws)) → is_full st.limits xs ≡ false
    by xs ys f g (inl none) = absurd (let e : is_nothing [] ≡ false = ap is_nothing (sym none) ∙ g in cc)
    by xs ys f g (inr (ws, same)) = k xs ws same f

by_time : (st : Storage) → NotYet st → is_nothing st.items ≡ false → IsCut st.limits Cuts st.items
by_time st k some = (some, inr refl, λ xs ys e f g. k xs ys e f)

one_batch : (b c : List Item) → b ∷ [] ≡ c ∷ [] → b ≡ c
one_batch b c e = cc

cut_here : (act : Act) (v : Seen) (b : List Item) → NotYet v.storage → cut_by act v ≡ b ∷ [] → IsCut v.storage.limits act b
cut_here (Stores t e) v b k is = by (is_full v.storage.limits (v.storage.items ++ SingleMessage t e ∷ [])) refl is
  where
    by : (r : Bool) → is_full v.storage.limits (v.storage.items ++ SingleMessage t e ∷ []) ≡ r →
        cond r ((v.storage.items ++ SingleMessage t e ∷ []) ∷ []) [] ≡ b ∷ [] → IsCut v.storage.limits (Stores t e) b
    by true r is = subst (IsCut v.storage.limits (Stores t e)) (one_batch _ b is) (behind_item (Stores t e) v.storage (SingleMessage t e) k r)
    by false r is = absurd cc
cut_here (Flushes t) v b k is = by (is_settled v) is
  where
    by : (r : Bool) → cond r [] ((v.storage.items ++ Flush t ∷ []) ∷ []) ≡ b ∷ [] → IsCut v.storage.limits (Flushes t) b
    by true is = absurd cc
    by false is = subst (IsCut v.storage.limits (Flushes t)) (one_batch _ b is) (behind_item (Flushes t) v.storage (Flush t) k (flush_full v.storage.limits v.storage.items t))
cut_here Cuts v b k is = by (is_nothing v.storage.items) refl is
  where
    by : (r : Bool) → is_nothing v.storage.items ≡ r → cond r [] (v.storage.items ∷ []) ≡ b ∷ [] → IsCut v.storage.limits Cuts b
    by true some is = absurd cc
    by false some is = subst (IsCut v.storage.limits Cuts) (one_batch v.storage.items b is) (by_time v.storage k some)
cut_here _ v b k is = absurd cc

pub cut_in_time : CutInTime
cut_in_time s h act b is = subst (λ l. IsCut l act b) (limits_stay s h) (cut_here act (seen s h) b (not_yet s h) is)

pub flush_is_last : FlushIsLast
flush_is_last s h act b xs ys t is at = by ys at
  where
    by : (ys : List Item) → b ≡ xs ++ Flush t ∷ ys → ys ≡ []
    by [] at = refl
    by (y ∷ ys) at =
        let cut = cut_in_time s h act b is in
        let early = cut.2 (xs ++ Flush t ∷ []) (y ∷ ys) (at ∙ sym (append_assoc xs (Flush t ∷ []) (y ∷ ys))) (some_there xs (Flush t)) refl in
        absurd (let e : true ≡ false = sym (flush_full s.limits xs t) ∙ early in cc)
