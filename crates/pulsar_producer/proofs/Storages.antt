-- What is stored is not ready, and was not before.
use Rattle.std.proofs.Common.{◌≡◌, ◌∙◌, sym, ap, refl, subst, ℕ, ◌||◌, nat_lt, nat_le, Bool, true, false, cond, List, [], ◌∷◌, ◌++◌, Option, Some, None, arith, append-nil, ◌⊎◌, inl, inr}
use Rattle.std.proofs.lemmas.Bool.Decides.{nat_tests}
use Rattle.pulsar_messages.specs.Claims.{is_spent}
use Rattle.pulsar_wire.specs.Sink.{capped}
use Rattle.pulsar_outgoing.specs.declared.multi_topic.Taker.{Taker}
use Rattle.pulsar_producer.specs.BatchLaws.{NeverReady, StoredIsNotReady, is_full, is_positive}
use Rattle.pulsar_outgoing.specs.Storage.{Item, SingleMessage, Flush, Storage, ends_in_flush, is_ready, pushed, reaches}
use Rattle.pulsar_producer.specs.Topic.{Act, Takes, Draws, Closes, Stores, Flushes, Cuts, TakesBatch, Halts, Seen, Setup, after, cuts, is_settled, left_of, seen, stores, takes_in}
use Rattle.pulsar_outgoing.specs.Storage.{is_nothing}
use Rattle.pulsar_outgoing.specs.declared.storage.Limits.{Limits}

-- WHERE IT STAYS

pub takes_storage : (o : Option Taker) (t : Taker) (v : Seen) → (takes_in o t v).storage ≡ v.storage
takes_storage None t v = refl
takes_storage (Some other) t v = refl

pub draws_storage : (b : Bool) (v w : Seen) → w.storage ≡ v.storage → (cond b v w).storage ≡ v.storage
draws_storage true v w e = refl
draws_storage false v w e = e

pub left_storage : (bs : List (List Item)) (v : Seen) → (left_of bs v).storage ≡ v.storage
left_storage [] v = refl
left_storage (b ∷ bs) v = refl

-- THE LIMITS

limits_if : (b : Bool) (v w u : Seen) → w.storage.limits ≡ v.storage.limits → u.storage.limits ≡ v.storage.limits → (cond b w u).storage.limits ≡ v.storage.limits
limits_if true v w u e f = e
limits_if false v w u e f = f

stores_limits : (x : Item) (v : Seen) → (stores x v).storage.limits ≡ v.storage.limits
stores_limits x v = let w = record v { storage = pushed x v.storage } in limits_if (is_ready (pushed x v.storage)) v (cuts w) w refl refl

limits_after : (act : Act) (v : Seen) → (after act v).storage.limits ≡ v.storage.limits
limits_after (Takes t) v = ap (λ s. s.limits) (takes_storage v.holder t v)
limits_after Draws v = ap (λ s. s.limits) (draws_storage (is_spent v.next) v _ refl)
limits_after (Stores t e) v = stores_limits (SingleMessage t e) v
limits_after (Flushes t) v = limits_if (is_settled v) v v (stores (Flush t) v) refl (stores_limits (Flush t) v)
limits_after Cuts v = limits_if (is_nothing v.storage.items) v v (cuts v) refl refl
limits_after TakesBatch v = ap (λ s. s.limits) (left_storage v.cut v)
limits_after _ v = refl

pub limits_stay : (s : Setup) (h : List Act) → (seen s h).storage.limits ≡ s.limits
limits_stay s [] = refl
limits_stay s (act ∷ h) = limits_after act (seen s h) ∙ limits_stay s h

-- NOTHING OF IT WAS READY

-- no items in front of what is stored would be sent
abbrev pub NotYet : Storage → Type 0
NotYet st = (xs ys : List Item) → st.items ≡ xs ++ ys → is_nothing xs ≡ false → is_full st.limits xs ≡ false

pub none_yet : (limits : Limits) → NotYet (record { limits = limits; items = [] })
none_yet limits [] ys e f = absurd cc
none_yet limits (x ∷ xs) ys e f = absurd cc

-- the last of some items is the last of a part of them, or stands behind that part
pub split_last : (xs ys zs : List Item) (x : Item) → zs ++ x ∷ [] ≡ xs ++ ys → (ys ≡ []) ⊎ ((ws : List Item) × (zs ≡ xs ++ ws))
split_last [] ys zs x e = inr (zs, refl)
split_last (a ∷ []) [] [] x e = inl refl
split_last (a ∷ []) (y ∷ ys) [] x e = absurd (let more : [] ≡ y ∷ ys = cc in cc)
split_last (a ∷ b ∷ xs) ys [] x e = absurd (let more : [] ≡ b ∷ (xs ++ ys) = cc in cc)
split_last (a ∷ xs) ys (z ∷ zs) x e =
    let first : z ≡ a = cc in
    let more : zs ++ x ∷ [] ≡ xs ++ ys = cc in
    behind (split_last xs ys zs x more) first
  where
    behind : (ys ≡ []) ⊎ ((ws : List Item) × (zs ≡ xs ++ ws)) → z ≡ a → (ys ≡ []) ⊎ ((ws : List Item) × (z ∷ zs ≡ a ∷ (xs ++ ws)))
    behind (inl none) first = inl none
    behind (inr (ws, same)) first = inr (ws, ap (λ b. b ∷ zs) first ∙ ap (λ bs. a ∷ bs) same)

more_yet : (st : Storage) (x : Item) → NotYet st → is_ready (pushed x st) ≡ false → NotYet (pushed x st)
more_yet st x k r xs ys e f = by (split_last xs ys st.items x e)
  where
    by : (ys ≡ []) ⊎ ((ws : List Item) × (st.items ≡ xs ++ ws)) → is_full st.limits xs ≡ false
    by (inl none) = ap (is_full st.limits) (sym (e ∙ ap (λ zs. xs ++ zs) none ∙ append-nil xs)) ∙ r
    by (inr (ws, same)) = k xs ws same f

stores_yet : (x : Item) (v : Seen) → NotYet v.storage → NotYet (stores x v).storage
stores_yet x v k = by (is_ready (pushed x v.storage)) refl
  where
    by : (b : Bool) → is_ready (pushed x v.storage) ≡ b → NotYet (cond b (cuts (record v { storage = pushed x v.storage })) (record v { storage = pushed x v.storage })).storage
    by true e = none_yet v.storage.limits
    by false e = more_yet v.storage x k e

yet_if : (b : Bool) (w u : Seen) → NotYet w.storage → NotYet u.storage → NotYet (cond b w u).storage
yet_if true w u k l = k
yet_if false w u k l = l

yet_after : (act : Act) (v : Seen) → NotYet v.storage → NotYet (after act v).storage
yet_after (Takes t) v k = subst NotYet (sym (takes_storage v.holder t v)) k
yet_after Draws v k = subst NotYet (sym (draws_storage (is_spent v.next) v _ refl)) k
yet_after Closes v k = none_yet v.storage.limits
yet_after (Stores t e) v k = stores_yet (SingleMessage t e) v k
yet_after (Flushes t) v k = yet_if (is_settled v) v (stores (Flush t) v) k (stores_yet (Flush t) v k)
yet_after Cuts v k = yet_if (is_nothing v.storage.items) v (cuts v) k (none_yet v.storage.limits)
yet_after TakesBatch v k = subst NotYet (sym (left_storage v.cut v)) k
yet_after Halts v k = none_yet v.storage.limits
yet_after _ v k = k

pub not_yet : (s : Setup) (h : List Act) → NotYet (seen s h).storage
not_yet s [] = none_yet s.limits
not_yet s (act ∷ h) = yet_after act (seen s h) (not_yet s h)

pub stored_is_not_ready : StoredIsNotReady
stored_is_not_ready s h some = not_yet s h (seen s h).storage.items [] (sym (append-nil (seen s h).storage.items)) some

-- WHERE NOTHING IS STORED

positive : (n : ℕ) → nat_lt 0 n ≡ true → nat_le n 0 ≡ false
positive n e = grind (arith, nat_tests)

reaches_none : (limit : Option ℕ) → is_positive limit ≡ true → reaches 0 limit ≡ false
reaches_none None e = refl
reaches_none (Some n) e = positive n e

or_false : (a b : Bool) → a ≡ false → b ≡ false → (a || (b || false)) ≡ false
or_false true b e f = e
or_false false true e f = f
or_false false false e f = refl

nothing_full : (limits : Limits) (items : List Item) → is_positive limits.max_size ≡ true → is_positive limits.max_byte_size ≡ true →
    is_nothing items ≡ true → is_full limits items ≡ false
nothing_full limits [] size bytes e =
    or_false (reaches 0 limits.max_size) (reaches (capped 0) limits.max_byte_size) (reaches_none limits.max_size size) (reaches_none limits.max_byte_size bytes)
nothing_full limits (x ∷ xs) size bytes e = absurd cc

pub never_ready : NeverReady
never_ready s h size bytes = by (is_nothing (seen s h).storage.items) refl
  where
    by : (b : Bool) → is_nothing (seen s h).storage.items ≡ b → is_ready (seen s h).storage ≡ false
    by true e =
        let limits = limits_stay s h in
        nothing_full (seen s h).storage.limits (seen s h).storage.items
        (subst (λ l. is_positive l.max_size ≡ true) (sym limits) size) (subst (λ l. is_positive l.max_byte_size ≡ true) (sym limits) bytes) e
    by false e = stored_is_not_ready s h e

-- A FLUSH

pub ends_flush : (xs : List Item) (t : ℕ) → ends_in_flush (xs ++ Flush t ∷ []) ≡ true
ends_flush [] t = refl
ends_flush (x ∷ []) t = refl
ends_flush (x ∷ y ∷ more) t = ends_flush (y ∷ more) t

or_last : (a b c : Bool) → c ≡ true → (a || (b || c)) ≡ true
or_last true b c e = refl
or_last false true c e = refl
or_last false false c e = e

pub flush_full : (limits : Limits) (xs : List Item) (t : ℕ) → is_full limits (xs ++ Flush t ∷ []) ≡ true
flush_full limits xs t = or_last _ _ (ends_in_flush (xs ++ Flush t ∷ [])) (ends_flush xs t)
