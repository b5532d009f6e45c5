-- Those that use a topic producer: whoever waits for its turn wanted it, and whatever it has, stored or cut, was stored there or flushes it.
use Rattle.std.proofs.Common.{ℕ, ◌+◌, List, [], ◌∷◌, ◌++◌, Bool, true, false, cond, Option, Some, None}
use Rattle.std.specs.List.{AllByRecursion}
use Rattle.std.specs.Ordering.{match_ordering}
use Rattle.std.specs.declared.cmp.Ordering.{Ordering}
use Rattle.std.specs.declared.cmp.Ordering.TheVariants.{Less, Equal, Greater}
use Rattle.pulsar_messages.specs.Claims.{is_spent}
use Rattle.pulsar_outgoing.specs.Storage.{Item, SingleMessage, Flush, is_nothing, is_ready, pushed}
use Rattle.pulsar_producer.specs.Topic.{Act, Takes, Passes, Draws, Closes, Stores, Flushes, Cuts, TakesBatch, Halts, Seen, Setup, after, cuts, fresh, is_settled, left_of, stores, takes_in}
use Rattle.pulsar_producer.specs.Turns.{beside, placed, queued, rest_of}
use Rattle.pulsar_outgoing.specs.declared.multi_topic.Taker.{Taker}
use Rattle.pulsar_outgoing.specs.declared.multi_topic.Taker.TheVariants.{Call, Copy}

-- LISTS

all_append : {A : Type 0} (P : A → Type 0) (xs ys : List A) → AllByRecursion P xs → AllByRecursion P ys → AllByRecursion P (xs ++ ys)
all_append P [] ys p q = q
all_append P (x ∷ xs) ys p q = (p.0, all_append P xs ys p.1 q)

all_map : {A : Type 0} (P Q : A → Type 0) (xs : List A) → ((x : A) → P x → Q x) → AllByRecursion P xs → AllByRecursion Q xs
all_map P Q [] f p = tt
all_map P Q (x ∷ xs) f p = (f x p.0, all_map P Q xs f p.1)

all_placed : (P : Taker → Type 0) (t : ℕ) (xs : List Taker) → P (Call t) → AllByRecursion P xs → AllByRecursion P (placed t xs)
all_placed P t [] p ps = (p, tt)
all_placed P t (x ∷ xs) p ps = by (beside t x) (all_placed P t xs p ps.1)
  where
    by : (c : Ordering) → AllByRecursion P (placed t xs) → AllByRecursion P (match_ordering c (Call t ∷ x ∷ xs) (x ∷ xs) (x ∷ placed t xs))
    by Less more = (p, ps)
    by Equal more = ps
    by Greater more = (ps.0, more)

all_queued : (P : Taker → Type 0) (t : Taker) (xs : List Taker) → P t → AllByRecursion P xs → AllByRecursion P (queued t xs)
all_queued P (Call t) xs p ps = all_placed P t xs p ps
all_queued P (Copy consumer ticket key) xs p ps = all_append P xs (Copy consumer ticket key ∷ []) ps (p, tt)

-- WHAT IS SO OF THEM: T of those that wait for the turn, and P of what is stored

module _ (T : Taker → Type 0) (P : Item → Type 0) where
  -- what an act brings is so
  abbrev pub BringsSo : Act → Type 0
  BringsSo (Takes t) = T t
  BringsSo (Stores t e) = P (SingleMessage t e)
  BringsSo (Flushes t) = P (Flush t)
  BringsSo _ = Unit {0}

  -- and all that is there is
  abbrev pub UsersSo : Seen → Type 0
  UsersSo v = AllByRecursion T v.waiting × AllByRecursion P v.storage.items × AllByRecursion (AllByRecursion P) v.cut

  pub fresh_so : (s : Setup) → UsersSo (fresh s)
  fresh_so s = (tt, tt, tt)

  either_so : (b : Bool) (v w : Seen) → UsersSo v → UsersSo w → UsersSo (cond b v w)
  either_so true v w p q = p
  either_so false v w p q = q

  takes_so : (t : Taker) (holder : Option Taker) (v : Seen) → T t → UsersSo v → UsersSo (takes_in holder t v)
  takes_so t None v p k = k
  takes_so t (Some other) v p k = (all_queued T t v.waiting p k.0, k.1, k.2)

  rest_so : (ts : List Taker) → AllByRecursion T ts → AllByRecursion T (rest_of ts)
  rest_so [] k = tt
  rest_so (t ∷ ts) k = k.1

  cuts_so : (v : Seen) → UsersSo v → UsersSo (cuts v)
  cuts_so v k = (k.0, tt, all_append (AllByRecursion P) v.cut (v.storage.items ∷ []) k.2 (k.1, tt))

  stores_so : (x : Item) (v : Seen) → P x → UsersSo v → UsersSo (stores x v)
  stores_so x v p k =
      let w : Seen = record v { storage = pushed x v.storage } in
      let so : UsersSo w = (k.0, all_append P v.storage.items (x ∷ []) k.1 (p, tt), k.2) in
      either_so (is_ready w.storage) (cuts w) w (cuts_so w so) so

  left_so : (cut : List (List Item)) (v : Seen) → AllByRecursion (AllByRecursion P) cut → UsersSo v → UsersSo (left_of cut v)
  left_so [] v c k = k
  left_so (b ∷ bs) v c k = (k.0, k.1, c.1)

  pub users_so : (act : Act) (v : Seen) → BringsSo act → UsersSo v → UsersSo (after act v)
  users_so (Takes t) v p k = takes_so t v.holder v p k
  users_so Passes v p k = (rest_so v.waiting k.0, k.1, k.2)
  users_so Draws v p k = either_so (is_spent v.next) v (record v { next = v.next + 1 }) k k
  users_so Closes v p k = (k.0, tt, k.2)
  users_so (Stores t e) v p k = stores_so (SingleMessage t e) v p k
  users_so (Flushes t) v p k = either_so (is_settled v) v (stores (Flush t) v) k (stores_so (Flush t) v p k)
  users_so Cuts v p k = either_so (is_nothing v.storage.items) v (cuts v) k (cuts_so v k)
  users_so TakesBatch v p k = left_so v.cut v k.2 k
  users_so Halts v p k = (k.0, tt, tt)
  users_so _ v p k = k

-- what follows from it is so too
pub users_map : (T U : Taker → Type 0) (P Q : Item → Type 0) (v : Seen) → ((t : Taker) → T t → U t) → ((x : Item) → P x → Q x) → UsersSo T P v → UsersSo U Q v
users_map T U P Q v f g k =
    (all_map T U v.waiting f k.0, all_map P Q v.storage.items g k.1, all_map (AllByRecursion P) (AllByRecursion Q) v.cut (λ b p. all_map P Q b g p) k.2)
