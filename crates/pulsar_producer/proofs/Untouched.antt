-- What acts on batches leave as it was: the numbers and the turns.
use Rattle.std.proofs.Common.{◌≡◌, refl, ℕ, Bool, true, false, cond, List, [], ◌∷◌}
use Rattle.pulsar_outgoing.specs.Storage.{Item, Flush, is_ready, pushed}
use Rattle.pulsar_producer.specs.Topic.{Seen, cuts, cuts_some, flushes, is_settled, left_of, stores}
use Rattle.pulsar_outgoing.specs.Storage.{is_nothing}

abbrev pub KeepsTurns : Seen → Seen → Type 0
KeepsTurns v w = (w.next ≡ v.next) × (w.holder ≡ v.holder) × (w.waiting ≡ v.waiting)

kept_if : (b : Bool) (v w u : Seen) → KeepsTurns v w → KeepsTurns v u → KeepsTurns v (cond b w u)
kept_if true v w u k l = k
kept_if false v w u k l = l

pub stores_keeps : (x : Item) (v : Seen) → KeepsTurns v (stores x v)
stores_keeps x v =
    let w = record v { storage = pushed x v.storage } in
    kept_if (is_ready (pushed x v.storage)) v (cuts w) w (refl, refl, refl) (refl, refl, refl)

pub flushes_keeps : (t : ℕ) (v : Seen) → KeepsTurns v (flushes t v)
flushes_keeps t v = kept_if (is_settled v) v v (stores (Flush t) v) (refl, refl, refl) (stores_keeps (Flush t) v)

pub cuts_keeps : (v : Seen) → KeepsTurns v (cuts_some v)
cuts_keeps v = kept_if (is_nothing v.storage.items) v v (cuts v) (refl, refl, refl) (refl, refl, refl)

pub takes_batch_keeps : (bs : List (List Item)) (v : Seen) → KeepsTurns v (left_of bs v)
takes_batch_keeps [] v = (refl, refl, refl)
takes_batch_keeps (b ∷ bs) v = (refl, refl, refl)
