-- A batch is cut only where it reaches the limits of the options, behind a flush, or by its time.
use Rattle.std.proofs.Common.{◌≡◌, inl, inr, ◌∙◌, sym, ap, subst, ℕ, ◌+◌, ◌≤◌, ◌||◌, ◌&&◌, not, append-nil, nat_le, nat_lt, ◌^◌, arith, List, [], ◌∷◌, ◌++◌, refl, length, Bool, true, false, cond, Option, Some, None}
use Rattle.std.proofs.lemmas.Bool.Decides.{nat_tests}
use Rattle.std.specs.Option.{option_map}
use Rattle.std.specs.Prelude.{pos}
use Rattle.pulsar_frame.specs.Batch.{EntryValues}
use Rattle.pulsar_messages.specs.Content.{ProducerMessageValues}
use Rattle.pulsar_messages.specs.Claims.{is_spent}
use Rattle.pulsar_outgoing.specs.Batch.{entry_of, entry_with}
use Rattle.pulsar_outgoing.specs.Storage.{Flush, Item, SingleMessage, bytes_of, ends_in_flush, entry_size, is_nothing, is_ready, pushed, reaches}
use Rattle.pulsar_outgoing.specs.declared.multi_topic.Taker.{Taker}
use Rattle.pulsar_outgoing.specs.declared.storage.Limits.{Limits}
use Rattle.pulsar_producer.proofs.Cutting.{batches_in_order, cut_in_time, items_in_order}
use Rattle.pulsar_producer.proofs.Storages.{limits_stay}
use Rattle.pulsar_producer.specs.BatchLaws.{cut_by, joined, taken_of}
use Rattle.pulsar_producer.specs.Topic as topic
use Rattle.pulsar_producer.specs.Topic.{Setup, is_settled, left_of, stores, takes_in}
use Rattle.pulsar_wire.specs.Sink.{capped}
use Rattle.pulsar_laws.specs.BatchLaws.{CutByItsOptions, CutByLimits, FlushesAtOnce, IsFullBy, Reaches, SizesAreSaid}
use Rattle.pulsar_laws.specs.ProducerLaws.{acts_on}
use Rattle.pulsar_laws.proofs.Cases.{cond_so, none_some, some_is}
use Rattle.pulsar_laws.proofs.producers.Limits.{batches_by_its_options_lem}
use Rattle.pulsar_laws.proofs.producers.Topics.{topics_alone_lem}

-- SIZES

entry_said : (m : ProducerMessageValues) (x : EntryValues) → entry_of m ≡ Some x → entry_size x ≡ length m.payload
entry_said m x h = by (nat_lt (length m.payload) (2 ^ 31)) h
  where
    by : (b : Bool) → option_map (λ size. entry_with size m) (cond b (Some (pos (length m.payload))) None) ≡ Some x → entry_size x ≡ length m.payload
    by true e = ap entry_size (sym (some_is e))
    by false e = absurd (none_some e)

pub sizes_are_said_lem : SizesAreSaid
sizes_are_said_lem = (refl, λ t items. omega arith, λ t m x items h. ap (λ n. n + bytes_of items) (entry_said m x h))

-- LIMITS

reached : (n : ℕ) (limit : Option ℕ) → reaches n limit ≡ true → Reaches n limit
reached n None h = absurd cc
reached n (Some limit) h = by_test limit n h
  where
    by_test : (a b : ℕ) → nat_le a b ≡ true → a ≤ b
    by_test a b h = grind (arith, nat_tests)

ended : (b : List Item) → ends_in_flush b ≡ true → (xs : List Item) × (t : ℕ) × (b ≡ xs ++ Flush t ∷ [])
ended [] h = absurd cc
ended (Flush t ∷ []) h = ([], t, refl)
ended (SingleMessage t e ∷ []) h = absurd cc
ended (x ∷ y ∷ more) h = let k = ended (y ∷ more) h in (x ∷ k.0, k.1, ap (λ ys. x ∷ ys) k.2)

full_by : (limits : Limits) (b : List Item) →
    (reaches (length b) limits.max_size || (reaches (capped (bytes_of b)) limits.max_byte_size || ends_in_flush b)) ≡ true →
    IsFullBy limits.max_size limits.max_byte_size b
full_by limits b h = by (reaches (length b) limits.max_size) refl (reaches (capped (bytes_of b)) limits.max_byte_size) refl h
  where
    by : (c : Bool) → reaches (length b) limits.max_size ≡ c → (d : Bool) → reaches (capped (bytes_of b)) limits.max_byte_size ≡ d →
        (c || (d || ends_in_flush b)) ≡ true → IsFullBy limits.max_size limits.max_byte_size b
    by true e d f k = inl (reached (length b) limits.max_size e)
    by false e true f k = inr (inl (reached (capped (bytes_of b)) limits.max_byte_size f))
    by false e false f k = inr (inr (ended b k))

pub cut_by_limits_lem : CutByLimits
cut_by_limits_lem s h d b is = elim (cut_in_time s h d b is).1 [ inl full ↦ inr (full_by s.limits b full) | inr time ↦ inl time ]

pub cut_by_its_options_lem : CutByItsOptions
cut_by_its_options_lem o log n row d b run h is =
    let k = batches_by_its_options_lem o log n row run h in
    let x = topics_alone_lem o log n row run h in
    let s : Setup = record { built = x.0; first_number = o.chosen.first_number; limits = x.1 } in
    let same : row.seen.storage.limits ≡ x.1 = ap (λ (v : topic.Seen). v.storage.limits) x.3 ∙ limits_stay s (acts_on o n log) in
    let size : x.1.max_size ≡ k.1.options.batch_size = ap (λ (l : Limits). l.max_size) (sym same) ∙ k.3 in
    let bytes : x.1.max_byte_size ≡ k.1.options.batch_byte_size = ap (λ (l : Limits). l.max_byte_size) (sym same) ∙ k.4 in (
      k.0,
      k.1,
      k.2,
      elim (cut_by_limits_lem s (acts_on o n log) d b (ap (cut_by d) (sym x.3) ∙ is)) [
        | inl time ↦ inl time
        | inr full ↦ inr (subst (λ c. IsFullBy c k.1.options.batch_byte_size b) size (subst (λ c. IsFullBy x.1.max_size c b) bytes full))
      ],
    )

-- A FLUSH THAT IS DONE AT ONCE

-- where none is under way no batch waits
abbrev NoneWaits : topic.Seen → Type 0
NoneWaits v = v.is_under_way ≡ false → v.cut ≡ []

stores_none : (x : Item) (v : topic.Seen) → NoneWaits v → NoneWaits (stores x v)
stores_none x v k = cond_so NoneWaits (is_ready (pushed x v.storage)) _ _ (λ h. absurd cc) k

after_none : (d : topic.Act) (v : topic.Seen) → NoneWaits v → NoneWaits (topic.after d v)
after_none (topic.Takes t) v k = by v.holder
  where
    by : (r : Option Taker) → NoneWaits (takes_in r t v)
    by None = k
    by (Some other) = k
after_none topic.Draws v k = cond_so NoneWaits (is_spent v.next) _ _ k k
after_none (topic.Stores t e) v k = stores_none (SingleMessage t e) v k
after_none (topic.Flushes t) v k = cond_so NoneWaits (is_settled v) _ _ k (stores_none (Flush t) v k)
after_none topic.Cuts v k = cond_so NoneWaits (is_nothing v.storage.items) _ _ k (λ h. absurd cc)
after_none topic.TakesBatch v k = by v.cut refl
  where
    by : (bs : List (List Item)) → v.cut ≡ bs → NoneWaits (left_of bs v)
    by [] e = λ h. e
    by (b ∷ bs) e = λ h. absurd (let f : [] ≡ b ∷ bs = sym (k h) ∙ e in cc)
after_none topic.Halts v k = λ h. refl
after_none _ v k = k

none_waits : (s : Setup) (h : List topic.Act) → NoneWaits (topic.seen s h)
none_waits s [] = λ h. refl
none_waits s (d ∷ h) = after_none d (topic.seen s h) (none_waits s h)

record Settled (v : topic.Seen) : Type 0 where
  free : v.is_under_way ≡ false
  bare : v.storage.items ≡ []

settled : (v : topic.Seen) → is_settled v ≡ true → Settled v
settled v h = by v.is_under_way refl v.storage.items refl h
  where
    by : (b : Bool) → v.is_under_way ≡ b → (xs : List Item) → v.storage.items ≡ xs → (not b && is_nothing xs) ≡ true → Settled v
    by false e [] f g = record { free = e; bare = f }
    by true e xs f g = absurd cc
    by false e (x ∷ xs) f g = absurd cc

pub flushes_at_once_lem : FlushesAtOnce
flushes_at_once_lem o log n row run h g =
    let x = topics_alone_lem o log n row run h in
    let s : Setup = record { built = x.0; first_number = o.chosen.first_number; limits = x.1 } in
    let acts = acts_on o n log in
    let k = settled (topic.seen s acts) (ap is_settled (sym x.3) ∙ g) in (
      s,
      x.3,
      items_in_order s acts
          ∙ ap (λ bs. joined bs ++ (topic.seen s acts).storage.items)
          (batches_in_order s acts ∙ ap (λ cs. taken_of s acts ++ cs) (none_waits s acts k.free) ∙ append-nil (taken_of s acts))
          ∙ ap (λ xs. joined (taken_of s acts) ++ xs) k.bare
          ∙ append-nil (joined (taken_of s acts)),
      ap (λ (v : topic.Seen). v.is_under_way) x.3 ∙ k.free,
    )
