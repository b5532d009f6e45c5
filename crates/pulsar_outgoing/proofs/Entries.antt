-- The entries of items, what they weigh, and what is written of them.
use Rattle.std.proofs.Common.{◌≡◌, ◌∙◌, ap, sym, refl, ℕ, suc, ◌+◌, ◌<◌, ◌≤◌, ◌-◌, add-zero, arith, append-nil, get_or, map, length, length-append, take, List, [], ◌∷◌, ◌++◌, Option, Some, None}
use Rattle.std.proofs.lemmas.Grind.{flat_map-append}
use Rattle.std.proofs.lemmas.List.{length-take-le, map-append, take_more}
use Rattle.std.specs.List.{slice_get}
use Rattle.pulsar_wire.specs.Sink.{capped}
use Rattle.pulsar_wire.specs.declared.error.Reason.{Reason}
use Rattle.pulsar_frame.specs.Batch.{EntryValues, batch_bytes, entry_bytes}
use Rattle.pulsar_outgoing.specs.Batch.{entries_in, entry_refusal, first_refusal, refusal_or, report_at, reports, reports_from}
use Rattle.pulsar_outgoing.specs.Storage.{Item, SingleMessage, Flush, bytes_of, ends_in_flush, is_flush, item_of, size_of}
use Rattle.pulsar_outgoing.specs.declared.batch.Fate.{Fate}
use Rattle.pulsar_outgoing.specs.declared.batch.Member.{Member}
use Rattle.pulsar_outgoing.specs.declared.batch.Member.TheVariants.{Message}
use Rattle.pulsar_outgoing.specs.declared.batch.Report.{Report}
use Rattle.pulsar_outgoing.specs.declared.storage.BatchItem.{BatchItem}

pub entries_append : (xs ys : List Item) → entries_in (xs ++ ys) ≡ entries_in xs ++ entries_in ys
entries_append [] ys = refl
entries_append (SingleMessage t e ∷ xs) ys = ap (λ es. e ∷ es) (entries_append xs ys)
entries_append (Flush t ∷ xs) ys = entries_append xs ys

pub entries_few : (xs : List Item) → length (entries_in xs) ≤ length xs
entries_few [] = omega arith
entries_few (SingleMessage t e ∷ xs) = let few = entries_few xs in omega (arith, few)
entries_few (Flush t ∷ xs) = let few = entries_few xs in omega (arith, few)

-- one more item
pub entries_more : (xs : List BatchItem) (x : BatchItem) →
    entries_in (map item_of (xs ++ x ∷ [])) ≡ entries_in (map item_of xs) ++ entries_in (item_of x ∷ [])
entries_more xs x = ap entries_in (map-append item_of xs (x ∷ [])) ∙ entries_append (map item_of xs) (item_of x ∷ [])

pub count_more : (xs : List BatchItem) (x : BatchItem) →
    length (entries_in (map item_of (xs ++ x ∷ []))) ≡ length (entries_in (map item_of xs)) + length (entries_in (item_of x ∷ []))
count_more xs x = ap length (entries_more xs x) ∙ length-append (entries_in (map item_of xs)) (entries_in (item_of x ∷ []))

-- WHAT IS WRITTEN

pub batch_append : (es fs : List EntryValues) → batch_bytes (es ++ fs) ≡ batch_bytes es ++ batch_bytes fs
unfolding batch_bytes
batch_append es fs = flat_map-append entry_bytes es fs

pub batch_one : (e : EntryValues) → batch_bytes (e ∷ []) ≡ entry_bytes e
unfolding batch_bytes
batch_one e = append-nil (entry_bytes e)

pub batch_none : batch_bytes [] ≡ []
unfolding batch_bytes
batch_none = refl

pub bytes_more : (xs : List BatchItem) (x : BatchItem) →
    batch_bytes (entries_in (map item_of (xs ++ x ∷ []))) ≡ batch_bytes (entries_in (map item_of xs)) ++ batch_bytes (entries_in (item_of x ∷ []))
bytes_more xs x = ap batch_bytes (entries_more xs x) ∙ batch_append (entries_in (map item_of xs)) (entries_in (item_of x ∷ []))

or_assoc : (r : Option Reason) (s t : Option Reason) → refusal_or r (refusal_or s t) ≡ refusal_or (refusal_or r s) t
or_assoc None s t = refl
or_assoc (Some r) s t = refl

pub refusal_append : (es fs : List EntryValues) → first_refusal (es ++ fs) ≡ refusal_or (first_refusal es) (first_refusal fs)
refusal_append [] fs = refl
refusal_append (e ∷ es) fs = ap (refusal_or (entry_refusal e)) (refusal_append es fs) ∙ or_assoc (entry_refusal e) (first_refusal es) (first_refusal fs)

-- where none of the first is refused, the first refusal is that of the others
pub none_refused : (xs : List BatchItem) (x : BatchItem) → first_refusal (entries_in (map item_of xs)) ≡ None →
    first_refusal (entries_in (map item_of (xs ++ x ∷ []))) ≡ first_refusal (entries_in (item_of x ∷ []))
none_refused xs x none =
    ap first_refusal (entries_more xs x) ∙ refusal_append (entries_in (map item_of xs)) (entries_in (item_of x ∷ []))
    ∙ ap (λ r. refusal_or r (first_refusal (entries_in (item_of x ∷ [])))) none

-- one that is refused is refused whatever follows
pub refused_still : (xs ys : List BatchItem) (r : Reason) → first_refusal (entries_in (map item_of xs)) ≡ Some r →
    first_refusal (entries_in (map item_of (xs ++ ys))) ≡ Some r
refused_still xs ys r is =
    ap (λ zs. first_refusal (entries_in zs)) (map-append item_of xs ys)
    ∙ ap first_refusal (entries_append (map item_of xs) (map item_of ys))
    ∙ refusal_append (entries_in (map item_of xs)) (entries_in (map item_of ys))
    ∙ ap (λ s. refusal_or s (first_refusal (entries_in (map item_of ys)))) is

-- WHAT IS TOLD

pub reports_more : (i n : ℕ) (f : Fate) (ms : List Member) (m : Member) →
    reports_from i n f (ms ++ m ∷ []) ≡ reports_from i n f ms ++ report_at (i + length ms) n f m ∷ []
reports_more i n f [] m = ap (λ k. report_at k n f m ∷ []) (sym (add-zero i))
reports_more i n f (x ∷ ms) m =
    ap (λ rs. report_at i n f x ∷ rs) (reports_more (i + 1) n f ms m)
    ∙ ap (λ k. report_at i n f x ∷ (reports_from (i + 1) n f ms ++ report_at k n f m ∷ [])) (let e : (i + 1) + length ms ≡ i + length (x ∷ ms) = omega arith in e)

-- the report of the next one, behind those of the ones before
pub reports_next : (i n : ℕ) (f : Fate) (ms : List Member) (rs : List Report) (r : Report) → i < length ms → rs ≡ reports n f (take i ms) →
    r ≡ report_at i n f (get_or ms i (Message 0)) → rs ++ r ∷ [] ≡ reports n f (take (i + 1) ms)
reports_next i n f ms rs r lt before now =
    let m = get_or ms i (Message 0) in
    let taken = length-take-le i ms (omega (arith, lt)) in
    let there : 0 + length (take i ms) ≡ i = omega (arith, taken) in
    ap (λ xs. xs ++ r ∷ []) before
    ∙ ap (λ x. reports n f (take i ms) ++ x ∷ []) (now ∙ ap (λ k. report_at k n f m) (sym there))
    ∙ sym (reports_more 0 n f (take i ms) m)
    ∙ ap (reports n f) (sym (take_more ms i (Message 0) lt))

-- WHAT IS STORED

pub last_flush : (xs : List BatchItem) (x : BatchItem) → slice_get xs (length xs - 1) ≡ Some x → ends_in_flush (map item_of xs) ≡ is_flush (item_of x)
last_flush [] x is = absurd cc
last_flush (y ∷ []) x is = let same : y ≡ x = cc in ap (λ z. is_flush (item_of z)) same
last_flush (y ∷ z ∷ zs) x is =
    let e : length (y ∷ z ∷ zs) - 1 ≡ suc (length (z ∷ zs) - 1) = omega arith in
    last_flush (z ∷ zs) x (ap (slice_get (y ∷ z ∷ zs)) (sym e) ∙ is)

sizes_more : (xs : List Item) (x : Item) → bytes_of (xs ++ x ∷ []) ≡ bytes_of xs + size_of x
sizes_more [] x = omega arith
sizes_more (y ∷ ys) x = let more = sizes_more ys x in omega (arith, more)

pub weighs_more : (xs : List BatchItem) (x : BatchItem) → capped (capped (bytes_of (map item_of xs)) + size_of (item_of x)) ≡ capped (bytes_of (map item_of (xs ++ x ∷ [])))
weighs_more xs x =
    let more = ap bytes_of (map-append item_of xs (x ∷ [])) ∙ sizes_more (map item_of xs) (item_of x) in
    rw more (grind arith)

pub none_of : (o : Option Reason) → ((r : Reason) → o ≡ Some r → ⊥) → o ≡ None
none_of None h = refl
none_of (Some r) h = absurd (h r refl)
