-- The entries of a batch, one by one.
use Rattle.std.proofs.Common.{◌≡◌, ℕ, zero, suc, ℤ, pos, List, [], ◌∷◌, ◌++◌, length, Option, Some, None, refl, sym, ap, ◌∙◌, append_assoc, arith}
use Rattle.std.specs.List.{flat_map, AllByRecursion}
use Rattle.std.proofs.lemmas.List.{append-nil}
use Rattle.pulsar_wire.specs.At.{int32_at}
use Rattle.pulsar_wire.specs.Field.{◌>>=◌}
use Rattle.pulsar_wire.specs.Row.{Values, reading, spelling}
use Rattle.pulsar_wire.specs.Rows.{message_id, message_metadata, single_message_metadata}
use Rattle.pulsar_wire.proofs.Fields.{bind_some, some, some_is}
use Rattle.pulsar_wire.proofs.RoundTrip.{round_trip}
use Rattle.pulsar_frame.specs.Batch.{EntryValues, Item, batch_count, batch_items, payload_of_size, entry_at, entries, item, items_from, entry_bytes, batch_bytes, FitsSize, SaysItsSize, IsSound, ReadsBack}
use Rattle.pulsar_frame.specs.Payload.{PayloadValues}
use Rattle.pulsar_frame.specs.Sized.{sized_at, with_size}
use Rattle.pulsar_frame.proofs.Splits.{bytes_at-front, sized_at-with_size}

-- entries that were read, and those that follow
abbrev pub with_done : List EntryValues → Option (List EntryValues) → Option (List EntryValues)
with_done done None = None
with_done done (Some es) = Some (done ++ es)

with_done-next : (done : List EntryValues) (e : EntryValues) (o : Option (List EntryValues)) → with_done (done ++ (e ∷ [])) o ≡ with_done done (with_done (e ∷ []) o)
with_done-next done e None = refl
with_done-next done e (Some es) = ap (λ (l : List EntryValues). some l) (append_assoc done (e ∷ []) es)

first-then : (e : EntryValues) (o : Option (List EntryValues)) → (o >>= λ others. Some (e ∷ others)) ≡ with_done (e ∷ []) o
first-then e None = refl
first-then e (Some es) = refl

entries-first : (n : ℕ) (bytes after : List ℕ) (e : EntryValues) → entry_at bytes ≡ Some (e, after) → entries (suc n) bytes ≡ with_done (e ∷ []) (entries n after)
unfolding entries
entries-first n bytes after e first = rw first (first-then e (entries n after))

-- one entry is read
pub entries-next : (done : List EntryValues) (n m : ℕ) (bytes after : List ℕ) (e : EntryValues) → n ≡ suc m → entry_at bytes ≡ Some (e, after)
    → with_done (done ++ (e ∷ [])) (entries m after) ≡ with_done done (entries n bytes)
entries-next done n m bytes after e count first = rw count (with_done-next done e (entries m after) ∙ sym (ap (with_done done) (entries-first m bytes after e first)))

-- an entry is refused
pub entries-refused : (done : List EntryValues) (n m : ℕ) (bytes : List ℕ) → n ≡ suc m → entry_at bytes ≡ None → with_done done (entries n bytes) ≡ None
unfolding entries
entries-refused done n m bytes count none = rw (count, none) refl

-- none is left to be read
pub entries-done : (done : List EntryValues) (n : ℕ) (bytes : List ℕ) → n ≡ 0 → with_done done (entries n bytes) ≡ Some done
unfolding entries
entries-done done n bytes e = rw e (ap (λ (l : List EntryValues). some l) (append-nil done))

-- ---- writing

-- an entry, written piece by piece
pub entry-written : (e : EntryValues) (none described payload head first old new : List ℕ)
    → none ≡ [] → described ≡ none ++ with_size (spelling single_message_metadata e.metadata) → head ≡ described → first ≡ old ++ head
    → payload ≡ e.payload → new ≡ first ++ payload → new ≡ old ++ entry_bytes e
unfolding entry_bytes
entry-written e none described payload head first old new empty spelled same one paid two =
    rw (two, paid, one, same, spelled, empty) (append_assoc old (with_size (spelling single_message_metadata e.metadata)) e.payload)

-- ---- what was written is read

entry_at-parts : (bytes described rest payload after : List ℕ) (vs : Values single_message_metadata) (z : ℤ) → sized_at bytes ≡ Some (described, rest) → reading single_message_metadata described ≡ Some vs
    → int32_at 3 single_message_metadata vs ≡ Some z → payload_of_size z rest ≡ Some (payload, after) → entry_at bytes ≡ Some (record { metadata = vs; payload = payload }, after)
unfolding entry_at
entry_at-parts bytes described rest payload after vs z sized read says paid =
    let size : vs.1.1.0 ≡ z = some_is _ _ says in
    rw (sized, read, size, paid) refl

payload_of_size-front : (x t : List ℕ) → payload_of_size (pos (length x)) (x ++ t) ≡ Some (x, t)
unfolding payload_of_size
payload_of_size-front x t = bytes_at-front (length x) x t refl

-- an entry whose metadata is read again is read again, whatever follows
pub reads_back : (e : EntryValues) → FitsSize e → reading single_message_metadata (spelling single_message_metadata e.metadata) ≡ Some e.metadata → SaysItsSize e → ReadsBack e
unfolding entry_bytes
reads_back e fits again says t =
    rw append_assoc (entry_at-parts _ _ (e.payload ++ t) e.payload t e.metadata (pos (length e.payload)) (sized_at-with_size (spelling single_message_metadata e.metadata) (e.payload ++ t) fits) again says (payload_of_size-front e.payload t))

-- an entry in range is read again
entry-again : (e : EntryValues) → IsSound e → ReadsBack e
entry-again e sound = reads_back e sound.1 (round_trip single_message_metadata e.metadata refl (sound.0, omega (arith, sound.1))) sound.2

batch-first : (e : EntryValues) (es : List EntryValues) (t : List ℕ) → IsSound e → entries (length es) (flat_map entry_bytes es ++ t) ≡ Some es
    → entries (suc (length es)) ((entry_bytes e ++ flat_map entry_bytes es) ++ t) ≡ Some (e ∷ es)
batch-first e es t sound others =
    rw append_assoc (entries-first (length es) (entry_bytes e ++ (flat_map entry_bytes es ++ t)) (flat_map entry_bytes es ++ t) e (entry-again e sound (flat_map entry_bytes es ++ t)) ∙ ap (with_done (e ∷ [])) others)

entries-zero : (bytes : List ℕ) → entries 0 bytes ≡ Some []
unfolding entries
entries-zero bytes = refl

-- entries are read again, whatever follows
pub batch-again : (es : List EntryValues) (t : List ℕ) → AllByRecursion IsSound es → entries (length es) (batch_bytes es ++ t) ≡ Some es
unfolding batch_bytes
batch-again [] t sound = entries-zero t
batch-again (e ∷ es) t sound = batch-first e es t sound.0 (batch-again es t sound.1)

-- ---- the messages of a batch

-- one message is made
pub items-next : (id : Values message_id) (m : Values message_metadata) (done new : List Item) (y : Item) (e : EntryValues) (left rest : List EntryValues) (n k : ℕ) (all : List Item)
    → new ≡ done ++ (y ∷ []) → y ≡ item n id m e → left ≡ e ∷ rest → k ≡ suc n → done ++ items_from n id m left ≡ all → new ++ items_from k id m rest ≡ all
unfolding items_from
items-next id m done new y e left rest n k all pushed made first counted before =
    rw (pushed, made, counted) (append_assoc done (item n id m e ∷ []) (items_from (suc n) id m rest) ∙ rw first at before)

-- none is left to be made
pub items-done : (id : Values message_id) (m : Values message_metadata) (done : List Item) (left : List EntryValues) (n : ℕ) (all : List Item)
    → left ≡ [] → done ++ items_from n id m left ≡ all → done ≡ all
unfolding items_from
items-done id m done left n all none before = sym (append-nil done) ∙ rw none at before

-- so many entries are read as are asked for
pub entries-length : (n : ℕ) (bytes : List ℕ) (es : List EntryValues) → entries n bytes ≡ Some es → length es ≡ n
unfolding entries
entries-length zero bytes es e = ap length (sym (some_is [] es e))
entries-length (suc n) bytes es e =
    let first = bind_some (entry_at bytes) _ es e in
    let others = bind_some (entries n first.0.1) _ es first.2 in
    rw (← some_is _ _ others.2) (ap suc (entries-length n first.0.1 others.0 others.1))

-- what a payload holds, step by step

pub batch_items-uncounted : (id : Values message_id) (p : PayloadValues) → batch_count p.metadata ≡ None → batch_items id p ≡ None
unfolding batch_items
batch_items-uncounted id p none = rw none refl

pub batch_items-refused : (id : Values message_id) (p : PayloadValues) (n : ℕ) → batch_count p.metadata ≡ Some n → entries n p.bytes ≡ None → batch_items id p ≡ None
unfolding batch_items
batch_items-refused id p n count none = rw (count, none) refl

pub batch_items-read : (id : Values message_id) (p : PayloadValues) (n : ℕ) (es : List EntryValues) → batch_count p.metadata ≡ Some n → entries n p.bytes ≡ Some es → batch_items id p ≡ Some (items_from 0 id p.metadata es)
unfolding batch_items
batch_items-read id p n es count read = rw (count, read) refl
