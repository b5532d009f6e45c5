-- The payload of a batch gives its messages again.
use Rattle.std.proofs.Common.{◌≡◌, ◌∙◌, sym, ap, refl, subst, ℕ, ◌^◌, nat_lt, Bool, true, false, cond, List, [], ◌∷◌, length, Option, Some, None, Ok, arith, append-nil}
use Rattle.std.proofs.lemmas.Bool.Decides.{nat_tests}
use Rattle.std.specs.Prelude.{ℤ, pos}
use Rattle.std.specs.List.{AllByRecursion}
use Rattle.std.specs.Option.{option_map}
use Rattle.pulsar_wire.specs.Row.{spelling}
use Rattle.pulsar_wire.specs.Rows.{single_message_metadata}
use Rattle.pulsar_wire.specs.declared.error.Reason.{Reason}
use Rattle.pulsar_wire.specs.declared.error.Reason.TheVariants as reason
use Rattle.pulsar_frame.specs.Batch.{EntryValues, FitsSize, IsSound, SaysItsSize, batch_bytes, entries}
use Rattle.pulsar_frame.proofs.Batches.{batch-again}
use Rattle.pulsar_messages.specs.Content.{ProducerMessageValues}
use Rattle.pulsar_outgoing.specs.Batch.{batch_counted, batch_with, entry_of, entry_refusal, entry_with, first_refusal, refusal_or, size_in_i32, unless_refused}
use Rattle.pulsar_producer.specs.BatchLaws.{BatchIsReadAgain, EntrySaysItsMessage, IsEntry}

sized : (n : ℕ) (z : ℤ) → size_in_i32 n ≡ Some z → z ≡ pos n
sized n z is = by (nat_lt n (2 ^ 31)) is
  where
    by : (b : Bool) → cond b (Some (pos n)) None ≡ Some z → z ≡ pos n
    by true is = let same : pos n ≡ z = cc in sym same
    by false is = absurd cc

-- an entry of a message is made with the size of its payload
made_of : (m : ProducerMessageValues) (e : EntryValues) → entry_of m ≡ Some e → e ≡ entry_with (pos (length m.payload)) m
made_of m e is = by (size_in_i32 (length m.payload)) refl is
  where
    by : (o : Option ℤ) → size_in_i32 (length m.payload) ≡ o → option_map (λ size. entry_with size m) o ≡ Some e → e ≡ entry_with (pos (length m.payload)) m
    by None f is = absurd cc
    by (Some z) f is = let same : entry_with z m ≡ e = cc in sym same ∙ ap (λ size. entry_with size m) (sized (length m.payload) z f)

pub entry_says_its_message : EntrySaysItsMessage
entry_says_its_message m e is = let made = made_of m e is in (ap (λ x. x.payload) made, ap (λ x. x.metadata) made)

says_its_size : (m : ProducerMessageValues) (e : EntryValues) → entry_of m ≡ Some e → SaysItsSize e
says_its_size m e is = subst SaysItsSize (sym (made_of m e is)) refl

-- WHAT IS NOT REFUSED

not_refused : (r s : Option Reason) → refusal_or r s ≡ None → (r ≡ None) × (s ≡ None)
not_refused None s e = (refl, e)
not_refused (Some r) s e = absurd cc

fits_size : (e : EntryValues) → entry_refusal e ≡ None → FitsSize e
fits_size e is = by (nat_lt (length (spelling single_message_metadata e.metadata)) (2 ^ 32)) refl is
  where
    by : (b : Bool) → nat_lt (length (spelling single_message_metadata e.metadata)) (2 ^ 32) ≡ b →
        cond b (cond (nat_lt (length e.payload) (2 ^ 31)) None (Some reason.Batch)) (Some reason.Frame) ≡ None → FitsSize e
    by true f is = grind (arith, nat_tests)
    by false f is = absurd cc

all_sound : (es : List EntryValues) → first_refusal es ≡ None → AllByRecursion IsEntry es → AllByRecursion IsSound es
all_sound [] none all = tt
all_sound (e ∷ es) none all =
    let both = not_refused (entry_refusal e) (first_refusal es) none in
    let made = all.0 in
    ((made.1, fits_size e both.0, says_its_size made.0.0 e made.0.1), all_sound es both.1 all.1)

written : (es : List EntryValues) (o : Option Reason) (b m : ProducerMessageValues) → unless_refused o b ≡ Ok m → (o ≡ None) × (m ≡ b)
written es None b m is = let same : b ≡ m = cc in (refl, sym same)
written es (Some r) b m is = absurd cc

counted : (es : List EntryValues) (m : ProducerMessageValues) (o : Option ℤ) → size_in_i32 (length es) ≡ o → batch_counted o es ≡ Ok m →
    (first_refusal es ≡ None) × (m ≡ batch_with (pos (length es)) es)
counted es m None f is = absurd cc
counted es m (Some z) f is =
    let both = written es (first_refusal es) (batch_with z es) m is in
    (both.0, both.1 ∙ ap (λ count. batch_with count es) (sized (length es) z f))

pub batch_is_read_again : BatchIsReadAgain
batch_is_read_again es m is all =
    let both = counted es m (size_in_i32 (length es)) refl is in (
      ap (λ x. x.num_messages_in_batch) both.1,
      ap (λ x. entries (length es) x.payload) both.1 ∙ ap (entries (length es)) (sym (append-nil (batch_bytes es)))
          ∙ batch-again es [] (all_sound es both.0 all),
    )
