-- Printed errors: of messages that were sent together.
use Rattle.std.proofs.Common.{◌≡◌, ◌∙◌, ℕ, sym, ap, refl, arith, List, [], ◌∷◌, ◌++◌, length, append_assoc, append-nil, codes}
use Rattle.std.specs.Prelude.{Result, Ok, Err}
use Rattle.std.specs.Fmt.{decimal}
use Rattle.pulsar_wire.specs.declared.error.Error.{Error}
use Rattle.pulsar_wire.specs.declared.error.ProducerError.{ProducerError, Ok', Err', Row_of-ProducerError-PartialSend-0-2 as Row, end_of-ProducerError-PartialSend-0-2 as end_of, more_of-ProducerError-PartialSend-0-2 as more_of, items-the_row-ProducerError-PartialSend-0-2 as items, items_hidden-the_row-ProducerError-PartialSend-0-2-0 as items_hidden}
use Rattle.pulsar_wire.specs.declared.error.ProducerError.TheVariants as producer
use Rattle.std.specs.Global.{Vec}
use Rattle.pulsar_wire.specs.Failures.{OfPartialSend, NoMore, Sent, Went, Failed, all_sent, failure, of_producer, sent}
use Rattle.pulsar_printing.specs.ErrorText.{count, first_word, outcomes}

-- what is printed of one
abbrev pub outcome : Result ℕ Error → List ℕ
outcome (Ok ticket) = codes " ok:" ++ decimal ticket
outcome (Err e) = codes " err:" ++ first_word (failure e)

-- one more
pub outcomes_more : (xs : List (Result ℕ Error)) (x : Result ℕ Error) → outcomes (sent (xs ++ x ∷ [])) ≡ outcomes (sent xs) ++ outcome x
outcomes_more [] (Ok ticket) = ap (λ t. codes " ok:" ++ t) (append-nil (decimal ticket))
outcomes_more [] (Err e) = ap (λ t. codes " err:" ++ t) (append-nil (first_word (failure e)))
outcomes_more (Ok ticket ∷ xs) x =
    ap (λ t. codes " ok:" ++ decimal ticket ++ t) (outcomes_more xs x)
    ∙ ap (λ t. codes " ok:" ++ t) (sym (append_assoc (decimal ticket) (outcomes (sent xs)) (outcome x)))
    ∙ sym (append_assoc (codes " ok:") (decimal ticket ++ outcomes (sent xs)) (outcome x))
outcomes_more (Err e ∷ xs) x =
    ap (λ t. codes " err:" ++ first_word (failure e) ++ t) (outcomes_more xs x)
    ∙ ap (λ t. codes " err:" ++ t) (sym (append_assoc (first_word (failure e)) (outcomes (sent xs)) (outcome x)))
    ∙ sym (append_assoc (codes " err:") (first_word (failure e) ++ outcomes (sent xs)) (outcome x))

pub count_sent : (xs : List (Result ℕ Error)) → count (sent xs) ≡ length xs
count_sent [] = refl
count_sent (Ok ticket ∷ xs) = let e : count (sent xs) ≡ length xs = count_sent xs in omega (arith, e)
count_sent (Err f ∷ xs) = let e : count (sent xs) ≡ length xs = count_sent xs in omega (arith, e)

-- as they are kept
pub sent_row : (n : _) (row : Row n) → sent (items n row) ≡ all_sent row
sent_row _ end_of = refl
sent_row _ (more_of (Ok' ticket) others) = ap (Went ticket) (sent_row _ others)
sent_row _ (more_of (Err' e) others) = ap (Failed (failure e)) (sent_row _ others)

abbrev sent_in : ProducerError → Sent
sent_in (producer.PartialSend' shape all) = all_sent all
sent_in _ = NoMore

abbrev items_in : ProducerError → List (Result ℕ Error)
items_in (producer.PartialSend' shape all) = items _ all
items_in _ = []

kept_in : (e : ProducerError) → sent_in e ≡ sent (items_in e)
kept_in (producer.PartialSend' shape all) = sym (sent_row _ all)
kept_in _ = refl

pub partial_send : (v : Vec (Result ℕ Error)) → of_producer (producer.PartialSend v) ≡ OfPartialSend (sent v.items)
partial_send v = ap OfPartialSend (kept_in (producer.PartialSend v) ∙ ap sent (items_hidden v))
