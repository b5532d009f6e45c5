-- How an error keeps what became of messages that were sent together.
use Rattle.std.proofs.Common.{◌≡◌, ◌∙◌, ℕ, ap, sym, refl, List, [], ◌∷◌, ◌++◌}
use Rattle.std.specs.Prelude.{Result, Ok, Err}
use Rattle.std.specs.Global.{Vec}
use Rattle.pulsar_wire.specs.declared.error.Error.{Error}
use Rattle.pulsar_wire.specs.declared.error.ProducerError.{ProducerError, Ok', Err', Row_of-ProducerError-PartialSend-0-2 as Row, end_of-ProducerError-PartialSend-0-2 as end_of, more_of-ProducerError-PartialSend-0-2 as more_of, items-the_row-ProducerError-PartialSend-0-2 as items, items_hidden-the_row-ProducerError-PartialSend-0-2-0 as items_hidden}
use Rattle.pulsar_wire.specs.declared.error.ProducerError.TheVariants as producer
use Rattle.pulsar_wire.specs.Failures.{OfPartialSend, NoMore, Sent, Went, Failed, all_sent, failure, of_producer, sent}

pub sent_behind : (xs ys zs : List (Result ℕ Error)) → sent ys ≡ sent zs → sent (xs ++ ys) ≡ sent (xs ++ zs)
sent_behind [] ys zs same = same
sent_behind (Ok ticket ∷ xs) ys zs same = ap (Went ticket) (sent_behind xs ys zs same)
sent_behind (Err e ∷ xs) ys zs same = ap (Failed (failure e)) (sent_behind xs ys zs same)

sent_row : (n : _) (row : Row n) → sent (items n row) ≡ all_sent row
sent_row _ end_of = refl
sent_row _ (more_of (Ok' ticket) others) = ap (Went ticket) (sent_row _ others)
sent_row _ (more_of (Err' e) others) = ap (Failed (failure e)) (sent_row _ others)

abbrev sent_in : ProducerError → Sent
sent_in (producer.PartialSend' shape all) = all_sent all
sent_in _ = NoMore

abbrev items_in : ProducerError → List (Result ℕ Error)
items_in (producer.PartialSend' shape all) = items _ all
items_in _ = []

kept_in : (e : ProducerError) → sent_in e ≡ sent (items_in e)
kept_in (producer.PartialSend' shape all) = sym (sent_row _ all)
kept_in _ = refl

pub partial_send : (v : Vec (Result ℕ Error)) → of_producer (producer.PartialSend v) ≡ OfPartialSend (sent v.items)
partial_send v = ap OfPartialSend (kept_in (producer.PartialSend v) ∙ ap sent (items_hidden v))
