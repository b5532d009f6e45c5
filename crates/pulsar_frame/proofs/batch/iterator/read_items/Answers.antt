use Rattle.std.proofs.Common.{map, sym, ap, ◌∙◌, arith}
use Rattle.std.proofs.lemmas.List.{length-map}
use Rattle.std.proofs.lemmas.Result.{err_from_is_err_and}
use Rattle.pulsar_wire.proofs.Merging.{Refuses-on}
use Rattle.pulsar_wire.specs.Views.{message_id_values}
use Rattle.pulsar_wire.proofs.Fields.{some}
use Rattle.pulsar_frame.specs.Batch.{entries, entry_values}
use Rattle.pulsar_frame.specs.Payload.{payload_values}
use Rattle.pulsar_frame.proofs.Batches.{entries-length, batch_items-uncounted, batch_items-refused, batch_items-read}
use Rattle.pulsar_frame.proofs.batch.iterator.read_items.Goals as goal

pub returns-in_default : goal.returns-in_default
returns-in_default c = batch_items-uncounted (message_id_values c.args.message_id.now) (payload_values c.args.payload.now) (sym c.in_default.ensures.count)

pub returns-in_err-entries : goal.returns-in_err-entries
returns-in_err-entries c =
    let p = err_from_is_err_and c.from_residual.result c.from_residual.ensures.1 in
    rw (p.1, p.2) (Refuses-on c.in_err-entries.field-0.0 _ _
    (λ none. batch_items-refused (message_id_values c.args.message_id.now) (payload_values c.args.payload.now) c.in-Some.count (sym c.in-Some.ensures.count) (ap (entries c.in-Some.count) (sym c.deref.ensures.value) ∙ none))
    c.in_err-entries.ensures)

pub make_items-requires : goal.make_items-requires
make_items-requires c =
    let count = entries-length c.in-Some.count c.deref.result.now (map entry_values c.in_ok-entries.entries.items) c.in_ok-entries.ensures in
    omega (arith, length-map c.in_ok-entries.entries.items entry_values, c.in-Some.ensures.small)

pub returns : goal.returns
returns c =
    batch_items-read (message_id_values c.args.message_id.now) (payload_values c.args.payload.now) c.in-Some.count (map entry_values c.in_ok-entries.entries.items) (sym c.in-Some.ensures.count)
    (ap (entries c.in-Some.count) (sym c.deref.ensures.value) ∙ c.in_ok-entries.ensures)
    ∙ ap some (sym c.in_ok-make_items.ensures)
