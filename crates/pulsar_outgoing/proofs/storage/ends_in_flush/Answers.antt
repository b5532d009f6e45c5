use Rattle.std.proofs.Common.{◌∙◌, ap, sym}
use Rattle.pulsar_outgoing.specs.Storage.{is_flush, item_of}
use Rattle.pulsar_outgoing.proofs.Entries.{last_flush}
use Rattle.pulsar_outgoing.proofs.storage.ends_in_flush.Goals as goal

pub returns-in-Some-Flush : goal.returns-in-Some-Flush
returns-in-Some-Flush c =
    sym (last_flush c.args.items.now c.in-Some-Flush.field-0.now (sym c.in-Some-Flush.ensures.value)
    ∙ ap (λ x. is_flush (item_of x)) c.in-Some-Flush.field-0-is)

pub returns-in-Some-SingleMessage : goal.returns-in-Some-SingleMessage
returns-in-Some-SingleMessage c =
    sym (last_flush c.args.items.now c.in-Some-SingleMessage.field-0.now (sym c.in-Some-SingleMessage.ensures.value)
    ∙ ap (λ x. is_flush (item_of x)) c.in-Some-SingleMessage.field-0-is)
