use Rattle.std.proofs.Common.{◌∙◌, ap, sym}
use Rattle.pulsar_calls.specs.Content.{hands}
use Rattle.pulsar_shared.proofs.copies.copy_item.Goals as goal

pub returns-in_ok-copy_handed-in-Ok : goal.returns-in_ok-copy_handed-in-Ok
returns-in_ok-copy_handed-in-Ok c = λ ticket. c.in_ok-copy_handed-in-Ok.ensures ticket ∙ ap (hands ticket) (sym c.in-Ok.is)
