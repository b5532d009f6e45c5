use Rattle.std.proofs.Common.{◌∙◌, ◌++◌, sym, ap}
use Rattle.std.specs.Prelude.{string_bytes}
use Rattle.pulsar_wire.specs.Failures.{OfPartialSend, of_producer, sent}
use Rattle.pulsar_printing.specs.ErrorText as printed
use Rattle.pulsar_printing.proofs.Errors.{partial_send}
use Rattle.pulsar_printing.proofs.error.+text.Goals as goal

pub push_producer_detail-returns-in_ok-push_outcomes-in-PartialSend :
    goal.push_producer_detail-returns-in_ok-push_outcomes-in-PartialSend
push_producer_detail-returns-in_ok-push_outcomes-in-PartialSend t c =
    c.in_ok-push_outcomes-in-PartialSend.ensures
    ∙ ap (λ xs. string_bytes c.args.out.now ++ printed.detail (OfPartialSend (sent xs))) c.deref-in-PartialSend.ensures.value
    ∙ ap (λ f. string_bytes c.args.out.now ++ printed.detail f) (sym (partial_send c.in-PartialSend.sent) ∙ ap of_producer (sym c.in-PartialSend.is))
