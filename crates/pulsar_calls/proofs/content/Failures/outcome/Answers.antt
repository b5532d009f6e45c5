use Rattle.std.proofs.Common.{◌∙◌, ap, sym, length}
use Rattle.std.proofs.lemmas.Bool.{false≢true}
use Rattle.pulsar_wire.specs.Failures.{OfPartialSend}
use Rattle.pulsar_calls.specs.Content.{Failed}
use Rattle.pulsar_calls.specs.Content.{numbers_from}
use Rattle.pulsar_calls.proofs.Parting.{some_failed}
use Rattle.pulsar_outgoing.proofs.PartialSends.{partial_send}
use Rattle.pulsar_calls.proofs.content.Failures.outcome.Goals as goal

pub returns : goal.returns
returns c =
    ap Failed (partial_send c.in_ok-partial.partial)
    ∙ ap (λ s. Failed (OfPartialSend s)) c.in_ok-partial.ensures
    ∙ sym (some_failed (numbers_from c.args.first c.args.count) c.args.self
    (λ none. false≢true (sym c.if-is_empty.false ∙ c.is_empty.ensures.1 (ap length (c.self.view_is ∙ none)))))
