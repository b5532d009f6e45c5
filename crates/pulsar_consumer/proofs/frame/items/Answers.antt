use Rattle.std.proofs.Common.{◌≡◌, ◌∙◌, IfOk, sym, subst}
use Rattle.pulsar_consumer.proofs.Yields.{single}
use Rattle.pulsar_consumer.proofs.frame.items.Goals as goal

pub returns-in-None : goal.returns-in-None
returns-in-None c =
    subst (λ x. IfOk c.one-in-None.result (λ items. items.items ≡ x))
    (sym (single c.args.id c.args.payload (sym c.is_compressed.ensures ∙ c.if-is_compressed.false) c.in-None.is)) c.one-in-None.ensures
