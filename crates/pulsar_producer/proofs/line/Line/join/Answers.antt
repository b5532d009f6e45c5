use Rattle.std.proofs.Common.{◌++◌, ◌∷◌, [], subst, sym}
use Rattle.pulsar_producer.specs.Turns.{AreAtMost}
use Rattle.pulsar_outgoing.specs.declared.multi_topic.Taker.{Taker}
use Rattle.pulsar_producer.proofs.Waiting.{most_copy}
use Rattle.pulsar_producer.proofs.line.Line.join.Goals as goal

pub invariant_of-self-in-Copy : goal.invariant_of-self-in-Copy
invariant_of-self-in-Copy c =
    let i = c.self.inside in
    subst (AreAtMost i.greatest) (sym c.in_ok-push_back-in-Copy.ensures.items)
    (subst (λ (t : Taker). AreAtMost i.greatest (i.waiting.items ++ t ∷ [])) (sym c.in-Copy.is)
    (most_copy c.in-Copy.consumer c.in-Copy.ticket c.in-Copy.key i.greatest i.waiting.items c.self.invariant))
