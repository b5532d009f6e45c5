use Rattle.std.proofs.Common.{rules}
use Rattle.std.proofs.lemmas.List.Sorted.{answers_always}
use Rattle.pulsar_calls.specs.declared.effect.Effect.{Effect}
use Rattle.pulsar_calls.specs.Content.{shown}
use Rattle.pulsar_calls.specs.Order.{effect_rank}
use Rattle.pulsar_agenda.proofs.Sorting.{effects_sorted}
use Rattle.pulsar_agenda.proofs.order.arrange.Goals as goal

pub returns : goal.returns
returns c =
    effects_sorted _ _
    (c.in_ok-sort_by_key.ensures.sorted (λ (e : Effect). effect_rank (shown e)) (answers_always _ _ _ (λ f a r g h. search rules)))
    (c.sort_by_key.ensures.stable (λ (e : Effect). effect_rank (shown e)) (answers_always _ _ _ (λ f a r g h. search rules)))
