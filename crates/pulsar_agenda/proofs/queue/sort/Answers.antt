use Rattle.std.proofs.Common.{rules}
use Rattle.std.proofs.lemmas.List.Sorted.{answers_always}
use Rattle.pulsar_calls.specs.declared.act.Notice.{Notice}
use Rattle.pulsar_calls.specs.Who.{rank}
use Rattle.pulsar_agenda.proofs.Sorting.{notices_sorted}
use Rattle.pulsar_agenda.proofs.queue.sort.Goals as goal

pub returns : goal.returns
returns c =
    notices_sorted _ _
    (c.in_ok-sort_by_key.ensures.sorted (λ (n : Notice). rank n.who) (answers_always _ _ _ (λ f a r g h. search rules)))
    (c.sort_by_key.ensures.stable (λ (n : Notice). rank n.who) (answers_always _ _ _ (λ f a r g h. search rules)))
