use Rattle.std.proofs.Common.{codes}
use Rattle.std.specs.Cmp.{both_ways}
use Rattle.std.proofs.lemmas.Str.Pattern.{contains_text}
use Rattle.pulsar_searches.proofs.Mentions.{found, finds}
use Rattle.pulsar_searches.proofs.count.is_partition.Goals as goal

pub returns : goal.returns
returns c =
    let is = contains_text c.contains.result (codes "-partition-") c.args.topic.now c.contains.ensures.cases in
    both_ways _ _ (λ t. let h = is.0 t in finds _ _ h.0 h.1 h.2) (λ t. is.1 (found _ _ t))
