use Rattle.std.proofs.Common.{ℕ, List, sym, ap, ◌∙◌, arith}
use Rattle.pulsar_wire.proofs.Fields.{some}
use Rattle.pulsar_frame.proofs.Splits.{sized-takes, sized-rest}
use Rattle.pulsar_frame.proofs.frame.split_frame.Goals as goal

pub overflow_sub-result : goal.overflow_sub-result
overflow_sub-result c = omega (arith, sized-takes.shorter _ _ _ (sym c.in_ok-content.ensures))

pub returns : goal.returns
returns c =
    let rest = sized-rest _ _ _ (sym c.in_ok-content.ensures) in
    (sym c.in_ok-content.ensures ∙ ap (λ (r : List ℕ). some (c.in_ok-content.content.now, r)) rest, omega arith)
