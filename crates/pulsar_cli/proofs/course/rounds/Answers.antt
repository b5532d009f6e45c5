use Rattle.std.proofs.Common.{arith, subst, ℕ, ◌≡◌}
use Rattle.pulsar_cli.specs.Demo.{Rounds}
use Rattle.pulsar_cli.proofs.Demos.{rounds-more, rounds-none}
use Rattle.pulsar_cli.proofs.course.rounds.Goals as goal

pub loop-made-init : goal.loop-made-init
loop-made-init g c = λ seed all keeps h plays. (h, plays, rounds-none c.args.consumer h)

pub loop-made-preserved : goal.loop-made-preserved
loop-made-preserved g c = λ seed all keeps h plays.
    let before = c.loop-made.invariant seed all keeps h plays in
    let next = c.in_ok-round.ensures seed all keeps before.0 before.1 in
    (next.0, next.1, rounds-more c.args.consumer c.loop-made._made h before.0 next.0 before.2 next.2)

pub returns : goal.returns
returns g c = λ seed all keeps h plays.
    let before = c.loop-made.invariant seed all keeps h plays in
    let end : c.loop-made._made ≡ c.args.count = omega arith in
    (before.0, before.1, subst (λ (n : ℕ). Rounds c.args.consumer n h before.0) end before.2)
