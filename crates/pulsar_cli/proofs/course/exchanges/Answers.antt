use Rattle.std.proofs.Common.{rules, arith, subst, Bool, true, false, ◌≡◌, ◌<◌}
use Rattle.pulsar_cli.specs.Demo.{Exchange, UpToMost, UpToQuiet}
use Rattle.pulsar_cli.proofs.Demos.{busy-more, busy-none}
use Rattle.pulsar_cli.proofs.course.exchanges.Goals as goal

pub loop-made-init : goal.loop-made-init
loop-made-init g c = λ seed count keeps h plays. (h, plays, busy-none h)

pub loop-made-preserved : goal.loop-made-preserved
loop-made-preserved g c = λ seed count keeps h plays.
    let before = c.loop-made.invariant seed count keeps h plays in
    let next = c.in_ok-exchange.ensures seed count keeps before.0 before.1 in
    let wrote : c.in_ok-exchange.field-0 ≡ true = search rules in
    (next.0, next.1, busy-more c.loop-made._made h before.0 next.0 before.2 (subst (λ (w : Bool). Exchange w before.0 next.0) wrote next.2))

pub returns-then-not-branch : goal.returns-then-not-branch
returns-then-not-branch g c = λ seed count keeps h plays.
    let before = c.loop-made.invariant seed count keeps h plays in
    let next = c.in_ok-exchange.ensures seed count keeps before.0 before.1 in
    let wrote : c.in_ok-exchange.field-0 ≡ false = search rules in
    let few : c.loop-made._made < 16 = omega arith in
    (next.0, next.1, UpToQuiet c.loop-made._made before.0 few before.2 (subst (λ (w : Bool). Exchange w before.0 next.0) wrote next.2))

pub returns : goal.returns
returns g c = λ seed count keeps h plays.
    let before = c.loop-made.invariant seed count keeps h plays in
    let all : c.loop-made._made ≡ 16 = omega arith in
    (before.0, before.1, UpToMost c.loop-made._made all before.2)
