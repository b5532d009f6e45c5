use Rattle.std.proofs.Common.{arith, subst, ℕ, ◌≡◌}
use Rattle.pulsar_messages.specs.Message.{bare}
use Rattle.pulsar_calls.specs.Content.{Send, heard}
use Rattle.pulsar_cli.specs.Demo.{Sends, payload, producer_ticket}
use Rattle.pulsar_cli.proofs.Demos.{sends-more, sends-none}
use Rattle.pulsar_cli.proofs.Courses.{leads-called}
use Rattle.pulsar_cli.proofs.course.sends.Goals as goal

pub loop-place-init : goal.loop-place-init
loop-place-init g c = λ all keeps h plays. (h, plays, sends-none c.args.seed h)

pub loop-place-preserved : goal.loop-place-preserved
loop-place-preserved g c = λ all keeps h plays.
    let before = c.loop-place.invariant all keeps h plays in
    let next = leads-called (Send producer_ticket (bare (payload c.args.seed c.loop-place.place))) (heard c.in_ok-sends.sends.value) c.loop-place.play c.turn.new.play c.in_ok-sends.ensures (c.in_ok-turn.ensures c.args.seed all) keeps before.0 before.1 in
    (next.0, next.1, sends-more c.args.seed c.loop-place.place h before.0 next.0 before.2 next.2)

pub returns : goal.returns
returns g c = λ all keeps h plays.
    let before = c.loop-place.invariant all keeps h plays in
    let end : c.loop-place.place ≡ c.args.count = omega arith in
    (before.0, before.1, subst (λ (n : ℕ). Sends c.args.seed n h before.0) end before.2)
