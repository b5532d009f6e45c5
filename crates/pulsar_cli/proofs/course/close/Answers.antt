use Rattle.std.proofs.Common.{ap, ℕ, ◌∙◌}
use Rattle.pulsar_calls.specs.Content.{Called, CloseConsumer, CloseProducer, heard}
use Rattle.pulsar_cli.specs.Demo.{consumer_ticket, producer_ticket}
use Rattle.pulsar_cli.proofs.Courses.{leads-called, plays-close}
use Rattle.pulsar_cli.proofs.course.close.Goals as goal

pub returns : goal.returns
returns g c = λ seed count is.
    plays-close c.args.play.now c.turn.new.play c.turn-2.new.play
    (leads-called (CloseConsumer (consumer_ticket count)) (heard c.in_ok-first.first.value) _ _ (ap heard c.in_ok-first.ensures.ok ∙ ap (λ (n : ℕ). Called (CloseConsumer n)) is) (c.in_ok-turn.ensures seed count))
    (leads-called (CloseProducer producer_ticket) (heard c.in_ok-second.second.value) _ _ (ap heard c.in_ok-second.ensures.ok) (c.in_ok-turn-2.ensures seed count))
