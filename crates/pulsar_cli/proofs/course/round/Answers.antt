use Rattle.std.proofs.Common.{ap}
use Rattle.pulsar_calls.specs.Content.{heard}
use Rattle.pulsar_cli.specs.Played.{heard_in}
use Rattle.pulsar_cli.proofs.Courses.{plays-round-none, plays-round-some, polls-as}
use Rattle.pulsar_cli.proofs.course.round.Goals as goal

pub returns-in_ok-turn-in-Some : goal.returns-in_ok-turn-in-Some
returns-in_ok-turn-in-Some g c = λ seed count.
    plays-round-some c.args.consumer (heard c.in-Some.ack.value) _ _ _ _
    (polls-as c.args.consumer _ _ _ _ (ap heard_in c.in-Some.is) (c.in_ok-ack.ensures seed count))
    (c.in_ok-exchanges.ensures seed count) (c.in_ok-turn-in-Some.ensures seed count)

pub returns-in-None : goal.returns-in-None
returns-in-None g c = λ seed count.
    plays-round-none c.args.consumer c.args.play.now c.poll.new.play c.exchanges.new.play
    (polls-as c.args.consumer _ _ _ _ (ap heard_in c.in-None.is) (c.in_ok-ack.ensures seed count))
    (c.in_ok-exchanges.ensures seed count)
