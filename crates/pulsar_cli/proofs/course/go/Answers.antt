use Rattle.pulsar_calls.specs.Content.{Consumer, heard}
use Rattle.pulsar_cli.specs.Demo.{consumer_ticket, demo_consumer}
use Rattle.pulsar_cli.proofs.Courses.{leads-called, leads-rounds, plays-go}
use Rattle.pulsar_cli.proofs.course.go.Goals as goal

pub returns : goal.returns
returns g c = λ keeps h plays.
    let is = plays.holds.counts.consumer in
    plays-go c.args.play.now c.begin.new.play c.sends.new.play c.turn.new.play c.rounds.new.play c.close.new.play
    (c.in_ok-begin.ensures c.args.seed c.args.count)
    (c.in_ok-sends.ensures c.args.count)
    (leads-called (Consumer demo_consumer) (heard c.in_ok-makes.makes.value) _ _ c.in_ok-makes.ensures (c.in_ok-turn.ensures c.args.seed c.args.count))
    (leads-rounds _ (consumer_ticket c.args.count) c.args.count _ _ is (c.in_ok-rounds.ensures c.args.seed c.args.count))
    (c.in_ok-close.ensures c.args.seed c.args.count is) keeps h plays
