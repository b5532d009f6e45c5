use Rattle.std.proofs.Common.{ap}
use Rattle.pulsar_calls.specs.Content.{Producer, heard}
use Rattle.pulsar_cli.specs.Demo.{demo_producer}
use Rattle.pulsar_cli.proofs.Courses.{leads-build, leads-called, leads-opened, plays-begin}
use Rattle.pulsar_cli.proofs.course.begin.Goals as goal

pub returns : goal.returns
returns g c = λ seed count.
    plays-begin c.args.play.now c.submit.new.play c.turn.new.play c.turn-2.new.play
    (leads-build (heard c.in_ok-build.build.value) _ _ (ap heard c.in_ok-build.ensures.ok) (c.in_ok-submit.ensures seed count))
    (leads-opened (heard c.in_ok-opened.opened.value) _ _ (ap heard c.in_ok-opened.ensures.ok) (c.in_ok-turn.ensures seed count))
    (leads-called (Producer demo_producer) (heard c.in_ok-makes.makes.value) _ _ c.in_ok-makes.ensures (c.in_ok-turn-2.ensures seed count))
