use Rattle.std.proofs.Common.{refl, ap, subst, map, List, [], ◌≡◌}
use Rattle.pulsar_calls.specs.declared.effect.Effect.{Effect}
use Rattle.pulsar_calls.specs.declared.event.Event.TheVariants as event
use Rattle.pulsar_calls.specs.Content.{Poll, heard, shown}
use Rattle.pulsar_cli.specs.Demo.{IsAck, item_of}
use Rattle.pulsar_cli.specs.Played.{heard_in}
use Rattle.pulsar_cli.specs.Script.{defaults}
use Rattle.pulsar_cli.proofs.Courses.{plays-step}
use Rattle.pulsar_cli.proofs.course.poll.Goals as goal

pub returns : goal.returns
returns g c = λ seed count keeps h plays.
    let is : heard c.in_ok-event.event.value ≡ Poll c.args.consumer = ap heard c.in_ok-event.ensures.ok in
    let next = plays-step (event.Poll c.args.consumer) c.in_ok-event.event.value (Poll c.args.consumer) c.in_ok-effects.effects.items c.args.play.now c.note.new.self refl is (c.in_ok-effects.ensures.ok (defaults [])) (λ k. c.in_ok-note.ensures k seed count) keeps h plays tt in
    (next.0, next.1, record { effects = map shown c.in_ok-effects.effects.items; is_ack = subst (λ (xs : List Effect). IsAck c.args.consumer (heard_in c.in_ok-ack.ack) (item_of (map shown xs))) c.deref.ensures.value c.in_ok-ack.ensures; is = next.2 })
