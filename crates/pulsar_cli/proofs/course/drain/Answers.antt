use Rattle.std.proofs.Common.{refl, ap, sym, map, List, [], ◌∙◌, ◌≡◌}
use Rattle.pulsar_calls.specs.declared.effect.Effect.{Effect}
use Rattle.pulsar_calls.specs.declared.event.Event.TheVariants as event
use Rattle.pulsar_calls.specs.Content.{Drain, heard, shown}
use Rattle.pulsar_cli.specs.Demo.{writes}
use Rattle.pulsar_cli.specs.Script.{defaults}
use Rattle.pulsar_cli.proofs.Courses.{plays-step}
use Rattle.pulsar_cli.proofs.course.drain.Goals as goal

pub returns : goal.returns
returns g c = λ seed count keeps h plays.
    let is : heard c.in_ok-event.event.value ≡ Drain 0 100 = ap heard c.in_ok-event.ensures.ok in
    let next = plays-step (event.Drain 0 100) c.in_ok-event.event.value (Drain 0 100) c.in_ok-effects.effects.items c.args.play.now c.note.new.self refl is (c.in_ok-effects.ensures.ok (defaults [])) (λ k. c.in_ok-note.ensures k seed count) keeps h plays tt in
    (next.0, next.1, record { effects = map shown c.in_ok-effects.effects.items; written = sym (c.writes-wrote.ensures ∙ ap (λ (xs : List Effect). writes (map shown xs)) c.deref.ensures.value); is = next.2 })
