use Rattle.std.proofs.Common.{refl, ap, map, [], ◌∙◌}
use Rattle.pulsar_calls.specs.Content.{heard, shown}
use Rattle.pulsar_cli.specs.Script.{defaults}
use Rattle.pulsar_cli.proofs.Courses.{plays-step}
use Rattle.pulsar_cli.proofs.course.submit.Goals as goal

pub returns : goal.returns
returns g c = λ seed count keeps h plays said.
    let same = c.in_ok-copy.ensures ∙ ap heard c.deref.ensures in
    let next = plays-step c.in_ok-copy.copy c.args.event.value (heard c.args.event.value) c.in_ok-effects.effects.items c.args.play.now c.note.new.self same refl (c.in_ok-effects.ensures.ok (defaults [])) (λ k. c.in_ok-note.ensures k seed count) keeps h plays said in
    (next.0, next.1, (map shown c.in_ok-effects.effects.items, next.2))
