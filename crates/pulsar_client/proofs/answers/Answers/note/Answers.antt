use Rattle.std.proofs.Common.{◌∙◌, ap, sym, map, take}
use Rattle.pulsar_calls.specs.Content.{shown}
use Rattle.pulsar_client.specs.Taken.{drawn_to, ended_in, held_in, left_after}
use Rattle.pulsar_client.proofs.Answering.{ended_end}
use Rattle.pulsar_producer_table.proofs.Grown.{map_more}
use Rattle.pulsar_client.proofs.answers.Answers.note.Goals as goal

pub loop-effect-preserved : goal.loop-effect-preserved
loop-effect-preserved c = λ t.
    let es = c.args.effects.now in
    let i = c.loop-effect.effect-index in
    let e = c.effect-item.result in
    let row = drawn_to c.args.from c.args.to t (held_in c.args.self.now.held t) in
    c.in_ok-note_effect.ensures t
    ∙ ap (left_after (shown e) t) (c.loop-effect.invariant t)
    ∙ sym (ended_end (map shown (take i es)) (shown e) t row)
    ∙ ap (λ xs. ended_in xs t row) (sym (map_more shown es i e c.loop-effect-test.true c.effect-item.is))
