use Rattle.std.proofs.Common.{◌≡◌, ◌∙◌, sym, ap, ◌<◌, ◌-◌, [], ◌∷◌, ◌++◌, string_bytes, arith}
use Rattle.std.proofs.lemmas.Bool.Decides.{nat_tests}
use Rattle.pulsar_incoming.specs.Naming.{letters}
use Rattle.pulsar_incoming.proofs.Drawing.{drawn_all, drawn_next}
use Rattle.pulsar_incoming.proofs.naming.draw.Goals as goal

pub loop-preserved : goal.loop-preserved
loop-preserved c =
    let test = c.loop-test.true in
    let lt : c.loop.counter < 8 = grind (arith, nat_tests) in
    let one = c.in_ok-push.ensures.ascii c.letter.ensures.ascii ∙ ap (λ n. n ∷ []) c.letter.ensures.says in
    let pushed = c.in_ok-push.ensures.bytes ∙ ap (λ x. string_bytes c.loop.name ++ x) one in
    drawn_next (string_bytes c.loop.name) (string_bytes c.push.new.self) (string_bytes c.args.name.now ++ letters 8 c.args.stream.now) c.loop.counter
    c.next_word-word.result c.loop.stream c.next_word-word.new.self lt c.next_word-word.ensures pushed c.loop.invariant

pub returns : goal.returns
returns c =
    let test = c.loop-test.false in
    let end = c.loop.auto.counter-end in
    let whole : c.loop.counter ≡ 8 = grind (arith, nat_tests) in
    sym (drawn_all (string_bytes c.loop.name) c.loop.stream)
    ∙ ap (λ n. string_bytes c.loop.name ++ letters (8 - n) c.loop.stream) (sym whole)
    ∙ c.loop.invariant
