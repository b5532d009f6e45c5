use Rattle.std.proofs.Common.{rules, ap, [], ◌≡◌, length}
use Rattle.std.proofs.lemmas.List.{nil_from_length}
use Rattle.pulsar_calls.specs.Content.{Bytes, heard}
use Rattle.pulsar_cli.proofs.Courses.{plays-piece, plays-quiet}
use Rattle.pulsar_cli.proofs.course.receive.Goals as goal

pub returns-then-is_empty : goal.returns-then-is_empty
returns-then-is_empty g c = λ seed count.
    let zero : length c.in_ok-piece.piece.items ≡ 0 = search rules in
    plays-quiet c.in_ok-piece.piece.items c.args.play.now c.take.new.self (nil_from_length c.in_ok-piece.piece.items zero)
    (λ keeps h holds. (c.in_ok-piece.ensures.owes keeps seed count h holds, c.in_ok-piece.ensures.holds keeps seed count h holds))

pub returns : goal.returns
returns g c = λ seed count.
    let is : heard c.in_ok-event.event.value ≡ Bytes 0 c.in_ok-piece.piece.items = ap heard c.in_ok-event.ensures.ok in
    let some : c.in_ok-piece.piece.items ≡ [] → ⊥ = λ e. absurd (search rules) in
    plays-piece c.in_ok-piece.piece.items (heard c.in_ok-event.event.value) c.args.play.now c.take.new.self c.submit.new.play is some
    (λ keeps h holds. (c.in_ok-piece.ensures.owes keeps seed count h holds, c.in_ok-piece.ensures.holds keeps seed count h holds))
    (c.in_ok-submit.ensures seed count)
