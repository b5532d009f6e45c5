use Rattle.std.proofs.Common.{arith, ◌≡◌, ◌<◌, ◌∙◌, ap, length, map}
use Rattle.std.proofs.lemmas.Bool.Decides.{nat_tests}
use Rattle.pulsar_work.specs.Form.{lines_of}
use Rattle.pulsar_job.proofs.Splits.{lines-last, lines-more, lines-none}
use Rattle.pulsar_job.proofs.reading.lines.Goals as goal
use Rattle.pulsar_job.proofs.reading.lines.Goals.{then-not-is_empty+in_ok-to_vec-2+in_ok-push-2, else-not-is_empty}

pub loop-line-preserved : goal.loop-line-preserved
loop-line-preserved c =
    lines-more c.push.new.self.items c.loop-line.lines.items c.in_ok-to_vec.field-0 c.args.bytes.now c.loop-line.rest.now c.in-Some.line.now c.in-Some.after.now
    c.in_ok-push.ensures.items (c.in_ok-to_vec.ensures.items_if_clones_equal (λ x y h. h)) c.loop-line.invariant c.in-Some.ensures.1 c.in-Some.ensures.0

pub returns : goal.returns
returns c = elim c.if-not-is_empty.branch as (λ v. map (λ l. l.items) c.if-not-is_empty.lines.items ≡ lines_of c.args.bytes.now) [
  | then-not-is_empty+in_ok-to_vec-2+in_ok-push-2 w ↦
      let some : 0 < length c.loop-line.rest.now = grind (arith, nat_tests) in
      ap (λ v. map (λ l. l.items) v.items) w.lines-is
      ∙ lines-last w.push-then-not-is_empty.new.self.items c.loop-line.lines.items w.in_ok-to_vec-2.field-0 c.args.bytes.now c.loop-line.rest.now w.in_ok-push-2.ensures.items
      (w.in_ok-to_vec-2.ensures.items_if_clones_equal (λ x y h. h)) c.loop-line.invariant c.in_default.ensures some
  | else-not-is_empty w ↦
      let none : length c.loop-line.rest.now ≡ 0 = grind (arith, nat_tests) in
      ap (λ v. map (λ l. l.items) v.items) w.lines-is ∙ lines-none c.loop-line.lines.items c.args.bytes.now c.loop-line.rest.now c.loop-line.invariant none
]
