use Rattle.std.proofs.Common.{◌<◌, ◌∙◌, ap, arith, ℕ, List}
use Rattle.atomic_table.specs.Table.{Me}
use Rattle.pulsar_serial.proofs.Drawing.{counts, joins, once_apart}
use Rattle.pulsar_serial.proofs.rule.SerialId.join.Goals as goal

pub join_seat-requires : goal.join_seat-requires
join_seat-requires c =
    let one = c.args.self.now.one in
    let word : 0 < c.args.self.now.table.shared.table_id.words = omega (arith, one) in
    (c.requires.seat, c.requires.other, c.args.other.empty, word, joins c.args.self.now.table.shared.key c.args.seat.now.seat.id c.args.seat.now.seat.me.0 c.args.other.seat.id c.args.other.seat.me.0)

pub load-requires : goal.load-requires
load-requires c =
    let one = c.args.self.now.one in
    let word : 0 < c.args.self.now.table.shared.table_id.words = omega (arith, one) in
    (c.join_seat.ensures.0 ∙ c.requires.seat, word, counts c.args.self.now.table.shared.key c.args.self.now.table.shared.table_id.slots c.join_seat.new.seat.id c.join_seat.new.seat.me)

pub returns-clause-apart : goal.returns-clause-apart
returns-clause-apart c =
    once_apart c.args.seat.now.seat.me.0.0 c.args.other.seat.me.0.0 c.join_seat.new.seat.me.0.0 (ap (λ (m : Me (Unit {0}) (List ℕ × ℕ)). m.0.0) c.join_seat.ensures.2) c.load.ensures.2.1
