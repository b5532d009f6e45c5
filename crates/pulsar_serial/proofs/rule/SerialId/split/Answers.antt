use Rattle.std.proofs.Common.{◌<◌, arith}
use Rattle.pulsar_serial.proofs.Drawing.{splits}
use Rattle.pulsar_serial.proofs.rule.SerialId.split.Goals as goal

pub split_seat-theirs-requires : goal.split_seat-theirs-requires
split_seat-theirs-requires c =
    let one = c.args.self.now.one in
    let word : 0 < c.args.self.now.table.shared.table_id.words = omega (arith, one) in
    (c.requires, word, splits c.args.self.now.table.shared.key c.args.seat.now.seat.id c.args.seat.now.seat.me.0)
