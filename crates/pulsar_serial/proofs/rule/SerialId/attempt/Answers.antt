use Rattle.std.proofs.Common.{◌<◌, ◌∙◌, arith}
use Rattle.pulsar_serial.proofs.Drawing.{draws, looks}
use Rattle.pulsar_serial.proofs.rule.SerialId.attempt.Goals as goal

pub load-n-requires : goal.load-n-requires
load-n-requires c =
    let one = c.args.self.now.one in
    let word : 0 < c.args.self.now.table.shared.table_id.words = omega (arith, one) in
    (c.requires, word, looks c.args.self.now.table.shared.key c.args.self.now.table.shared.table_id.slots c.args.seat.now.seat.id c.args.seat.now.seat.me)

pub compare_exchange-found-requires : goal.compare_exchange-found-requires
compare_exchange-found-requires c =
    let one = c.args.self.now.one in
    let word : 0 < c.args.self.now.table.shared.table_id.words = omega (arith, one) in
    (c.load-n.ensures.0 ∙ c.requires, word, draws c.args.self.now.table.shared.key c.args.self.now.table.shared.table_id.slots c.load-n.new.seat.id c.load-n.result c.load-n.new.seat.me)
