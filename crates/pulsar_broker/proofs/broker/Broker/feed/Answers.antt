use Rattle.std.proofs.Common.{refl, true, false}
use Rattle.pulsar_broker.specs.History.{stream}
use Rattle.pulsar_broker.proofs.Standing.{stands_fed}
use Rattle.pulsar_broker.proofs.broker.Broker.feed.Goals as goal

pub returns-clause-ok : goal.returns-clause-ok
returns-clause-ok c url h stands =
    let old = c.args.self.now in
    let between = record old { readings = c.resume-reading.new.readings; failed = true } in
    let middle = c.go_on.new.self in
    let new = record middle { readings = c.insert.new.self; failed = false } in
    stands_fed url h old between middle new c.args.link c.args.piece.now c.in_ok-after.after stands refl refl refl
    c.resume-reading.ensures.others
    (c.in_ok-after.ensures.after stands.kept (stream c.args.link h) (c.resume-reading.ensures.reading (stream c.args.link h) (stands.reads c.args.link)))
    refl refl refl refl c.in_ok-insert.ensures.updates.0
