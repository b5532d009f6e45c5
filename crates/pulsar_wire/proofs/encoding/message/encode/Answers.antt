use Rattle.std.proofs.Common.{refl}
use Rattle.std.proofs.lemmas.Result.{on_ok_weaker}
use Rattle.pulsar_wire.specs.Row.{spelling}
use Rattle.pulsar_wire.proofs.Ranges.{on_ok_both, short_end}
use Rattle.pulsar_wire.proofs.RoundTrip.{round_trip}
use Rattle.pulsar_wire.proofs.encoding.message.encode.Goals as goal

pub returns-clause-ok : goal.returns-clause-ok
returns-clause-ok g c = on_ok_weaker c.write.result (λ d. d c.args.out.now.items refl) c.write.ensures.ok

pub returns-clause-again : goal.returns-clause-again
returns-clause-again g c =
    let shape = g.M.Message.shape in
    let vs = g.M.Message.values c.args.message.now in
    on_ok_both c.write.result (λ d fits. round_trip shape vs g.met.M.Message.numbers_differ (fits, short_end c.write.new.out c.args.out.now.items (spelling shape vs) (d c.args.out.now.items refl))) c.write.ensures.ok c.write.ensures.fits
