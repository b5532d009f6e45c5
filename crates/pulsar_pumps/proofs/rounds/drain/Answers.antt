use Rattle.std.proofs.Common.{ap, map, refl}
use Rattle.pulsar_pumps.specs.Made.{made_of}
use Rattle.pulsar_pumps.proofs.Ran.{drained_so, out_same}
use Rattle.pulsar_pumps.proofs.rounds.drain.Goals as goal

pub returns-then-is_err-clause-ran : goal.returns-then-is_err-clause-ran
returns-then-is_err-clause-ran g c = out_same _ _ _ (ap (map made_of) c.reserve.ensures.items) refl refl refl

pub returns-in-Ok-clause-ran : goal.returns-in-Ok-clause-ran
returns-in-Ok-clause-ran g c =
    drained_so c.put_effects-put.result c.args.link _ _ c.args.made.now.items c.reserve.new.self.items c.push_reserved.new.self.items c.in-Ok.receipt c.deref.result.now _ _ _ _
    c.reserve.ensures.items c.push_reserved.ensures.items c.in-Ok.ensures.told c.deref.ensures.value c.put_effects-put.ensures.puts

pub returns-in-Err-clause-ran : goal.returns-in-Err-clause-ran
returns-in-Err-clause-ran g c = out_same _ _ _ (ap (map made_of) c.reserve.ensures.items) c.in-Err.ensures.err refl refl
