use Rattle.std.proofs.Common.{refl}
use Rattle.pulsar_calls.specs.declared.event.Event.TheVariants as event
use Rattle.pulsar_pumps.proofs.Ran.{submitted}
use Rattle.pulsar_pumps.proofs.rounds.submit_lost.Goals as goal

pub returns-clause-ok : goal.returns-clause-ok
returns-clause-ok g c =
    submitted _ _ c.args.made.now.items c.reserve.new.self.items c.push_reserved.new.self.items (event.Lost c.args.link) (event.Lost c.args.link) c.in_ok-receipt.receipt
    c.reserve.ensures.items c.push_reserved.ensures.items refl c.in_ok-receipt.ensures.told
