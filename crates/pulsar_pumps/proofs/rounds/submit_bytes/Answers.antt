use Rattle.std.proofs.Common.{ap}
use Rattle.pulsar_calls.specs.Content.{Bytes}
use Rattle.pulsar_calls.specs.declared.event.Event.TheVariants as event
use Rattle.pulsar_pumps.proofs.Ran.{same_bytes, submitted}
use Rattle.pulsar_pumps.proofs.rounds.submit_bytes.Goals as goal

pub returns-clause-ok : goal.returns-clause-ok
returns-clause-ok g c =
    submitted _ _ c.args.made.now.items c.reserve.new.self.items c.push_reserved.new.self.items (event.Bytes c.args.link c.in_ok-kept.kept) (event.Bytes c.args.link c.args.piece) c.in_ok-receipt.receipt
    c.reserve.ensures.items c.push_reserved.ensures.items (ap (λ xs. Bytes c.args.link xs) (same_bytes c.args.piece.items c.in_ok-kept.kept.items c.in_ok-kept.ensures.cases.0)) c.in_ok-receipt.ensures.told
