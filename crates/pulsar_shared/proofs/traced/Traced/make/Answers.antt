use Rattle.std.proofs.Common.{refl}
use Rattle.pulsar_shared.specs.Trace.{steps}
use Rattle.pulsar_shared.proofs.Traces.{entry_same, made_legal, stands_more, while_busy}
use Rattle.pulsar_shared.proofs.traced.Traced.make.Goals as goal

pub returns-clause-entry : goal.returns-clause-entry
returns-clause-entry g c =
    entry_same (steps c.args.self.now.trace.items) (steps c.keep.new.trace.items) c.in_ok-kept.kept.value c.args.event c.in_ok-kept.effects.items c.in_ok-receipt.receipt.effects.items
    c.in_ok-receipt.ensures.entry c.in_ok-kept.ensures.kept c.in_ok-receipt.ensures.receipt.1

pub returns-clause-stands : goal.returns-clause-stands
returns-clause-stands g c =
    stands_more g.C.Machine.stands _ _ _ _ c.args.self.now.trace.items c.keep.new.trace.items c.args.event c.in_ok-kept.effects.items
    (entry_same (steps c.args.self.now.trace.items) (steps c.keep.new.trace.items) c.in_ok-kept.kept.value c.args.event c.in_ok-kept.effects.items c.in_ok-kept.effects.items
    c.in_ok-receipt.ensures.entry c.in_ok-kept.ensures.kept refl)
    c.advance.ensures.given c.in_ok-kept.ensures.stands c.requires.stands

pub invariant_of-self-2 : goal.invariant_of-self-2
invariant_of-self-2 g c =
    record {
      legal = made_legal g.C.Machine.good g.C.Machine.stands g.met.C.Machine.legal c.keep.result (g.C.Machine.given c.args.self.now.client) (g.C.Machine.given c.advance.new.client) c.args.self.now.client c.advance.new.client c.args.self.now.trace.items c.keep.new.trace.items c.in_ok-kept.kept.value c.args.event c.in_ok-kept.effects.items
          c.in_ok-kept.ensures.kept c.advance.ensures.given c.in_ok-kept.ensures.stands c.requires.stands c.args.self.now.legal c.keep.ensures.entry c.keep.ensures.unchanged;
      stands = while_busy g.C.Machine.stands _ _ _ c.args.self.now.failed c.requires.busy;
    }
