use Rattle.std.proofs.Common.{take}
use Rattle.pulsar_frame.specs.Checksum.{after}
use Rattle.pulsar_frame.specs.Residue.{residue}
use Rattle.pulsar_frame.proofs.Folding.{Window}
use Rattle.pulsar_frame.proofs.checksum.folding.fold.Given as goal

-- the bytes so far are folded into the window's next 209
abbrev pub invariant-loop-i : goal.invariant-loop-i
invariant-loop-i l = Window l.window (after (residue l.initial.window) (take l.i l.block)) l.i
