use Rattle.std.proofs.Common.{◌≡◌, List, [], false, map}
use Rattle.pulsar_pumps.specs.Made.{Made, lost_in, made_of}
use Rattle.pulsar_pumps.specs.Pumping.{RanIn, end}
use Rattle.pulsar_pumps.proofs.pumps.pump_in.Given as goal

abbrev pub invariant-loop : goal.invariant-loop
invariant-loop g l =
    (more : List Made)
    × RanIn l.link (end (map made_of l.fn.made.items) (g.S.Submitter.told l.fn.submitter) (g.I.Input.given l.fn.input) (g.I.Input.faults l.fn.input)) (end (map made_of l.made.items) (g.S.Submitter.told l.submitter) (g.I.Input.given l.input) (g.I.Input.faults l.input)) more []
    × (lost_in more ≡ false)
