use Rattle.std.proofs.Common.{◌≡◌, List, [], false, map}
use Rattle.pulsar_pumps.specs.Made.{Made, lost_in, made_of}
use Rattle.pulsar_pumps.specs.Pumping.{RanOut, end}
use Rattle.pulsar_pumps.proofs.pumps.pump_out.Given as goal

abbrev pub invariant-loop : goal.invariant-loop
invariant-loop g l =
    record {
      far : (more : List Made)
          × RanOut l.link (end (map made_of l.fn.made.items) (g.S.Submitter.told l.fn.submitter) (g.O.Output.taken l.fn.output) (g.O.Output.faults l.fn.output)) (end (map made_of l.made.items) (g.S.Submitter.told l.submitter) (g.O.Output.taken l.output) (g.O.Output.faults l.output)) more []
          × (lost_in more ≡ false);
      shut : g.O.Output.is_shut l.output ≡ g.O.Output.is_shut l.fn.output;
    }
