use Rattle.std.proofs.Common.{refl, []}
use Rattle.pulsar_cli.proofs.play.Play.new.Goals as goal

pub returns : goal.returns
returns c =
    record {
      kept = c.no_steps.ensures;
      sides = record { acts = []; stands = rw c.in_ok-broker.ensures.ok c.in_ok-new.ensures; fed = refl; taken = refl };
      answered = tt;
      counts = c.in_ok-tally.ensures;
    }
