use Rattle.pulsar_cli.specs.Played.{counted}
use Rattle.pulsar_cli.proofs.program.demo_line.Goals as goal

pub returns : goal.returns
returns c =
    record {
      history = c.in_ok-tally.ensures.0;
      numbers = counted c.in_ok-tally.tally;
      demo = c.in_ok-tally.ensures.1;
      says = c.in_ok-text.ensures;
    }
