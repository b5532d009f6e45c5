use Rattle.std.proofs.Common.{arith, []}
use Rattle.pulsar_cli.proofs.Prints.{prints-new}
use Rattle.pulsar_cli.proofs.program.begin.Goals as goal

pub returns : goal.returns
returns c = λ ps o content held faults count.
    record { bytes = []; prints = prints-new held (c.in-Ok.ensures ps o); fed = c.in_ok-feed.ensures.fed content faults; faults = omega arith }
