use Rattle.pulsar_calls.specs.Content.{heard}
use Rattle.pulsar_cli.proofs.Events.{ran-awaits}
use Rattle.pulsar_cli.proofs.program.drive.Goals as goal

pub returns-in_default : goal.returns-in_default
returns-in_default g c = λ ps o h content held faults count awaits same stands.
    ran-awaits o h c.args.reading.now c.args.feed.now (heard c.args.found.event) c.args.found.last awaits

pub returns : goal.returns
returns g c = λ ps o h content held faults count awaits same stands.
    c.steps.ensures ps o h content held faults count awaits same (rw c.in-Ok.ensures.ok stands)
