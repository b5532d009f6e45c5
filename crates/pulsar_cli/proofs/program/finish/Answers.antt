use Rattle.std.proofs.Common.{refl}
use Rattle.pulsar_cli.proofs.Events.{ran-finished, ran-unfinished}
use Rattle.pulsar_cli.proofs.program.finish.Goals as goal

pub returns-in-Ok : goal.returns-in-Ok
returns-in-Ok g c = record { runs = λ ps o h source held count t. ran-finished t refl c.in-Ok.ensures.ok }

pub returns-in-Err : goal.returns-in-Err
returns-in-Err g c = record { runs = λ ps o h source held count t. ran-unfinished t refl refl c.in-Err.ensures.front c.in-Err.ensures.rises }
