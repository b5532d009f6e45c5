use Rattle.std.specs.Prelude.{string_bytes}
use Rattle.pulsar_cli.proofs.Prints.{printed-refused, refused-put}
use Rattle.pulsar_cli.proofs.program.refused.Goals as goal

pub returns-clause-runs : goal.returns-clause-runs
returns-clause-runs g c = λ ps old bytes p. printed-refused (refused-put (string_bytes c.push_refusal.new.out) c.flush.result p c.in-Ok.ensures c.flush.ensures.ok c.flush.ensures.front c.flush.ensures.rises)
