use Rattle.std.proofs.Common.{refl}
use Rattle.pulsar_cli.proofs.options.defaults.Goals as goal

pub returns : goal.returns
returns c = rw (c.in_ok-url.ensures.ok, c.default.ensures, c.default-2.ensures) refl
