use Rattle.std.proofs.Common.{refl}
use Rattle.url.proofs.OnLiterals.{url_on_literals}
use Rattle.pulsar_laws.proofs.runs.addresses_are_known.Goals as goal

pub returns : goal.returns
unfolding url_on_literals
returns c = record { whole = refl; no_port = refl; in_brackets = refl; other_scheme = refl; no_host = refl; no_url = refl }
