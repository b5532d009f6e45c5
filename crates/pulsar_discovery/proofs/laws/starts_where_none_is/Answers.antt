use Rattle.pulsar_discovery.proofs.Whole.{starts_where_none_is}
use Rattle.pulsar_discovery.proofs.laws.starts_where_none_is.Goals as goal

pub returns : goal.returns
returns c = starts_where_none_is
