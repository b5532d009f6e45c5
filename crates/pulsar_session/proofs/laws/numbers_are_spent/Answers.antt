use Rattle.pulsar_session.proofs.Claims.{answer_spends, encoding_spends}
use Rattle.pulsar_session.proofs.laws.numbers_are_spent.Goals as goal

pub returns-clause-answered : goal.returns-clause-answered
returns-clause-answered c = answer_spends

pub returns-clause-encoding : goal.returns-clause-encoding
returns-clause-encoding c = encoding_spends
