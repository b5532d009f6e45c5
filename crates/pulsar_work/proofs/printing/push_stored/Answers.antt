use Rattle.pulsar_wire.specs.Views.{message_id_values}
use Rattle.pulsar_work.proofs.printing.push_stored.Goals as goal

pub returns-in-Some : goal.returns-in-Some
unfolding message_id_values
returns-in-Some c = rw c.in-Some.is c.push_numbers.ensures
