use Rattle.std.proofs.Common.{◌∙◌, ap}
use Rattle.pulsar_consumer_table.specs.Asks.{flow_said, says_word}
use Rattle.pulsar_consumer_table.specs.Consumers.{FlowTaken}
use Rattle.pulsar_consumer_table.specs.KeptConsumers.{consumers_in}
use Rattle.pulsar_consumer_table.proofs.Asking.{changed_is}
use Rattle.pulsar_consumer_table.proofs.table.Consumers.takes_flow.Goals as goal

pub returns-clause-says : goal.returns-clause-says
returns-clause-says c = c.says.ensures.says ∙ ap says_word (c.flow_word.ensures ∙ ap flow_said c.in_ok-flow.ensures.flow)

pub returns-clause-after : goal.returns-clause-after
returns-clause-after c =
    c.in_ok-flow.ensures.after ∙ changed_is c.args.ticket FlowTaken (consumers_in c.args.self.now.rows c.args.self.now.numbers)
