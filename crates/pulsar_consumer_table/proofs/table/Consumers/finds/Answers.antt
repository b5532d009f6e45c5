use Rattle.std.proofs.Common.{◌∙◌, ap, sym}
use Rattle.pulsar_consumer_table.specs.Asks.{sought_said}
use Rattle.pulsar_consumer_table.specs.Consumers.{IsSought}
use Rattle.pulsar_consumer_table.specs.KeptConsumers.{consumers_in}
use Rattle.pulsar_consumer_table.proofs.Asking.{changed_is}
use Rattle.pulsar_consumer_table.proofs.table.Consumers.finds.Goals as goal

pub returns-in-Found-clause-says : goal.returns-in-Found-clause-says
returns-in-Found-clause-says c = c.says.ensures.says ∙ ap sought_said (sym c.in-Found.is ∙ c.in_ok-link.ensures.sought)

pub returns-in-Found-clause-after : goal.returns-in-Found-clause-after
returns-in-Found-clause-after c =
    c.in_ok-link.ensures.after ∙ changed_is c.args.ticket (IsSought c.args.who) (consumers_in c.args.self.now.rows c.args.self.now.numbers)

pub returns-in-Gone-clause-says : goal.returns-in-Gone-clause-says
returns-in-Gone-clause-says c = c.says-in-Gone.ensures.says ∙ ap sought_said (sym c.in-Gone.is ∙ c.in_ok-link.ensures.sought)

pub returns-in-Gone-clause-after : goal.returns-in-Gone-clause-after
returns-in-Gone-clause-after c =
    c.in_ok-link.ensures.after ∙ changed_is c.args.ticket (IsSought c.args.who) (consumers_in c.args.self.now.rows c.args.self.now.numbers)

pub returns-in-Later-clause-says : goal.returns-in-Later-clause-says
returns-in-Later-clause-says c = c.waits.ensures.says ∙ ap sought_said (sym c.in-Later.is ∙ c.in_ok-link.ensures.sought)

pub returns-in-Later-clause-after : goal.returns-in-Later-clause-after
returns-in-Later-clause-after c =
    c.in_ok-link.ensures.after ∙ changed_is c.args.ticket (IsSought c.args.who) (consumers_in c.args.self.now.rows c.args.self.now.numbers)
