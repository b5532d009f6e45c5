use Rattle.std.proofs.Common.{◌∙◌, ap, sym, Some}
use Rattle.pulsar_calls.specs.declared.act.Word.TheVariants.{Recalled}
use Rattle.pulsar_consumer_table.specs.Asks.{recalled_said, says_word}
use Rattle.pulsar_consumer_table.specs.KeptConsumers.{consumers_in}
use Rattle.pulsar_consumer_table.proofs.Asking.{nothing_done}
use Rattle.pulsar_consumer_table.proofs.table.Consumers.recalls.Goals as goal

pub returns-in_ok-recalled-in-Some-clause-says : goal.returns-in_ok-recalled-in-Some-clause-says
returns-in_ok-recalled-in-Some-clause-says c =
    c.says.ensures.says
    ∙ ap (λ r. says_word (Recalled r)) c.in_ok-recalled-in-Some.ensures
    ∙ ap (λ x. Some (recalled_said x)) (sym c.in-Some.is ∙ c.in_ok-command.ensures)

pub returns-in_ok-recalled-in-Some-clause-after : goal.returns-in_ok-recalled-in-Some-clause-after
returns-in_ok-recalled-in-Some-clause-after c = nothing_done c.args.ticket (consumers_in c.args.self.now.rows c.args.self.now.numbers)

pub returns-in-None-clause-says : goal.returns-in-None-clause-says
returns-in-None-clause-says c = c.says-in-None.ensures.says ∙ ap (λ x. Some (recalled_said x)) (sym c.in-None.is ∙ c.in_ok-command.ensures)

pub returns-in-None-clause-after : goal.returns-in-None-clause-after
returns-in-None-clause-after c = nothing_done c.args.ticket (consumers_in c.args.self.now.rows c.args.self.now.numbers)
