use Rattle.std.proofs.Common.{◌∙◌, ap}
use Rattle.pulsar_calls.specs.Content.{asked}
use Rattle.pulsar_acts.specs.Run.{ticket_for}
use Rattle.pulsar_client.proofs.Counting.{ticket_is}
use Rattle.pulsar_client.proofs.pulsar.Pulsar.submit.Goals as goal

pub returns-clause-ticket : goal.returns-clause-ticket
returns-clause-ticket g c = λ o h taken s. c.ticket_for-ticket.ensures ∙ ap (ticket_for (asked c.args.call)) (ticket_is c.args.self.now.tables s.stands)
