use Rattle.std.proofs.Common.{◌∙◌}
use Rattle.std.proofs.lemmas.Result.{MatchResult-weaker}
use Rattle.pulsar_calls.specs.declared.act.Procedure.TheVariants.{Acknowledge}
use Rattle.pulsar_messages.specs.Words.{SendRedeliver}
use Rattle.pulsar_consumer_table.specs.Consumers.{link_at, why_not}
use Rattle.pulsar_acts.specs.Reading.{unless}
use Rattle.pulsar_acts.specs.Tables.{view_of}
use Rattle.pulsar_acts.proofs.tables.Tables.refuses_message.Goals as goal

pub returns : goal.returns
returns c =
    let cs = (view_of c.args.self.now).consumers in
    let t = c.args.ticket in
    MatchResult-weaker c.asks_for.result c.asks_for.ensures
    (λ p is. is
    ∙ (λ i. unless (why_not cs t) (Acknowledge (link_at (cs.rows t)) (SendRedeliver (c.number_of.ensures i) (c.in_ok-ids.ensures i)))))
    (λ e u. u)
