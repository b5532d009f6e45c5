use Rattle.std.proofs.Common.{◌∙◌, sym}
use Rattle.pulsar_consumer_table.specs.Consumers.{lives_at}
use Rattle.pulsar_consumer_table.specs.KeptConsumers.{rows_in}
use Rattle.pulsar_consumer_table.proofs.Dropped.{dropped_one, kept_one}
use Rattle.pulsar_consumer_table.proofs.hearing.leave.Goals as goal

pub returns-then-lives_there : goal.returns-then-lives_there
returns-then-lives_there c =
    kept_one (λ t. c.args.link) (λ t. lives_at c.args.link (rows_in c.args.rows.now t)) c.args.ticket c.args.heard.now (sym c.lives_there.ensures ∙ c.if-lives_there.true)

pub returns : goal.returns
returns c =
    dropped_one (λ t. c.args.link) (λ t. lives_at c.args.link (rows_in c.args.rows.now t)) c.args.ticket c.args.heard.now c.unlist.new.listing c.in_ok-unlist.ensures
    (sym c.lives_there.ensures ∙ c.if-lives_there.false)
