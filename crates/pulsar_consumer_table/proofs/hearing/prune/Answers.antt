use Rattle.std.proofs.Common.{◌∙◌, sym}
use Rattle.pulsar_consumer_table.specs.KeptConsumers.{is_known, rows_in}
use Rattle.pulsar_consumer_table.proofs.Dropped.{dropped_one, kept_one}
use Rattle.pulsar_consumer_table.proofs.hearing.prune.Goals as goal

pub returns-then-is_known_at : goal.returns-then-is_known_at
returns-then-is_known_at c =
    kept_one (λ t. c.args.number) (λ t. is_known c.args.number (rows_in c.args.rows.now t)) c.args.ticket c.args.listing.now (sym c.is_known_at.ensures ∙ c.if-is_known_at.true)

pub returns : goal.returns
returns c =
    dropped_one (λ t. c.args.number) (λ t. is_known c.args.number (rows_in c.args.rows.now t)) c.args.ticket c.args.listing.now c.unlist.new.listing c.in_ok-unlist.ensures
    (sym c.is_known_at.ensures ∙ c.if-is_known_at.false)
