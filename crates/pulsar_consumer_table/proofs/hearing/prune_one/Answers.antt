use Rattle.std.proofs.Common.{ap}
use Rattle.pulsar_consumer_table.specs.Consumers.{number_at}
use Rattle.pulsar_consumer_table.specs.KeptConsumers.{is_known, rows_in}
use Rattle.pulsar_consumer_table.proofs.Dropped.{same_place}
use Rattle.pulsar_consumer_table.proofs.hearing.prune_one.Goals as goal

pub returns : goal.returns
returns c =
    let rows = rows_in c.args.rows.now in
    let n = c.number_at.result in
    same_place (λ t. n) (λ t. number_at (rows t)) (λ t. is_known n (rows t)) (λ t. is_known (number_at (rows t)) (rows t)) c.args.ticket c.number_at.ensures
    (ap (λ k. is_known k (rows c.args.ticket)) c.number_at.ensures) c.args.listing.now c.prune.new.listing c.in_ok-prune.ensures
