use Rattle.std.proofs.Common.{◌≡◌, ℕ, not, take}
use Rattle.std.specs.BTreeMap.{keys}
use Rattle.std.specs.List.{flat_map}
use Rattle.pulsar_calls.specs.declared.act.Word.TheVariants.{Over}
use Rattle.pulsar_consumer.specs.Topic.{Ends}
use Rattle.pulsar_incoming.specs.declared.polled.Ending.TheVariants.{Closed}
use Rattle.pulsar_consumer_table.specs.Consumers.{at_row, member_after, word_if}
use Rattle.pulsar_consumer_table.specs.KeptConsumers.{rows_in, some_changed}
use Rattle.pulsar_consumer_table.specs.Notices.{word_to}
use Rattle.pulsar_consumer_table.proofs.hearing.close_all.Given as goal

abbrev pub invariant-loop-ticket : goal.invariant-loop-ticket
invariant-loop-ticket l =
    (l.notices.items ≡ flat_map (at_row (λ t m. word_to t m (word_if (not m.seen.is_raw) Over)) (rows_in l.fn.rows)) (take l.ticket-index l.tickets))
    × ((t : ℕ) → rows_in l.rows t ≡ some_changed (take l.ticket-index l.tickets) (member_after (Ends Closed)) (rows_in l.fn.rows) t)
    × (keys l.rows ≡ keys l.fn.rows)
