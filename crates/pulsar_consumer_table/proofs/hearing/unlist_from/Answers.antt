use Rattle.std.proofs.Common.{◌==◌, ◌&&◌, ◌∙◌, not, ap, sym}
use Rattle.pulsar_consumer.specs.Topic.{is_on}
use Rattle.pulsar_consumer_table.specs.KeptConsumers.{listed_at}
use Rattle.pulsar_calls.specs.Places.{is_listed}
use Rattle.pulsar_calls.proofs.Places.{swapped}
use Rattle.pulsar_consumer_table.proofs.hearing.unlist_from.Goals as goal

pub returns : goal.returns
returns c = λ t n.
    c.in_ok-unlist.ensures n t
    ∙ ap (λ b. is_listed t (listed_at c.args.listing.now n) && not (b && (t == c.args.ticket))) (swapped n c.in-Some.place ∙ sym (ap (is_on n) c.in-Some.is))
