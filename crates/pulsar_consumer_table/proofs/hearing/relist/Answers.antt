use Rattle.std.proofs.Common.{◌==◌, ◌&&◌, ◌||◌, ◌∙◌, ap}
use Rattle.pulsar_consumer.specs.Topic.{is_on}
use Rattle.pulsar_consumer_table.proofs.hearing.relist.Goals as goal

pub returns : goal.returns
returns c = λ t n. c.in_ok-list_under.ensures t n ∙ ap (λ b. b || (is_on n c.args.to && (t == c.args.ticket))) (c.in_ok-unlist_from.ensures t n)
