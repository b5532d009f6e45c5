use Rattle.std.proofs.Common.{◌∙◌, ap}
use Rattle.std.proofs.lemmas.Result.{MatchResult-weaker}
use Rattle.pulsar_producer_table.specs.KeptProducers.{producers_of}
use Rattle.std.specs.Option.{option_map, option_to_list}
use Rattle.pulsar_producer.specs.Topic.{Passes}
use Rattle.pulsar_producer_table.specs.Asks.{turn_notice}
use Rattle.pulsar_producer_table.proofs.Asking.{changed_is}
use Rattle.pulsar_producer_table.proofs.table.Producers.passes_on.Goals as goal

pub returns-clause-serves : goal.returns-clause-serves
returns-clause-serves c =
    MatchResult-weaker c.done.result c.done.ensures.serves
    (λ g is. ap option_to_list (is ∙ c.in_ok-serves.ensures ∙ ap (option_map (turn_notice c.args.number)) c.in_ok-next.ensures.next)) (λ e u. u)

pub returns-clause-after : goal.returns-clause-after
returns-clause-after c =
    let ps = producers_of c.args.self.now in
    MatchResult-weaker c.done.result c.done.ensures.says
    (λ g is. c.in_ok-next.ensures.after ∙ changed_is c.args.number Passes ps) (λ e u. u)
