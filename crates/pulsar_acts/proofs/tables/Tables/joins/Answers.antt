use Rattle.std.proofs.Common.{◌≡◌, ◌∙◌, [], ap}
use Rattle.pulsar_calls.specs.declared.content.Joining.{Joining}
use Rattle.pulsar_consumer.specs.Topic.{Setup, fresh}
use Rattle.pulsar_consumer_table.specs.Consumers.{subscribed_on}
use Rattle.pulsar_consumer_table.specs.KeptConsumers.{member_in}
use Rattle.pulsar_acts.specs.View.{member_on, setup_of}
use Rattle.pulsar_acts.specs.Tables.{joins_as, view_of}
use Rattle.pulsar_acts.proofs.tables.Tables.joins.Goals as goal

pub returns-clause-sees : goal.returns-clause-sees
returns-clause-sees c =
    let v = view_of c.args.self.now in
    let made = c.into_inner-topic.result in
    let key = v.consumers.next_key in
    let setup : Joining → Setup = λ (j : Joining). setup_of key j in
    let new : c.new-consumer.result ≡ fresh (setup made) =
    c.new-consumer.ensures
    ∙ (λ i. fresh (record (setup made) { key = c.in_ok-key.ensures.drawn i; config = c.in_ok-config.ensures i }))
    in
    let member : member_in c.in_ok-row.row ≡ member_on v.links.live c.args.joined.link (setup c.args.joined) =
    c.in_ok-row.ensures
    ∙ (λ i. subscribed_on made.link (c.in_ok-url.ensures i) (record { seen = new i; seekers = [] }))
    ∙ ap (λ (j : Joining). member_on v.links.live j.link (setup j)) c.into_inner-topic.ensures
    in
    c.in_ok-joins_as.ensures.sees
    ∙ (λ i. record v { consumers = joins_as c.args.who (member i) (c.in_ok-key.ensures.after i) })
