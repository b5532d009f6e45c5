use Rattle.std.proofs.Common.{sym, ap, subst, ℕ, List, Option}
use Rattle.std.specs.Option.{option_map}
use Rattle.pulsar_frame.specs.Payload.{PayloadValues, payload_values}
use Rattle.pulsar_broker.specs.Kept.{IsAnswered, asked_in, state_in}
use Rattle.pulsar_broker.specs.State.{answer, to}
use Rattle.pulsar_broker.specs.declared.asked.Asked.{Asked}
use Rattle.pulsar_broker.specs.declared.outbox.Outbox.{Outbox}
use Rattle.pulsar_broker.specs.declared.tables.Tables.{Tables}
use Rattle.pulsar_broker.proofs.Answering.{unanswered}
use Rattle.pulsar_broker.proofs.tables.Tables.answer.Goals as goal

-- what was answered, where this is what was asked
abbrev Of : (url : List ℕ) (link : ℕ) (payload : Option PayloadValues) (old new : Tables) (before after : Outbox) (seats : List ℕ) → Asked → Type 0
Of url link payload old new before after seats asked = IsAnswered (answer url link payload (asked_in asked) (state_in old)) old new before after seats

pub returns-in-Acknowledges : goal.returns-in-Acknowledges
returns-in-Acknowledges c =
    unanswered (answer c.args.url.now c.args.link (option_map payload_values c.args.payload.now) (asked_in c.args.asked) (state_in c.args.self.now)) c.args.self.now c.args.out.now c.new.result.items c.new.ensures.items
    (ap (λ a. answer c.args.url.now c.args.link (option_map payload_values c.args.payload.now) (asked_in a) (state_in c.args.self.now)) c.in-Acknowledges.is)

pub returns-in-SaysElse : goal.returns-in-SaysElse
returns-in-SaysElse c =
    unanswered (answer c.args.url.now c.args.link (option_map payload_values c.args.payload.now) (asked_in c.args.asked) (state_in c.args.self.now)) c.args.self.now c.args.out.now c.new-in-SaysElse.result.items c.new-in-SaysElse.ensures.items
    (ap (λ a. answer c.args.url.now c.args.link (option_map payload_values c.args.payload.now) (asked_in a) (state_in c.args.self.now)) c.in-SaysElse.is)

pub returns-in_ok-say-in-LooksUp : goal.returns-in_ok-say-in-LooksUp
returns-in_ok-say-in-LooksUp c =
    subst (Of c.args.url.now c.args.link (option_map payload_values c.args.payload.now) c.args.self.now c.args.self.now c.args.out.now c.say-in-LooksUp.new.out c.in_ok-say-in-LooksUp.field-0.items)
    (sym c.in-LooksUp.is)
    (subst (λ m. IsAnswered (record { state = state_in c.args.self.now; given = to c.args.link m }) c.args.self.now c.args.self.now c.args.out.now c.say-in-LooksUp.new.out c.in_ok-say-in-LooksUp.field-0.items)
    c.in_ok-found_here-in-LooksUp.ensures c.in_ok-say-in-LooksUp.ensures)

pub returns-in_ok-make_producer-in-MakesProducer : goal.returns-in_ok-make_producer-in-MakesProducer
returns-in_ok-make_producer-in-MakesProducer c =
    subst (Of c.args.url.now c.args.link (option_map payload_values c.args.payload.now) c.args.self.now c.make_producer.new.self c.args.out.now c.make_producer.new.out c.in_ok-make_producer-in-MakesProducer.field-0.items)
    (sym c.in-MakesProducer.is) (c.in_ok-make_producer-in-MakesProducer.ensures c.args.url.now (option_map payload_values c.args.payload.now))

pub returns-in_ok-subscribe-in-Subscribes : goal.returns-in_ok-subscribe-in-Subscribes
returns-in_ok-subscribe-in-Subscribes c =
    subst (Of c.args.url.now c.args.link (option_map payload_values c.args.payload.now) c.args.self.now c.subscribe.new.self c.args.out.now c.subscribe.new.out c.in_ok-subscribe-in-Subscribes.field-0.items)
    (sym c.in-Subscribes.is) (c.in_ok-subscribe-in-Subscribes.ensures c.args.url.now (option_map payload_values c.args.payload.now))

pub returns-in_ok-grant-in-Grants : goal.returns-in_ok-grant-in-Grants
returns-in_ok-grant-in-Grants c =
    subst (Of c.args.url.now c.args.link (option_map payload_values c.args.payload.now) c.args.self.now c.grant.new.self c.args.out.now c.args.out.now c.in_ok-grant-in-Grants.field-0.items)
    (sym c.in-Grants.is) (c.in_ok-grant-in-Grants.ensures c.args.url.now (option_map payload_values c.args.payload.now) c.args.out.now)

pub returns-in_ok-close_producer-in-ClosesProducer : goal.returns-in_ok-close_producer-in-ClosesProducer
returns-in_ok-close_producer-in-ClosesProducer c =
    subst (Of c.args.url.now c.args.link (option_map payload_values c.args.payload.now) c.args.self.now c.close_producer.new.self c.args.out.now c.close_producer.new.out c.in_ok-close_producer-in-ClosesProducer.field-0.items)
    (sym c.in-ClosesProducer.is) (c.in_ok-close_producer-in-ClosesProducer.ensures c.args.url.now (option_map payload_values c.args.payload.now))

pub returns-in_ok-close_consumer-in-ClosesConsumer : goal.returns-in_ok-close_consumer-in-ClosesConsumer
returns-in_ok-close_consumer-in-ClosesConsumer c =
    subst (Of c.args.url.now c.args.link (option_map payload_values c.args.payload.now) c.args.self.now c.close_consumer.new.self c.args.out.now c.close_consumer.new.out c.in_ok-close_consumer-in-ClosesConsumer.field-0.items)
    (sym c.in-ClosesConsumer.is) (c.in_ok-close_consumer-in-ClosesConsumer.ensures c.args.url.now (option_map payload_values c.args.payload.now))
