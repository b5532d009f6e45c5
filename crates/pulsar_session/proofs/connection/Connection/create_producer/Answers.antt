use Rattle.std.proofs.Common.{◌∙◌, ap, refl, true}
use Rattle.std.specs.Option.{option_map}
use Rattle.std.specs.Option.{option_copied}
use Rattle.pulsar_messages.specs.Content.{producer_options_values}
use Rattle.pulsar_messages.specs.Messages.{command_of}
use Rattle.pulsar_messages.specs.Words.{CreateProducer}
use Rattle.pulsar_session.specs.Kept.{table}
use Rattle.pulsar_session.specs.Link.{bare, frame_for, ticked}
use Rattle.pulsar_session.proofs.Asking.{after_is, answer_is, made}
use Rattle.pulsar_session.proofs.connection.Connection.create_producer.Goals as goal

pub returns-clause-answer : goal.returns-clause-answer
returns-clause-answer c =
    answer_is c.args.now c.in_ok-number.number (CreateProducer c.args.topic.now c.args.producer_id (option_copied c.args.name) (producer_options_values c.args.options.now)) c.args.self.now (table c.tell.new.self) (table c.draw.new.self) (table c.ask.new.self) c.ask.result (option_map (λ v. v.items) c.in_ok-frame.frame) c.reply_to.result true
    (c.tell.ensures ∙ ap (ticked c.args.now) c.self.view_is) c.in_ok-number.ensures.number c.in_ok-number.ensures.drawn
    (made (λ w. frame_for (bare w)) c.create_producer.result (option_map (λ v. v.items) c.in_ok-frame.frame) (command_of c.in_ok-number.number (CreateProducer c.args.topic.now c.args.producer_id (option_copied c.args.name) (producer_options_values c.args.options.now))) c.create_producer.ensures c.in_ok-frame.ensures) c.reply_to.ensures refl c.ask.ensures.answer

pub returns-clause-seen : goal.returns-clause-seen
returns-clause-seen c =
    after_is c.args.now c.in_ok-number.number (CreateProducer c.args.topic.now c.args.producer_id (option_copied c.args.name) (producer_options_values c.args.options.now)) c.args.self.now (table c.tell.new.self) (table c.draw.new.self) (table c.ask.new.self) c.ask.result (option_map (λ v. v.items) c.in_ok-frame.frame) c.reply_to.result true
    (c.tell.ensures ∙ ap (ticked c.args.now) c.self.view_is) c.in_ok-number.ensures.number c.in_ok-number.ensures.drawn
    (made (λ w. frame_for (bare w)) c.create_producer.result (option_map (λ v. v.items) c.in_ok-frame.frame) (command_of c.in_ok-number.number (CreateProducer c.args.topic.now c.args.producer_id (option_copied c.args.name) (producer_options_values c.args.options.now))) c.create_producer.ensures c.in_ok-frame.ensures) c.reply_to.ensures refl c.ask.ensures.table
