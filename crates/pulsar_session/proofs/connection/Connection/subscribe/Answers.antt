use Rattle.std.proofs.Common.{◌∙◌, ap, refl, true}
use Rattle.std.specs.Option.{option_map}
use Rattle.std.specs.Option.{option_copied}
use Rattle.pulsar_messages.specs.Content.{consumer_options_values}
use Rattle.pulsar_messages.specs.Messages.{command_of}
use Rattle.pulsar_messages.specs.Words.{Subscribe}
use Rattle.pulsar_session.specs.Kept.{table}
use Rattle.pulsar_session.specs.Link.{bare, frame_for, ticked}
use Rattle.pulsar_session.proofs.Asking.{after_is, answer_is, made}
use Rattle.pulsar_session.proofs.connection.Connection.subscribe.Goals as goal

pub returns-clause-answer : goal.returns-clause-answer
returns-clause-answer c =
    answer_is c.args.now c.in_ok-number.number (Subscribe c.args.topic.now c.args.subscription.now c.args.sub_type c.args.consumer_id (option_copied c.args.name) (consumer_options_values c.args.options.now)) c.args.self.now (table c.tell.new.self) (table c.draw.new.self) (table c.ask.new.self) c.ask.result (option_map (λ v. v.items) c.in_ok-frame.frame) c.reply_to.result true
    (c.tell.ensures ∙ ap (ticked c.args.now) c.self.view_is) c.in_ok-number.ensures.number c.in_ok-number.ensures.drawn
    (made (λ w. frame_for (bare w)) c.subscribe.result (option_map (λ v. v.items) c.in_ok-frame.frame) (command_of c.in_ok-number.number (Subscribe c.args.topic.now c.args.subscription.now c.args.sub_type c.args.consumer_id (option_copied c.args.name) (consumer_options_values c.args.options.now))) c.subscribe.ensures c.in_ok-frame.ensures) c.reply_to.ensures refl c.ask.ensures.answer

pub returns-clause-seen : goal.returns-clause-seen
returns-clause-seen c =
    after_is c.args.now c.in_ok-number.number (Subscribe c.args.topic.now c.args.subscription.now c.args.sub_type c.args.consumer_id (option_copied c.args.name) (consumer_options_values c.args.options.now)) c.args.self.now (table c.tell.new.self) (table c.draw.new.self) (table c.ask.new.self) c.ask.result (option_map (λ v. v.items) c.in_ok-frame.frame) c.reply_to.result true
    (c.tell.ensures ∙ ap (ticked c.args.now) c.self.view_is) c.in_ok-number.ensures.number c.in_ok-number.ensures.drawn
    (made (λ w. frame_for (bare w)) c.subscribe.result (option_map (λ v. v.items) c.in_ok-frame.frame) (command_of c.in_ok-number.number (Subscribe c.args.topic.now c.args.subscription.now c.args.sub_type c.args.consumer_id (option_copied c.args.name) (consumer_options_values c.args.options.now))) c.subscribe.ensures c.in_ok-frame.ensures) c.reply_to.ensures refl c.ask.ensures.table
