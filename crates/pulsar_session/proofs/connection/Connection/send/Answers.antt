use Rattle.std.proofs.Common.{◌≡◌, ◌∙◌, ap, refl, Bool, true, false, cond}
use Rattle.std.specs.Option.{option_map}
use Rattle.pulsar_messages.specs.Content.{producer_message_values}
use Rattle.pulsar_messages.specs.Messages.{command_of, sent_payload}
use Rattle.pulsar_messages.specs.Words.{Wait, Refuse, Send}
use Rattle.pulsar_session.specs.Kept.{table}
use Rattle.pulsar_session.specs.Link.{can_wait, ticked}
use Rattle.pulsar_session.proofs.Asking.{after_is, answer_is, sent}
use Rattle.pulsar_session.proofs.connection.Connection.send.Goals as goal

blocks : (b : Bool) → b ≡ can_wait (cond b Wait Refuse)
blocks true = refl
blocks false = refl

pub returns-clause-answer : goal.returns-clause-answer
returns-clause-answer c =
    answer_is c.args.now c.in_ok-draw.field-0 (Send c.args.producer_id c.args.name.now c.args.sequence_id (producer_message_values c.args.message) c.args.block) c.args.self.now (table c.tell.new.self) (table c.draw.new.self) (table c.ask.new.self) c.ask.result (option_map (λ v. v.items) c.in_ok-frame.frame) c.receipt_of.result c.args.block
    (c.tell.ensures ∙ ap (ticked c.args.now) c.self.view_is) c.in_ok-draw.ensures.number c.in_ok-draw.ensures.drawn
    (sent c.send.result (option_map (λ v. v.items) c.in_ok-frame.frame) c.in_ok-draw.field-0 c.args.block (λ i b. command_of i (Send c.args.producer_id c.args.name.now c.args.sequence_id (producer_message_values c.args.message) b))
    (sent_payload c.args.now c.args.name.now c.args.sequence_id (producer_message_values c.args.message)) c.send.ensures.command c.send.ensures.payload c.in_ok-frame.ensures) c.receipt_of.ensures (blocks c.args.block) c.ask.ensures.answer

pub returns-clause-seen : goal.returns-clause-seen
returns-clause-seen c =
    after_is c.args.now c.in_ok-draw.field-0 (Send c.args.producer_id c.args.name.now c.args.sequence_id (producer_message_values c.args.message) c.args.block) c.args.self.now (table c.tell.new.self) (table c.draw.new.self) (table c.ask.new.self) c.ask.result (option_map (λ v. v.items) c.in_ok-frame.frame) c.receipt_of.result c.args.block
    (c.tell.ensures ∙ ap (ticked c.args.now) c.self.view_is) c.in_ok-draw.ensures.number c.in_ok-draw.ensures.drawn
    (sent c.send.result (option_map (λ v. v.items) c.in_ok-frame.frame) c.in_ok-draw.field-0 c.args.block (λ i b. command_of i (Send c.args.producer_id c.args.name.now c.args.sequence_id (producer_message_values c.args.message) b))
    (sent_payload c.args.now c.args.name.now c.args.sequence_id (producer_message_values c.args.message)) c.send.ensures.command c.send.ensures.payload c.in_ok-frame.ensures) c.receipt_of.ensures (blocks c.args.block) c.ask.ensures.table
