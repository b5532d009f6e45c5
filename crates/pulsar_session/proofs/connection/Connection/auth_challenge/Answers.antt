use Rattle.std.proofs.Common.{◌∙◌, ap, refl, true, None}
use Rattle.std.specs.Option.{option_map}
use Rattle.pulsar_messages.specs.Content.{authentication_values}
use Rattle.pulsar_messages.specs.Messages.{command_of}
use Rattle.pulsar_messages.specs.Words.{AuthChallenge}
use Rattle.pulsar_session.specs.Kept.{table}
use Rattle.pulsar_session.specs.Link.{bare, frame_for, ticked}
use Rattle.pulsar_session.proofs.Asking.{after_is, answer_is, surely_made}
use Rattle.pulsar_session.proofs.connection.Connection.auth_challenge.Goals as goal

pub returns-clause-answer : goal.returns-clause-answer
returns-clause-answer c =
    answer_is c.args.now c.in_ok-draw.field-0 (AuthChallenge (authentication_values c.args.auth)) c.args.self.now (table c.tell.new.self) (table c.draw.new.self) (table c.ask.new.self) c.ask.result (option_map (λ v. v.items) c.in_ok-frame.frame) None true
    (c.tell.ensures ∙ ap (ticked c.args.now) c.self.view_is) c.in_ok-draw.ensures.number c.in_ok-draw.ensures.drawn
    (surely_made (λ w. frame_for (bare w)) c.auth_challenge.result (option_map (λ v. v.items) c.in_ok-frame.frame) (command_of c.in_ok-draw.field-0 (AuthChallenge (authentication_values c.args.auth))) (c.auth_challenge.ensures c.in_ok-draw.field-0) c.in_ok-frame.ensures) refl refl c.ask.ensures.answer

pub returns-clause-seen : goal.returns-clause-seen
returns-clause-seen c =
    after_is c.args.now c.in_ok-draw.field-0 (AuthChallenge (authentication_values c.args.auth)) c.args.self.now (table c.tell.new.self) (table c.draw.new.self) (table c.ask.new.self) c.ask.result (option_map (λ v. v.items) c.in_ok-frame.frame) None true
    (c.tell.ensures ∙ ap (ticked c.args.now) c.self.view_is) c.in_ok-draw.ensures.number c.in_ok-draw.ensures.drawn
    (surely_made (λ w. frame_for (bare w)) c.auth_challenge.result (option_map (λ v. v.items) c.in_ok-frame.frame) (command_of c.in_ok-draw.field-0 (AuthChallenge (authentication_values c.args.auth))) (c.auth_challenge.ensures c.in_ok-draw.field-0) c.in_ok-frame.ensures) refl refl c.ask.ensures.table
