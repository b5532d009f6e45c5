use Rattle.std.proofs.Common.{◌∙◌, ap, None, true}
use Rattle.std.specs.Option.{option_map}
use Rattle.pulsar_messages.specs.Content.{authentication_values}
use Rattle.pulsar_messages.specs.Messages.{command_of}
use Rattle.pulsar_messages.specs.Words.{AuthChallenge}
use Rattle.pulsar_session.specs.Kept.{table}
use Rattle.pulsar_session.specs.Link.{bare, frame_for, put_frame}
use Rattle.pulsar_session.proofs.Asking.{surely_made}
use Rattle.pulsar_session.proofs.link.Link.respond_with.Goals as goal

pub returns : goal.returns
returns c =
    c.in_ok-put.ensures
    ∙ ap (λ f. put_frame f true None (table c.args.self.now)) (surely_made (λ w. frame_for (bare w)) c.auth_challenge.result (option_map (λ v. v.items) c.in_ok-frame.frame) (command_of 0 (AuthChallenge (authentication_values c.args.auth))) (c.auth_challenge.ensures 0) c.in_ok-frame.ensures)
