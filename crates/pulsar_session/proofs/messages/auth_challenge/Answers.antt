use Rattle.pulsar_messages.specs.Content.{authentication_values}
use Rattle.pulsar_messages.specs.Messages.{command_of}
use Rattle.pulsar_messages.specs.Words.{AuthChallenge}
use Rattle.pulsar_session.proofs.Asking.{message_surely_made}
use Rattle.pulsar_session.proofs.messages.auth_challenge.Goals as goal

pub returns : goal.returns
returns c = message_surely_made c.auth_challenge.result c.without_payload.result (λ id. command_of id (AuthChallenge (authentication_values c.args.auth))) c.auth_challenge.ensures c.without_payload.ensures
