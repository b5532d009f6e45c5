use Rattle.std.proofs.Common.{◌∙◌, ap, sym, Some}
use Rattle.pulsar_wire.specs.Views.{body_values}
use Rattle.pulsar_session.specs.Link.{unready_in}
use Rattle.pulsar_session.proofs.frames.unready_body.Goals as goal

pub returns-in-ProducerSuccess : goal.returns-in-ProducerSuccess
returns-in-ProducerSuccess c = c.unready_number.ensures ∙ ap (λ b. unready_in (Some (body_values b))) (sym c.in-ProducerSuccess.is)
