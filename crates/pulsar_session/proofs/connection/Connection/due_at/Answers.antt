use Rattle.std.proofs.Common.{◌≡◌, ◌∙◌, sym, ap}
use Rattle.pulsar_requests.specs.Soonest.{has_come}
use Rattle.pulsar_session.specs.Soonest.{due_at}
use Rattle.pulsar_session.proofs.Soonest.{due_from}
use Rattle.pulsar_session.proofs.connection.Connection.due_at.Goals as goal

pub returns : goal.returns
returns c =
    let moment : c.due_at.result ≡ due_at c.args.self.now = c.due_at.ensures ∙ ap due_at c.self.view_is in
    record { moment = moment; due = λ now. due_from now c.args.self.now ∙ ap (has_come now) (sym moment) }
