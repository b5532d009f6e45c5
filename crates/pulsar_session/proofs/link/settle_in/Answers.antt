use Rattle.std.proofs.Common.{◌∙◌, ap}
use Rattle.pulsar_frame.specs.Shown.{message_values}
use Rattle.pulsar_requests.specs.Waits.{answered_by, found, places}
use Rattle.pulsar_session.proofs.Awaiting.{found_is, left_is}
use Rattle.pulsar_session.proofs.link.settle_in.Goals as goal

pub returns-clause-places : goal.returns-clause-places
returns-clause-places c =
    c.in_ok-places.ensures.places
    ∙ ap (λ a. places (found a c.args.requests.waiting)) c.awaited_by-awaited.ensures
    ∙ ap places (found_is (message_values c.args.message.now) c.args.requests.waiting)

pub returns-clause-left : goal.returns-clause-left
returns-clause-left c =
    c.in_ok-places.ensures.left
    ∙ ap (λ a. answered_by a c.args.requests) c.awaited_by-awaited.ensures
    ∙ left_is c.args.requests (message_values c.args.message.now)
