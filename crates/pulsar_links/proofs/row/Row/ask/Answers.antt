use Rattle.std.proofs.Common.{◌∙◌, ap}
use Rattle.std.specs.BTreeMap.{get}
use Rattle.std.specs.Ordering.{nat_cmp}
use Rattle.pulsar_exchange.specs.Request.{is_awaited}
use Rattle.pulsar_links.specs.Seats.{asker_at, place_of}
use Rattle.pulsar_links.proofs.row.Row.ask.Goals as goal

pub returns-clause-sees : goal.returns-clause-sees
returns-clause-sees c =
    let old = c.args.self.now in
    let who = c.args.who in
    let askers = get nat_cmp old.askers in
    let memory = c.in_ok-told.ensures.memory in
    let place = c.place_of-place.ensures ∙ ap place_of (c.ask-answer.ensures.answer memory) in
    λ i. record {
      address = old.address;
      seen = c.ask-answer.ensures.seen memory i;
      askers = λ p.
          (c.in_ok-seat.ensures p
          ∙ ap (λ b. asker_at b who c.place_of-place.result askers p) c.is_awaited-is_asker.ensures
          ∙ ap (λ o. asker_at (is_awaited c.args.request) who o askers p) place) i;
      got = old.got;
      ping = old.ping;
    }
