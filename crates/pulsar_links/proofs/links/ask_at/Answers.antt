use Rattle.std.proofs.Common.{◌∙◌, ap, refl, subst, Some}
use Rattle.std.specs.BTreeMap.{get}
use Rattle.std.specs.Option.{IsSome, option_map}
use Rattle.std.specs.Ordering.{nat_cmp}
use Rattle.pulsar_links.specs.Kept.{live_in, seat_of}
use Rattle.pulsar_links.specs.Seats.{seat_asked}
use Rattle.pulsar_links.proofs.Timing.{changed, seats}
use Rattle.pulsar_links.proofs.links.ask_at.Goals as goal

pub returns-clause-live : goal.returns-clause-live
returns-clause-live c = λ l.
    let row = c.in-Some.row.now in
    let now = c.ask.new.self in
    let before = c.args.live.now in
    let after = c.get_mut.follows.lender now in
    let asks = seat_asked c.args.who c.args.now c.args.request in
    let written = (c.get_mut.follows.holds now).3 (subst IsSome c.in-Some.ensures.value refl) in
    changed l c.args.link (option_map asks) (live_in before) (Some (seat_of now)) (live_in after l)
    (seats l c.args.link (Some now) (get nat_cmp before l) (get nat_cmp after l) (written.0 l))
    (ap Some c.in_ok-answer.ensures.sees ∙ ap (λ r. option_map asks (option_map seat_of r)) c.in-Some.ensures.value)
