use Rattle.std.proofs.Common.{◌∙◌, not, sym, ap}
use Rattle.std.specs.List.{list_any}
use Rattle.pulsar_wire.specs.Awaited.{is_same}
use Rattle.pulsar_requests.specs.Kept.{listed}
use Rattle.pulsar_requests.proofs.Pendings.{has_any, has_some, somebody}
use Rattle.pulsar_requests.proofs.requests.Requests.is_awaited.Goals as goal

pub returns-in-Some : goal.returns-in-Some
returns-in-Some c =
    ap not c.is_empty.ensures ∙ has_some _ c.in-Some.places.now.items c.in-Some.places.now.ok.0
    ∙ ap has_any (ap listed c.in-Some.ensures.value ∙ c.self.invariant.indexed c.args.awaited)
    ∙ sym (somebody c.args.awaited c.self.inside.waiters.entries)
    ∙ ap (λ w. list_any (λ p. is_same c.args.awaited p.awaits) w.waiting) c.self.view_is

pub returns-in-None : goal.returns-in-None
returns-in-None c =
    ap has_any (ap listed c.in-None.ensures.value ∙ c.self.invariant.indexed c.args.awaited)
    ∙ sym (somebody c.args.awaited c.self.inside.waiters.entries)
    ∙ ap (λ w. list_any (λ p. is_same c.args.awaited p.awaits) w.waiting) c.self.view_is
