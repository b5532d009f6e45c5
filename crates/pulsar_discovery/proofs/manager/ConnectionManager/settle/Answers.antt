use Rattle.std.proofs.Common.{◌≡◌, ◌∙◌, sym, ap, subst, refl, ℕ, nat_cmp}
use Rattle.std.specs.BTreeMap.{get}
use Rattle.pulsar_discovery.specs.Manager.{Is, after_seen, is_over, known, left_of, phase_after}
use Rattle.pulsar_discovery.specs.declared.manager.ConnectionManager.{ConnectionManager}
use Rattle.pulsar_discovery.specs.Series.{IsSeries, reseated, series}
use Rattle.pulsar_discovery.proofs.Puts.{reseated_behind}
use Rattle.pulsar_discovery.proofs.manager.ConnectionManager.settle.Goals as goal

pub returns : goal.returns
returns c =
    let old = c.args.self.now in
    let new : ConnectionManager = record { alloc = old.alloc; terms = old.terms; links = old.links; addresses = c.put.new.self; connections = c.clear.new.connections } in
    let left = c.take.ensures.left in
    let put = subst (λ phase. IsSeries (series c.put.new.self) (reseated c.args.link c.in-Some.seat.address phase (series c.take.new.self))) c.phase_after.ensures c.in_ok-put.ensures in
    let behind = reseated_behind (series c.put.new.self) (series c.take.new.self) (series old.addresses) c.args.link c.in-Some.seat.address (phase_after c.args.now c.in-Some.seat.phase c.args.seen) left put in
    let clear : (l : ℕ) → get nat_cmp c.clear.new.connections l ≡ left_of c.args.link (is_over c.args.seen) (λ m. get nat_cmp old.connections m) l = λ l. c.in_ok-clear.ensures l ∙ ap (λ over. left_of c.args.link over (λ m. get nat_cmp old.connections m) l) c.is_over.ensures in
    subst (λ seat. Is (known new) (after_seen c.args.link c.args.now seat c.args.seen (known old)))
    (sym (sym c.take.ensures.seat ∙ c.in-Some.is))
    (record { terms = refl; links = refl; series = behind; connection = clear })
