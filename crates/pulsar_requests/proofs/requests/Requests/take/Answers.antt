use Rattle.std.proofs.Common.{◌≡◌, ◌∙◌, sym, ap, refl, [], subst, Some}
use Rattle.std.specs.BTreeMap.{get}
use Rattle.std.specs.Ordering.{nat_cmp}
use Rattle.pulsar_wire.specs.Sink.{capped}
use Rattle.pulsar_wire.specs.Awaited.{awaited_cmp, is_same, is_one}
use Rattle.pulsar_requests.specs.Kept.{AllUpTo, Ascends, Taken, all_pending, listed, places_of}
use Rattle.pulsar_requests.specs.Waits.{answered_by, found, others, places}
use Rattle.pulsar_requests.proofs.Pendings.{all_taken, ascends_filter, index_left, places_found, up_to_filter}
use Rattle.pulsar_requests.proofs.Timed.{timed_still, waits_for_other}
use Rattle.pulsar_requests.proofs.requests.Requests.take.Goals as goal
use Rattle.pulsar_requests.proofs.requests.Requests.take.Goals.{After-without, in-Some, in-None}
use Rattle.std.proofs.Common.{not, ◌+◌}

before : (c : After-without) → places_of c.args.awaited c.self.inside.waiters.entries ≡ c.match-remove.places.items
before c = elim c.match-remove.branch [
  | in-Some w ↦ sym (ap (λ v. v.items) w.places-is ∙ ap listed (sym w.in-Some.is ∙ c.remove.ensures.value) ∙ c.self.invariant.indexed c.args.awaited)
  | in-None w ↦ sym (ap (λ v. v.items) w.places-is ∙ w.new-places.ensures.items ∙ ap listed (sym w.in-None.is ∙ c.remove.ensures.value) ∙ c.self.invariant.indexed c.args.awaited)
]

taken : (c : After-without) → Taken c.args.awaited c.self.inside.waiters.entries c.take_all.new.waiters.entries []
taken c = c.take_all.ensures.waiters c.args.awaited (before c)

pub invariant_of-left : goal.invariant_of-left
invariant_of-left c =
    let t = taken c in
    let left = all_taken c.args.awaited c.self.inside.waiters.entries c.take_all.new.waiters.entries t in
    record {
      fresh = λ n le. t.absent n (c.self.invariant.fresh n le);
      indexed = λ b. ap listed (c.remove.ensures.updates.0 b) ∙ index_left c.args.awaited b c.self.inside.waiters.entries c.take_all.new.waiters.entries (get awaited_cmp c.self.inside.index b) (is_same c.args.awaited b) refl t (c.self.invariant.indexed b);
      ascends = subst Ascends (sym left) (ascends_filter (λ p. not (is_one (Some c.args.awaited) p.awaits)) (all_pending c.self.inside.waiters.entries) c.self.invariant.ascends);
      ordered = c.take_all.ensures.ordered c.self.invariant.ordered;
      are_timed = λ n. c.take_all.ensures.timed c.self.inside.excused.keys c.self.invariant.are_timed n
          ∙ timed_still c.self.inside.excused.keys c.without.result.keys (get nat_cmp c.take_all.new.waiters n)
          (λ w found. c.without.ensures.others w.awaits (waits_for_other c.args.awaited n c.take_all.new.waiters.entries w found t.left_are));
      so_far = subst (AllUpTo (capped (c.self.inside.clock + c.self.inside.timeout))) (sym left) (up_to_filter (λ p. not (is_one (Some c.args.awaited) p.awaits)) (capped (c.self.inside.clock + c.self.inside.timeout)) (all_pending c.self.inside.waiters.entries) c.self.invariant.so_far);
    }

pub returns-clause-places : goal.returns-clause-places
returns-clause-places c = sym (before c) ∙ places_found c.args.awaited c.self.inside.waiters.entries ∙ ap (λ w. places (found (Some c.args.awaited) w.waiting)) c.self.view_is

pub returns-clause-left : goal.returns-clause-left
returns-clause-left c =
    let left = all_taken c.args.awaited c.self.inside.waiters.entries c.take_all.new.waiters.entries (taken c) in
    ap (λ ps. record { clock = c.self.inside.clock; timeout = c.self.inside.timeout; queued = c.self.inside.queued; waiting = ps; excused = c.without.result.keys }) left
    ∙ ap (λ ns. record { clock = c.self.inside.clock; timeout = c.self.inside.timeout; queued = c.self.inside.queued; waiting = others (Some c.args.awaited) (all_pending c.self.inside.waiters.entries); excused = ns }) c.without.ensures.keys
    ∙ ap (answered_by (Some c.args.awaited)) c.self.view_is
