use Rattle.std.proofs.Common.{ℕ, ◌≡◌, ◌∙◌, ◌++◌, ◌+◌, sym, ap, refl, ◌==◌, [], ◌∷◌, Some, arith, cond, subst}
use Rattle.std.proofs.lemmas.Bool.Decides.{nat_tests}
use Rattle.std.proofs.lemmas.List.{map-append}
use Rattle.std.specs.BTreeMap.{get}
use Rattle.std.specs.BTreeSet.{contains}
use Rattle.std.specs.Ordering.{nat_cmp}
use Rattle.pulsar_wire.specs.Sink.{capped}
use Rattle.pulsar_wire.specs.Awaited.{awaited_cmp, is_same}
use Rattle.pulsar_requests.specs.declared.requests.Waiter.{Waiter}
use Rattle.pulsar_requests.specs.Kept.{AllUpTo, Ascends, all_pending, listed, pending_at, places_of}
use Rattle.pulsar_requests.specs.Waits.{with_next}
use Rattle.pulsar_requests.proofs.Pendings.{ascends_append, fresh_on, index_with, inserted, up_to_append}
use Rattle.pulsar_requests.proofs.Timed.{put_in}
use Rattle.pulsar_requests.proofs.requests.Requests.with_claim.Goals as goal
use Rattle.pulsar_requests.proofs.requests.Requests.with_claim.Goals.{In_ok-time, in-Some-remove, in-None}

abbrev waiter : In_ok-time → Waiter
waiter c = record { awaits = c.args.claim.awaits; deadline = c.moment.result; creates = c.args.claim.creates }

entries_are : (c : In_ok-time) → all_pending c.insert-2.new.self.entries ≡ all_pending c.self.inside.waiters.entries ++ pending_at (c.self.inside.queued, waiter c) ∷ []
entries_are c =
    ap all_pending (c.in_ok-insert-2.ensures.entries ∙ inserted c.self.inside.queued c.self.inside.waiters.entries (waiter c) c.self.invariant.fresh)
    ∙ map-append pending_at c.self.inside.waiters.entries ((c.self.inside.queued, waiter c) ∷ [])

pub invariant_of-result : goal.invariant_of-result
invariant_of-result c =
    let i = c.self.inside in
    let w = waiter c in
    let top = capped (i.clock + i.timeout) in
    let before : c.match-remove.places.items ≡ places_of w.awaits i.waiters.entries = elim c.match-remove.branch [
      | in-Some-remove x ↦ ap (λ v. v.items) x.places-is ∙ ap listed (sym x.in-Some-remove.is ∙ c.remove.ensures.value) ∙ c.self.invariant.indexed w.awaits
      | in-None x ↦ ap (λ v. v.items) x.places-is ∙ x.new-places.ensures.items ∙ ap listed (sym x.in-None.is ∙ c.remove.ensures.value) ∙ c.self.invariant.indexed w.awaits
    ] in
    record {
      fresh = λ n le. fresh_on n i.queued (get nat_cmp c.insert-2.new.self n) (get nat_cmp i.waiters n) w (c.in_ok-insert-2.ensures.updates.0 n) (c.self.invariant.fresh n (omega (arith, le, c.in-Some.ensures))) (omega (arith, le, c.in-Some.ensures));
      indexed = λ b.
          ap listed (c.in_ok-insert.ensures.updates.0 b ∙ ap (cond (is_same w.awaits b) (Some c.push.new.self)) (c.remove.ensures.updates.0 b))
          ∙ index_with b i.waiters.entries i.queued w c.match-remove.places.items c.push.new.self (get awaited_cmp i.index b) (is_same w.awaits b) refl c.in_ok-push.ensures.items before (c.self.invariant.indexed b)
          ∙ sym (ap (places_of b) (c.in_ok-insert-2.ensures.entries ∙ inserted i.queued i.waiters.entries w c.self.invariant.fresh));
      ascends = subst Ascends (sym (entries_are c)) (ascends_append (all_pending i.waiters.entries) (pending_at (i.queued, w)) (subst (λ d. AllUpTo d (all_pending i.waiters.entries)) (sym c.moment.ensures) c.self.invariant.so_far) c.self.invariant.ascends);
      ordered = c.in_ok-insert-2.ensures.ordered;
      are_timed = λ n. put_in n i.queued (i.queued == n) (contains nat_cmp i.timed n) (contains nat_cmp c.time.new.timed n) (get nat_cmp c.insert-2.new.self n) (get nat_cmp i.waiters n) w i.excused.keys refl
          (c.in_ok-time.ensures n) (c.in_ok-insert-2.ensures.updates.0 n) (c.self.invariant.are_timed n) (λ here. c.self.invariant.fresh n (let same : i.queued ≡ n = grind (arith, nat_tests, here) in omega (arith, same)));
      so_far = subst (AllUpTo top) (sym (entries_are c)) (up_to_append top (all_pending i.waiters.entries) (pending_at (i.queued, w)) (rw c.moment.ensures (omega arith)) c.self.invariant.so_far);
    }

pub returns : goal.returns
returns c =
    ap (λ ps. record { clock = c.self.inside.clock; timeout = c.self.inside.timeout; queued = c.in-Some.after; waiting = ps; excused = c.self.inside.excused.keys }) (entries_are c)
    ∙ ap (λ (x : ℕ × ℕ). record { clock = c.self.inside.clock; timeout = c.self.inside.timeout; queued = x.0; waiting = all_pending c.self.inside.waiters.entries ++ record { awaits = c.args.claim.awaits; place = c.self.inside.queued; deadline = x.1; creates = c.args.claim.creates } ∷ []; excused = c.self.inside.excused.keys }) (both c.in-Some.ensures.1 c.moment.ensures)
    ∙ ap (with_next (Some c.args.claim)) c.self.view_is
  where
    both : {a b x y : ℕ} → a ≡ x → b ≡ y → let p : ℕ × ℕ = (a, b) in let q : ℕ × ℕ = (x, y) in p ≡ q
    both e f = rw (e, f) refl
