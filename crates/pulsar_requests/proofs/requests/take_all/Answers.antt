use Rattle.std.proofs.Common.{◌∙◌, ◌∷◌, ◌+◌, sym, subst, drop, ap, length, ◌<◌, get_or}
use Rattle.std.proofs.lemmas.List.{drop_more}
use Rattle.std.specs.BTreeMap.{get, is_at}
use Rattle.std.specs.BTreeSet.{contains}
use Rattle.std.specs.Ordering.{nat_cmp}
use Rattle.pulsar_requests.specs.Kept.{Taken}
use Rattle.pulsar_requests.proofs.Pendings.{taken_next}
use Rattle.pulsar_requests.proofs.Timed.{taken_out}
use Rattle.pulsar_requests.proofs.requests.take_all.Goals as goal

pub loop-place-preserved : goal.loop-place-preserved
loop-place-preserved c =
    let ns = c.args.places.now.items in
    let i = c.loop-place.place-index in
    let same = c.deref-place-items.ensures.value in
    let n = get_or c.deref-place-items.result.now i 0 in
    let within : i < length ns = rw (ap length same) at c.loop-place-test.true in
    record {
      taken = λ a is.
          let before = subst (λ xs. Taken a c.args.waiters.now.entries c.loop-place.waiters.entries xs) (drop_more ns i 0 within ∙ ap (λ xs. get_or xs i 0 ∷ drop (i + 1) ns) (sym same)) (c.loop-place.invariant.taken a is) in
          taken_next a c.args.waiters.now.entries c.loop-place.waiters.entries c.remove.new.self.entries n (drop (i + 1) ns) before c.remove.ensures.entries c.remove.ensures.updates.0 c.remove.ensures.updates.1;
      ordered = λ before. c.remove.ensures.ordered;
      timed = λ excused before m. taken_out (is_at (nat_cmp n) m) (contains nat_cmp c.loop-place.timed m) (contains nat_cmp c.remove-in-loop-place.new.self m) (get nat_cmp c.remove.new.self m) (get nat_cmp c.loop-place.waiters m) excused
          (c.remove-in-loop-place.ensures.updates.0 m) (c.remove.ensures.updates.0 m) (c.loop-place.invariant.timed excused before m);
    }
