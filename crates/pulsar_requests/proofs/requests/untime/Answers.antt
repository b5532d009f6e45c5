use Rattle.std.proofs.Common.{◌∙◌, ◌==◌, ◌&&◌, ◌<◌, ◌≤◌, not, ap, length, get_or}
use Rattle.std.proofs.lemmas.List.{take_all}
use Rattle.std.specs.BTreeMap.{get}
use Rattle.std.specs.BTreeSet.{contains}
use Rattle.std.specs.List.{list_any}
use Rattle.std.specs.Ordering.{nat_cmp}
use Rattle.pulsar_requests.specs.Kept.{excuses}
use Rattle.pulsar_requests.proofs.Timed.{untimed_more}
use Rattle.pulsar_requests.proofs.requests.untime.Goals as goal

pub loop-place-preserved : goal.loop-place-preserved
loop-place-preserved c = λ n.
    let ns = c.args.places.now.items in
    let i = c.loop-place.place-index in
    let same = c.deref-place-items.ensures.value in
    let within : i < length ns = rw (ap length same) at c.loop-place-test.true in
    let x = excuses c.args.number (get nat_cmp c.args.waiters.now n) in
    untimed_more n i ns (contains nat_cmp c.args.timed.now n) (contains nat_cmp c.loop-place.timed n) (contains nat_cmp c.untime_at.new.timed n) x within (c.loop-place.invariant n)
    (c.untime_at.ensures n ∙ ap (λ xs. contains nat_cmp c.loop-place.timed n && not ((get_or xs i 0 == n) && x)) same)

pub returns : goal.returns
returns c = λ n.
    let ns = c.args.places.now.items in
    let past : length ns ≤ c.loop-place.place-index = rw (ap length c.deref-place-items.ensures.value) at c.loop-place-test.false in
    c.loop-place.invariant n
    ∙ ap (λ xs. contains nat_cmp c.args.timed.now n && not (list_any (λ p. p == n) xs && excuses c.args.number (get nat_cmp c.args.waiters.now n))) (take_all c.loop-place.place-index ns past)
