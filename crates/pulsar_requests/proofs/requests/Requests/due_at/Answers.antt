use Rattle.std.proofs.Common.{◌≡◌, ◌∙◌, sym, ap, refl, not, Bool, true, false, Some, None, inl, inr}
use Rattle.std.proofs.lemmas.Bool.{cases_Bool}
use Rattle.std.specs.BTreeMap.{get}
use Rattle.std.specs.BTreeSet.{contains}
use Rattle.std.specs.Ordering.{nat_cmp}
use Rattle.pulsar_requests.specs.Kept.{is_timed, waits_of}
use Rattle.pulsar_requests.specs.Waits.{is_excused}
use Rattle.pulsar_requests.specs.Soonest.{due_at}
use Rattle.pulsar_requests.proofs.Soonest.{is_due_at}
use Rattle.pulsar_requests.proofs.Timed.{first_decides, none_below, none_decides, none_of_none}
use Rattle.pulsar_requests.proofs.requests.Requests.due_at.Goals as goal

not_true : (b : Bool) → not b ≡ true → b ≡ false
not_true true h = absurd cc
not_true false h = refl

pub returns-in-Some-get : goal.returns-in-Some-get
returns-in-Some-get c =
    let i = c.self.inside in
    let k = c.in-Some.place.now in
    let w = c.in-Some-get.waiter.now in
    let found : get nat_cmp i.waiters k ≡ Some w = sym c.in-Some-get.ensures.value in
    let ready : is_timed i.excused.keys (Some w) ≡ true = ap (is_timed i.excused.keys) (sym found) ∙ sym (c.self.invariant.are_timed k) ∙ c.in-Some.ensures.member in
    is_due_at (waits_of i) (Some w.deadline) (λ now.
    first_decides now i.excused.keys k w i.waiters.entries c.self.invariant.ordered c.self.invariant.ascends found (not_true (is_excused i.excused.keys w.creates w.awaits) ready)
    (λ n lt. sym (c.self.invariant.are_timed n) ∙ elim (cases_Bool (contains nat_cmp i.timed n)) [ inl y ↦ absurd (none_below k n lt (c.in-Some.ensures.least n y)) | inr y ↦ y ]))
    ∙ ap due_at c.self.view_is

pub returns-in-None : goal.returns-in-None
returns-in-None c =
    let i = c.self.inside in
    is_due_at (waits_of i) None (λ now.
    none_decides now i.excused.keys i.waiters.entries c.self.invariant.ordered (λ n. sym (c.self.invariant.are_timed n) ∙ none_of_none n i.timed.keys c.in-None.ensures.variant.1))
    ∙ ap due_at c.self.view_is
