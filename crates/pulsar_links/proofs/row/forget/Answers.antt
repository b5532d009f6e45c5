use Rattle.std.proofs.Common.{◌≡◌, ◌∙◌, ap, sym, ◌==◌, ◌||◌, Bool, true, false, cond, Option, None, refl}
use Rattle.std.specs.BTreeMap.{get}
use Rattle.std.specs.List.{list_any}
use Rattle.std.specs.Ordering.{nat_cmp}
use Rattle.pulsar_calls.specs.declared.act.Who.{Who}
use Rattle.pulsar_calls.proofs.Lists.{any_end}
use Rattle.pulsar_requests.proofs.Awaiting.{is_at-eqb}
use Rattle.pulsar_links.proofs.row.forget.Goals as goal

more : (a b : Bool) (row : Option Who) → cond a None (cond b None row) ≡ cond (b || a) None row
more true true row = refl
more true false row = refl
more false true row = refl
more false false row = refl

pub loop-place-preserved : goal.loop-place-preserved
loop-place-preserved c = λ place.
    let seen = c.loop-place.yielded in
    let last = c.in-Some.place in
    c.remove.ensures.updates.0 place
    ∙ ap (λ b. cond b None (get nat_cmp c.loop-place.askers place)) (is_at-eqb last place)
    ∙ ap (cond (last == place) None) (c.loop-place.invariant place)
    ∙ more (last == place) (list_any (λ p. p == place) seen) (get nat_cmp c.args.askers.now place)
    ∙ ap (λ b. cond b None (get nat_cmp c.args.askers.now place)) (sym (any_end (λ p. p == place) seen last))
