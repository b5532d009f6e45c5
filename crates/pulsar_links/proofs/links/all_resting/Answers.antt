use Rattle.std.proofs.Common.{◌∙◌, ◌++◌, ◌∷◌, [], ℕ, ap, sym, map, if◌then◌else◌}
use Rattle.std.proofs.lemmas.Grind.{flat_map-append}
use Rattle.std.proofs.lemmas.List.{append-nil, map-append}
use Rattle.std.proofs.lemmas.Map.Iter.{iter_end}
use Rattle.std.specs.List.{flat_map}
use Rattle.std.specs.Map.Iter.{deref_pair}
use Rattle.pulsar_links.specs.declared.row.Row.{Row}
use Rattle.pulsar_links.specs.Kept.{seat_of}
use Rattle.pulsar_links.specs.LinkRules.{resting_at}
use Rattle.pulsar_links.proofs.Idle.{all_give}
use Rattle.pulsar_links.proofs.links.all_resting.Goals as goal

pub loop-link-preserved : goal.loop-link-preserved
loop-link-preserved c =
    let gives = λ (e : ℕ × Row). resting_at c.args.now c.args.most e.0 (seat_of e.1) in
    let seen = map deref_pair c.loop-link.yielded in
    let link = c.in-Some.link.now in
    let one : ℕ × Row = (link, c.in-Some.row.now) in
    c.in_ok-add_resting.ensures
    ∙ ap (λ b. c.loop-link.links.items ++ (if b then link ∷ [] else [])) c.rests-rests.ensures
    ∙ ap (λ links. links ++ gives one) c.loop-link.invariant
    ∙ ap (λ links. flat_map gives seen ++ links) (sym (append-nil (gives one)))
    ∙ sym (flat_map-append gives seen (one ∷ []))
    ∙ ap (flat_map gives) (sym (map-append deref_pair c.loop-link.yielded _))

pub returns-clause-links : goal.returns-clause-links
returns-clause-links c =
    let live = c.args.live.now in
    let rests = resting_at c.args.now c.args.most in
    let gives = c.into_iter-link-iterator.ensures.into_iter_gives in
    let whole = iter_end deref_pair live.entries c.loop-link.yielded _ _ _ _ gives.0 c.loop-link.yielded_by c.in-None.is c.next.ensures.steps in
    c.loop-link.invariant ∙ ap (flat_map (λ e. rests e.0 (seat_of e.1))) whole.0 ∙ all_give rests live gives.5
