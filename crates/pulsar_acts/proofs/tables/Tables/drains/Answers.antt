use Rattle.std.proofs.Common.{◌∙◌, refl}
use Rattle.std.proofs.lemmas.Result.{on_ok_weaker}
use Rattle.pulsar_calls.specs.declared.act.LinkAct.TheVariants.{Drains}
use Rattle.pulsar_acts.specs.Tables.{view_of}
use Rattle.pulsar_acts.proofs.Turned.{linked, still_sees}
use Rattle.pulsar_acts.proofs.Turning.{nothing_more, retries_still, still}
use Rattle.pulsar_acts.proofs.tables.Tables.drains.Goals as goal

pub returns-clause-out : goal.returns-clause-out
returns-clause-out c =
    let v = view_of c.args.self.now in
    let l = c.args.link in
    let x = Drains c.args.most in
    let drained = c.in_ok-notices.ensures in
    on_ok_weaker c.open_each.result
    (λ left. drained.out ∙ nothing_more _ _ _ (retries_still v.chosen _ (still v.chosen v.addresses v.now l x (v.links.live l) refl)))
    c.open_each.ensures

pub returns-clause-sees : goal.returns-clause-sees
returns-clause-sees c =
    let v = view_of c.args.self.now in
    let l = c.args.link in
    let x = Drains c.args.most in
    let drained = c.in_ok-notices.ensures in
    on_ok_weaker c.open_each.result
    (λ left. still_sees v l x _ (still v.chosen v.addresses v.now l x (v.links.live l) refl) (linked v l x _ _ drained.started drained.live))
    c.open_each.ensures
