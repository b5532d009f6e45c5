use Rattle.std.proofs.Common.{◌∙◌, refl}
use Rattle.std.proofs.lemmas.Result.{on_ok_weaker}
use Rattle.pulsar_calls.specs.declared.act.LinkAct.TheVariants.{Opens}
use Rattle.pulsar_acts.specs.Tables.{view_of}
use Rattle.pulsar_acts.proofs.Turned.{both, linked, still_sees}
use Rattle.pulsar_acts.proofs.Turning.{nothing_more, retries_still, still}
use Rattle.pulsar_acts.proofs.tables.Tables.opens.Goals as goal

pub returns-clause-out : goal.returns-clause-out
returns-clause-out c =
    let v = view_of c.args.self.now in
    let l = c.args.link in
    on_ok_weaker c.open.result
    (λ out. out ∙ nothing_more _ _ _ (retries_still v.chosen _ (still v.chosen v.addresses v.now l Opens (v.links.live l) refl)))
    c.open.ensures.out

pub returns-clause-sees : goal.returns-clause-sees
returns-clause-sees c =
    let v = view_of c.args.self.now in
    let l = c.args.link in
    both c.open.result
    (λ started live. still_sees v l Opens _ (still v.chosen v.addresses v.now l Opens (v.links.live l) refl) (linked v l Opens _ _ started live))
    c.open.ensures.started c.open.ensures.live
