use Rattle.std.proofs.Common.{◌∙◌, sym, ap, refl, [], ◌∷◌, ◌++◌}
use Rattle.pulsar_broker.specs.Kept.{consumers_in}
use Rattle.pulsar_broker.proofs.Answering.{granted_nobody, granted_none, granted_so}
use Rattle.pulsar_broker.proofs.tables.Tables.grant.Goals as goal

pub returns-in_default : goal.returns-in_default
returns-in_default c url payload out =
    granted_none c.args.self.now url c.args.link c.args.number c.args.permits payload out c.new-due.result.items (sym c.in_default.ensures) c.new-due.ensures.items

pub returns-then-not-branch : goal.returns-then-not-branch
returns-then-not-branch c url payload out =
    granted_nobody c.args.self.now c.grant_at.new.consumers url c.args.link c.args.number c.args.permits c.in-Some.seat payload out c.new-due.result.items
    (sym c.in-Some.ensures) c.in_ok-grant_at.ensures.after (consumers_in c.args.self.now.consumers c.in-Some.seat) refl (sym c.in_ok-grant_at.ensures.found ∙ c.if-not-branch.true) c.new-due.ensures.items

pub returns : goal.returns
returns c url payload out =
    granted_so c.args.self.now c.grant_at.new.consumers url c.args.link c.args.number c.args.permits c.in-Some.seat payload out c.push.new.self.items
    (sym c.in-Some.ensures) c.in_ok-grant_at.ensures.after (consumers_in c.args.self.now.consumers c.in-Some.seat) refl (sym c.in_ok-grant_at.ensures.found ∙ c.if-not-branch.false) (c.in_ok-push.ensures.items ∙ ap (λ xs. xs ++ c.in-Some.seat ∷ []) c.new-due.ensures.items)
