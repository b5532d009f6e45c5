use Rattle.std.proofs.Common.{◌∙◌, ◌+◌, ◌++◌, ap, map, sym}
use Rattle.std.proofs.lemmas.List.{append-nil, length-map}
use Rattle.std.proofs.lemmas.Result.{MatchResult-weaker, on_ok_weaker}
use Rattle.pulsar_messages.specs.Content.{message_content}
use Rattle.pulsar_calls.specs.declared.act.Procedure.TheVariants.{Gather}
use Rattle.pulsar_acts.specs.Tables.{view_of}
use Rattle.pulsar_acts.proofs.Sending.{made_so, parts_all, parts_none, refused_so, sent_all, sent_none}
use Rattle.pulsar_acts.proofs.tables.Tables.sends_all.Goals as goal

pub returns-in-Some-clause-procedure : goal.returns-in-Some-clause-procedure
returns-in-Some-clause-procedure c = refused_so _ c.in-Some.refusal _ (sym c.why_not.ensures ∙ c.in-Some.is)

pub returns-in-Some-clause-parts : goal.returns-in-Some-clause-parts
returns-in-Some-clause-parts c =
    let v = view_of c.args.self.now in
    sym (append-nil c.args.parts.now.items)
    ∙ ap (λ acts. c.args.parts.now.items ++ acts)
    (parts_none v c.args.advice c.args.producer (map message_content c.args.messages.items) c.in-Some.refusal c.requires.allowed (sym c.why_not.ensures ∙ c.in-Some.is))

pub returns-in-Some-clause-after : goal.returns-in-Some-clause-after
returns-in-Some-clause-after c =
    let v = view_of c.args.self.now in
    ap (λ ps. record v { producers = ps })
    (sent_none v.producers c.args.producer (map message_content c.args.messages.items) c.in-Some.refusal (sym c.why_not.ensures ∙ c.in-Some.is))

pub returns-in-None-clause-procedure : goal.returns-in-None-clause-procedure
returns-in-None-clause-procedure c =
    MatchResult-weaker c.gathers.result c.gathers.ensures.procedure
    (λ p is. is
    ∙ ap (Gather (c.args.self.now.tickets + 1)) (sym (length-map c.args.messages.items message_content))
    ∙ made_so _ _ (sym c.why_not.ensures ∙ c.in-None.is))
    (λ e u. u)

pub returns-in-None-clause-parts : goal.returns-in-None-clause-parts
returns-in-None-clause-parts c =
    let v = view_of c.args.self.now in
    on_ok_weaker c.gathers.result
    (λ is. is
    ∙ ap (λ acts. c.args.parts.now.items ++ acts)
    (parts_all v c.args.advice c.args.producer (map message_content c.args.messages.items) c.requires.allowed (sym c.why_not.ensures ∙ c.in-None.is)))
    c.gathers.ensures.parts

pub returns-in-None-clause-after : goal.returns-in-None-clause-after
returns-in-None-clause-after c =
    let v = view_of c.args.self.now in
    on_ok_weaker c.gathers.result
    (λ is. is
    ∙ ap (λ ps. record v { producers = ps })
    (sent_all v.producers c.args.producer (map message_content c.args.messages.items) (sym c.why_not.ensures ∙ c.in-None.is)))
    c.gathers.ensures.after
