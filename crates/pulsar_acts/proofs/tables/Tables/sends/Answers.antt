use Rattle.std.proofs.Common.{◌∙◌, [], ◌∷◌, ap, sym}
use Rattle.std.proofs.lemmas.Result.{MatchResult-weaker, on_ok_weaker}
use Rattle.pulsar_messages.specs.Content.{message_content}
use Rattle.pulsar_acts.specs.Tables.{view_of}
use Rattle.pulsar_acts.proofs.Sending.{made_so, refused_so, sent_all, sent_none}
use Rattle.pulsar_acts.proofs.tables.Tables.sends.Goals as goal

pub returns-in-Some-clause-procedure : goal.returns-in-Some-clause-procedure
returns-in-Some-clause-procedure c = refused_so _ c.in-Some.refusal _ (sym c.why_not.ensures ∙ c.in-Some.is)

pub returns-in-Some-clause-after : goal.returns-in-Some-clause-after
returns-in-Some-clause-after c =
    let v = view_of c.args.self.now in
    ap (λ ps. record v { producers = ps })
    (sent_none v.producers c.args.producer (message_content c.args.message ∷ []) c.in-Some.refusal (sym c.why_not.ensures ∙ c.in-Some.is))

pub returns-in-None-clause-procedure : goal.returns-in-None-clause-procedure
returns-in-None-clause-procedure c =
    MatchResult-weaker c.sends_as.result c.sends_as.ensures.procedure (λ p is. is ∙ made_so _ _ (sym c.why_not.ensures ∙ c.in-None.is)) (λ e u. u)

pub returns-in-None-clause-after : goal.returns-in-None-clause-after
returns-in-None-clause-after c =
    let v = view_of c.args.self.now in
    on_ok_weaker c.sends_as.result
    (λ is. is
    ∙ ap (λ ps. record v { producers = ps })
    (sent_all v.producers c.args.producer (message_content c.args.message ∷ []) (sym c.why_not.ensures ∙ c.in-None.is)))
    c.sends_as.ensures.after
