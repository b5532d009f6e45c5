use Rattle.std.proofs.Common.{◌≡◌, ◌∙◌, ap, subst, Some, None, IfOk}
use Rattle.pulsar_searches.specs.Replies.{count_in}
use Rattle.pulsar_searches.specs.declared.replies.Heard.TheVariants.{Denies}
use Rattle.pulsar_searches.proofs.Keys.{count_read}
use Rattle.pulsar_searches.proofs.replies.count_in.Goals as goal

pub returns-in-Some : goal.returns-in-Some
returns-in-Some c =
    subst (λ h. IfOk c.count_in_body.result (λ h'. h' ≡ h))
    (count_read c.args.ways.now c.args.retries c.message-message.result.now c.args.reply.now (Some c.in-Some.body) c.message-message.ensures c.in-Some.is)
    c.count_in_body.ensures

pub returns-in_ok-no_answer-in-None : goal.returns-in_ok-no_answer-in-None
unfolding count_in
returns-in_ok-no_answer-in-None c =
    ap Denies c.in_ok-no_answer-in-None.ensures
    ∙ count_read c.args.ways.now c.args.retries c.message-message.result.now c.args.reply.now None c.message-message.ensures c.in-None.is
