use Rattle.std.proofs.Common.{ap, length, subst}
use Rattle.pulsar_work.specs.Asking.{IsNext}
use Rattle.pulsar_calls.specs.Content.{asked}
use Rattle.pulsar_job.proofs.Turning.{makes-acked, makes-called, makes-polled}
use Rattle.pulsar_job.proofs.turns.make.Goals as goal

pub returns-in_ok-ask-in-Call : goal.returns-in_ok-ask-in-Call
returns-in_ok-ask-in-Call g c = λ w next going. makes-called w _ _ _ _ going (asked c.in-Call.call) (subst (λ n. IsNext w c.args.progress.now n) c.in-Call.is next) c.in_ok-ask-in-Call.ensures

pub returns-in_ok-ask-in-Ack : goal.returns-in_ok-ask-in-Ack
returns-in_ok-ask-in-Ack g c = λ w next going.
    let is = subst (λ n. IsNext w c.args.progress.now n) c.in-Ack.is next in
    let rest = c.acknowledge.ensures.rest in
    makes-acked w _ _ c.args.progress.now _ going c.acknowledge.new.self (asked c.in-Ack.call) is.0 is.1 is.2 c.acknowledge.ensures.knows rest.3 (ap (λ v. length v.items) rest.0) rest.1 c.in_ok-ask-in-Ack.ensures

pub returns-in_ok-submit-in-Poll : goal.returns-in_ok-submit-in-Poll
returns-in_ok-submit-in-Poll g c = λ w next going. makes-polled w _ _ _ _ going 1 c.in_ok-submit-in-Poll.ensures
