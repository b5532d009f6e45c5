use Rattle.std.proofs.Common.{◌∙◌, ap, sym}
use Rattle.pulsar_calls.specs.Content.{said}
use Rattle.pulsar_client.specs.Taken.{IsSaid, polled, taken_of}
use Rattle.pulsar_client.proofs.Answering.{told_answer, told_lost}
use Rattle.pulsar_client.proofs.future.told.Goals as goal

pub returns-in-Waiting : goal.returns-in-Waiting
returns-in-Waiting c = λ t h ts is. IsSaid (ap polled (ap taken_of (sym c.in-Waiting.is) ∙ is))

pub returns-in-Answer : goal.returns-in-Answer
returns-in-Answer c = λ t h ts is. told_answer t h ts c.receipt_in.result (said c.in-Answer.answer) c.receipt_in.ensures (ap taken_of (sym c.in-Answer.is) ∙ is)

pub returns-in-Unknown : goal.returns-in-Unknown
returns-in-Unknown c = λ t h ts is. told_lost t h ts c.lost.result c.lost.ensures (ap taken_of (sym c.in-Unknown.is) ∙ is)
