use Rattle.std.proofs.Common.{◌∙◌, ◌==◌, ap, cond}
use Rattle.pulsar_client.specs.Taken.{taken_left}
use Rattle.pulsar_client.proofs.Taking.{taken_drawn, taken_on}
use Rattle.pulsar_client.proofs.pulsar.Pulsar.take_answer.Goals as goal

pub returns-clause-taken : goal.returns-clause-taken
returns-clause-taken g c = λ o h taken s. c.take.ensures.taken ∙ s.answers c.args.ticket

pub returns-clause-stands : goal.returns-clause-stands
returns-clause-stands g c = λ o h taken s. record {
  made = s.made;
  stands = s.stands;
  answers = λ t.
      c.take.ensures.left t ∙ ap (λ row. cond (t == c.args.ticket) (taken_left row) row) (s.answers t) ∙ taken_on c.args.ticket t h taken;
  drawn = λ t. taken_drawn c.args.ticket t h taken s.drawn;
  whole = s.whole;
}
