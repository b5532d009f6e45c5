use Rattle.std.proofs.Common.{◌∙◌}
use Rattle.pulsar_client.proofs.pulsar.Pulsar.let_go.Goals as goal

pub loop-effect-preserved : goal.loop-effect-preserved
loop-effect-preserved g c = record {
  stands = λ o h s. c.forget.ensures.stands o h (c.loop-effect.invariant.stands o h s);
  options = c.forget.ensures.options ∙ c.loop-effect.invariant.options;
}
