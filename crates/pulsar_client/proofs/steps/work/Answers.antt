use Rattle.std.proofs.Common.{◌∙◌, ap, sym, refl}
use Rattle.pulsar_run.proofs.Steps.{ended, treated}
use Rattle.pulsar_acts.specs.Run.{goes_on}
use Rattle.pulsar_acts.specs.Tables.{view_of}
use Rattle.pulsar_client.proofs.steps.work.Goals as goal

pub loop-preserved : goal.loop-preserved
loop-preserved c = record {
  stands = λ o e h s.
      let so_far = c.loop.invariant.stands o e h s in
      treated so_far (sym c.in-Some.ensures.first) c.in_ok-treat-in-Some.ensures.out
      (c.in_ok-treat-in-Some.ensures.left ∙ ap (goes_on (view_of c.loop.tables) _) c.in-Some.ensures.rest) c.in_ok-treat-in-Some.ensures.sees;
  settings = c.in_ok-treat-in-Some.ensures.settings ∙ c.loop.invariant.settings;
}

pub returns-in-None-clause-stands : goal.returns-in-None-clause-stands
returns-in-None-clause-stands c = λ o e h s. ended (c.loop.invariant.stands o e h s) (sym c.in-None.ensures.first) refl
