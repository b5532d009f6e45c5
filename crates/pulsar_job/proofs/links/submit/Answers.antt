use Rattle.std.proofs.Common.{map}
use Rattle.pulsar_calls.specs.Content.{shown}
use Rattle.pulsar_job.proofs.Goings.{learned}
use Rattle.pulsar_job.proofs.links.submit.Goals as goal

pub returns : goal.returns
returns g c =
    record {
      out = map shown c.in_ok-receipt.receipt.effects.items;
      step = c.in_ok-receipt.ensures;
      learns = learned _ _ _ _ c.deref.ensures.value c.in_ok-learn.ensures.knows c.in_ok-learn.ensures.dials c.in_ok-learn.ensures.rest;
    }
