use Rattle.std.proofs.Common.{◌∙◌, ap, refl, sym}
use Rattle.pulsar_client.specs.Client.{chosen, options}
use Rattle.pulsar_client.proofs.Taking.{new_stands}
use Rattle.pulsar_client.proofs.pulsar.Pulsar.new.Goals as goal

pub returns-clause-stands : goal.returns-clause-stands
returns-clause-stands g c = record {
  made = ap (options _) (sym c.in_ok-options.ensures.ok);
  stands =
      new_stands c.new-2.result _ _ (c.in_ok-settings.ensures ∙ ap chosen c.deref.ensures ∙ ap chosen c.in_ok-options.ensures.ok) c.new-2.ensures _;
  answers = λ t. c.new-3.ensures t;
  drawn = λ t k. absurd cc;
  whole = refl;
}
