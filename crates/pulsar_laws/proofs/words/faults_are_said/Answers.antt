use Rattle.std.proofs.Common.{ap, refl, Some}
use Rattle.pulsar_links.specs.Links.{lost_in}
use Rattle.pulsar_laws.proofs.words.Shown.{effects_are_said_lem, lost_early}
use Rattle.pulsar_laws.proofs.words.Faults.{only, told_passes, told_so}
use Rattle.pulsar_laws.proofs.words.faults_are_said.Goals as goal

pub returns-clause-said : goal.returns-clause-said
returns-clause-said c = record {
  unknown = refl;
  attempt = λ kind. refl;
  canceled = refl;
  refused = λ cause. refl;
  late = refl;
  lost = refl;
  cut = refl;
  stopped = refl;
  told = told_so;
  shut = refl;
  no_producer = refl;
  no_consumer = refl;
}

pub returns-clause-ends : goal.returns-clause-ends
returns-clause-ends c = record {
  line = (refl, refl, refl, λ queued. refl, λ cause. refl);
  opening = λ kind. refl;
  late = λ queued. refl;
  others = (refl, λ cause. refl);
  waiting = (λ kind. refl, refl, λ queued. refl, λ cause. refl);
  stopped = λ is_starter. refl;
  closes = λ now s. (
    λ h. ap (λ x. Some (lost_in x)) h,
    λ not_ready not_over. ap Some (lost_early s.stage not_ready not_over),
    refl,
    refl,
    λ kind. refl,
    λ cause. refl,
    λ queued. refl,
  );
}

pub returns-clause-shown : goal.returns-clause-shown
returns-clause-shown c = effects_are_said_lem

pub returns-clause-pass : goal.returns-clause-pass
returns-clause-pass c = record { late = refl; told = told_passes; only = only; attempts = (refl, refl, refl) }
