-- What is seen of the calls is what the log's entries say.
use Rattle.std.proofs.Common.{◌∙◌, ap, [], ◌∷◌, refl}
use Rattle.pulsar_laws.proofs.ActWords.{Answers, Does, StopAll}
use Rattle.pulsar_laws.proofs.RunWords.{Begins, begun_same, Then, view}
use Rattle.pulsar_laws.specs.Laws.{BuiltIs, StoppedIs}
use Rattle.pulsar_acts.specs.View.{builds}

pub built_is_lem : BuiltIs
built_is_lem o [] = refl
built_is_lem o (Begins e ∷ log) = begun_same (λ v. v.calls.is_built) e (view o log) refl ∙ built_is_lem o log
built_is_lem o (Then (Answers who verdict) ∷ log) = ap (builds verdict.makes) (built_is_lem o log)
built_is_lem o (Then _ ∷ log) = built_is_lem o log

pub stopped_is_lem : StoppedIs
stopped_is_lem o [] = refl
stopped_is_lem o (Begins e ∷ log) = begun_same (λ v. v.calls.is_stopped) e (view o log) refl ∙ stopped_is_lem o log
stopped_is_lem o (Then (Does who StopAll) ∷ log) = refl
stopped_is_lem o (Then _ ∷ log) = stopped_is_lem o log
