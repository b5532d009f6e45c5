-- For the code's contracts alone: what is seen of the code's tables stands for a history, at the end of a step and inside one.
use Rattle.std.specs.Prelude.{◌≡◌, List, ◌∷◌, map}
use Rattle.pulsar_run.specs.Run.{Agenda, Entry, IsRun, Rests, Rules, Step, agenda, in_order, steps, steps_done, view}

-- v is what is seen after a run in which nothing is left to do, whose steps are this history
pub record Stands {O H V A N P E : Type 0} (r : Rules O H V A N P E) (o : O) (v : V) (history : List (Step H E)) : Type 0 where
  pub log : List (Entry H A)
  pub run : IsRun r o log
  pub rests : Rests r o log
  pub same : history ≡ steps r o log
  pub sees : v ≡ view r o log

-- v is what is seen after a run in which g is left to do, and out were the effects of the newest step so far
pub record InStep {O H V A N P E : Type 0} (r : Rules O H V A N P E) (o : O) (v : V) (g : Agenda A N P) (event : H) (out : List E)
    (history : List (Step H E)) : Type 0 where
  pub log : List (Entry H A)
  pub older : List (Step H E)
  pub run : IsRun r o log
  pub left : agenda r o log ≡ g
  pub newest : steps_done r o log ≡ record { event = event; effects = out } ∷ older
  pub same : history ≡ map (in_order r.effect_below) older
  pub sees : v ≡ view r o log
