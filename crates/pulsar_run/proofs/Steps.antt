-- One more act in a step, and its beginning and end.
use Rattle.std.proofs.Common.{◌≡◌, ◌∙◌, sym, ap, List, [], ◌∷◌, ◌++◌, refl, Some, None, map}
use Rattle.pulsar_run.specs.Order.{arranged}
use Rattle.pulsar_run.specs.Run.{Begins, Then, Agenda, Rules, Step, Good, first, rest, goes_on, in_order, only, steps_done, view, with_effects}
use Rattle.pulsar_run.specs.Standing.{InStep, Stands}

module _ {O H V A N P E : Type 0} {r : Rules O H V A N P E} where
  -- what is first is done
  pub treated : {o : O} {v v' : V} {a : A} {g g' : Agenda A N P} {e : H} {out out' : List E} {h : List (Step H E)} →
      InStep r o v g e out h → first r g ≡ Some a → out' ≡ out ++ r.effects v a → g' ≡ goes_on r v a (rest g) → v' ≡ r.after a v → InStep r o v' g' e out' h
  treated {o} {v} {v'} {a} {g} {g'} {e} {out} {out'} {h} s f q p w = record {
    log = Then a ∷ s.log;
    older = s.older;
    run = (s.run, ap (first r) s.left ∙ f);
    left = ap (λ x. goes_on r (view r o s.log) a (rest x)) s.left ∙ ap (λ x. goes_on r x a (rest g)) (sym s.sees) ∙ sym p;
    newest =
        ap (with_effects (r.effects (view r o s.log) a)) s.newest
        ∙ ap (λ x. record { event = e; effects = out ++ r.effects x a } ∷ s.older) (sym s.sees)
        ∙ ap (λ x. record { event = e; effects = x } ∷ s.older) (sym q);
    same = s.same;
    sees = w ∙ ap (r.after a) s.sees;
  }

  -- an event begins where nothing is left to do
  pub began : {o : O} {v v' : V} {g : Agenda A N P} {h : List (Step H E)} (e : H) → Stands r o v h → g ≡ only (r.parts o v e) → v' ≡ r.begun e v → InStep r o v' g e [] h
  began {o} {v} {v'} {g} {h} e s p w = record {
    log = Begins e ∷ s.log;
    older = steps_done r o s.log;
    run = (s.run, s.rests);
    left = ap (λ x. only (r.parts o x e)) (sym s.sees) ∙ sym p;
    newest = refl;
    same = s.same;
    sees = w ∙ ap (r.begun e) s.sees;
  }

  -- a step ends where nothing is left to do
  pub ended : {o : O} {v : V} {g : Agenda A N P} {e : H} {out out' : List E} {h : List (Step H E)} → InStep r o v g e out h → first r g ≡ None → out' ≡ arranged r.effect_below out →
      Stands r o v (record { event = e; effects = out' } ∷ h)
  ended {o} {v} {g} {e} {out} {out'} {h} s f q = record {
    log = s.log;
    run = s.run;
    rests = ap (first r) s.left ∙ f;
    same =
        ap (λ x. record { event = e; effects = x } ∷ h) q
        ∙ ap (λ x. record { event = e; effects = arranged r.effect_below out } ∷ x) s.same
        ∙ sym (ap (map (in_order r.effect_below)) s.newest);
    sees = s.sees;
  }

  -- as nothing has happened
  pub at_first : {o : O} {v : V} → v ≡ r.new o → Stands r o v []
  at_first w = record { log = []; run = tt; rests = refl; same = refl; sees = w }

  pub good : {o : O} {v : V} {h : List (Step H E)} → Stands r o v h → Good r o h
  good s = record { log = s.log; run = s.run; rests = s.rests; same = s.same }
