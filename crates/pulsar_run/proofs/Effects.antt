-- The effects of each step are those of its acts, in order; and whom causes serve stands in order.
use Rattle.std.proofs.Common.{List, [], ◌∷◌, ◌++◌, refl, map, Bool}
use Rattle.std.specs.Cmp.{IsStrictWeakOrder}
use Rattle.pulsar_run.specs.Order.{AllInOrder, InOrder, arranged}
use Rattle.pulsar_run.specs.Run.{Begins, Then, Agenda, Step, agenda, in_order, rest, rest_of, steps_done, view}
use Rattle.pulsar_run.specs.Laws.{ArrangeSteps, CausesInOrder, EffectsArranged}
use Rattle.pulsar_run.proofs.Orders.{arranges, put_all_order}

module _ {H E : Type 0} (below : E → E → Bool) (o : IsStrictWeakOrder below) where
  all_arranged : (ss : List (Step H E)) → ArrangeSteps below ss (map (in_order below) ss)
  all_arranged [] = tt
  all_arranged (s ∷ ss) = (refl, arranges below o s.effects, all_arranged ss)

pub effects_arranged_lem : (O H V A N P E : Type 0) → EffectsArranged O H V A N P E
effects_arranged_lem O H V A N P E r o log k = all_arranged r.effect_below k (steps_done r o log)

module _ {N : Type 0} (below : N → N → Bool) (k : IsStrictWeakOrder below) where
  rest_order : {A P : Type 0} (now : List A) (here : List N) (behind : List (List N)) (parts : List P) → InOrder below here → AllInOrder below behind →
      InOrder below (rest_of now here behind parts).here × AllInOrder below (rest_of now here behind parts).behind
  rest_order (a ∷ now) here behind parts p q = (p, q)
  rest_order [] (n ∷ here) behind parts p q = (p.1, q)
  rest_order [] [] (cause ∷ behind) parts p q = rest_order [] cause behind parts q.0 q.1
  rest_order [] [] [] parts p q = (tt, tt)

  all_append : (xss yss : List (List N)) → AllInOrder below xss → AllInOrder below yss → AllInOrder below (xss ++ yss)
  all_append [] yss p q = q
  all_append (xs ∷ xss) yss p q = (p.0, all_append xss yss p.1 q)

  all_ranked : (nss : List (List N)) → AllInOrder below (map (arranged below) nss)
  all_ranked [] = tt
  all_ranked (ns ∷ nss) = (put_all_order below k ns [] tt, all_ranked nss)

pub causes_in_order_lem : (O H V A N P E : Type 0) → CausesInOrder O H V A N P E
causes_in_order_lem O H V A N P E r o [] k = (tt, tt)
causes_in_order_lem O H V A N P E r o (Begins e ∷ log) k = (tt, tt)
causes_in_order_lem O H V A N P E r o (Then a ∷ log) k =
    let g : Agenda A N P = agenda r o log in
    let older : InOrder r.below g.here × AllInOrder r.below g.behind = causes_in_order_lem O H V A N P E r o log k in
    let left : InOrder r.below (rest g).here × AllInOrder r.below (rest g).behind = rest_order r.below k g.now g.here g.behind g.parts older.0 older.1 in (
      put_all_order r.below k (r.joins (view r o log) a) (rest g).here left.0,
      all_append r.below k (rest g).behind (map (arranged r.below) (r.causes (view r o log) a)) left.1 (all_ranked r.below k (r.causes (view r o log) a)),
    )
