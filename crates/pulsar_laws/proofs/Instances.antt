-- The laws of all runs, at the client's rules.
use Rattle.pulsar_laws.proofs.RunWords.{rules}
use Rattle.pulsar_run.proofs.Effects as effects
use Rattle.pulsar_run.proofs.Unique as unique
use Rattle.pulsar_agenda.proofs.Orders.{below_order, effect_order}
use Rattle.pulsar_laws.specs.Laws.{CausesInOrder, Determined, EffectsArranged}

pub determined_lem : Determined
determined_lem o h h' p q e = unique.determined_lem rules o h h' p q e

pub effects_arranged_lem : EffectsArranged
effects_arranged_lem o log = effects.effects_arranged_lem _ _ _ _ _ _ _ rules o log effect_order

pub causes_in_order_lem : CausesInOrder
causes_in_order_lem o log = effects.causes_in_order_lem _ _ _ _ _ _ _ rules o log below_order
