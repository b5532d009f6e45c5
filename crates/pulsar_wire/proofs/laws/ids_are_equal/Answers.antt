use Rattle.std.proofs.Common.{sym, ◌∙◌}
use Rattle.pulsar_wire.specs.Equality.{message_id_equality}
use Rattle.pulsar_wire.proofs.laws.ids_are_equal.Goals as goal

pub returns : goal.returns
returns c = let d = message_id_equality c.args.a.now c.args.b.now in (λ e. d.0 (sym c.eq.ensures ∙ e), λ e. c.eq.ensures ∙ d.1 e)
