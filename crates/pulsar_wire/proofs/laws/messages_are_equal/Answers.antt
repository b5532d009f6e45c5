use Rattle.std.proofs.Common.{sym, ◌∙◌}
use Rattle.pulsar_wire.proofs.laws.messages_are_equal.Goals as goal

pub returns : goal.returns
returns g c = let d = g.met.M.Message.equality c.args.a.now c.args.b.now in (λ e. d.0 (sym c.eq.ensures ∙ e), λ e. c.eq.ensures ∙ d.1 e)
