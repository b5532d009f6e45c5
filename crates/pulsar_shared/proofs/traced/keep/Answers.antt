use Rattle.std.proofs.Common.{◌∙◌, ◌++◌, ◌∷◌, [], ap, map}
use Rattle.pulsar_calls.specs.Content.{shown}
use Rattle.pulsar_shared.proofs.Traces.{entry_more}
use Rattle.pulsar_shared.proofs.traced.keep.Goals as goal

pub returns-clause-entry : goal.returns-clause-entry
returns-clause-entry c =
    entry_more c.args.trace.now.items c.reserve.new.self.items c.push_reserved.new.self.items c.args.event.value c.in_ok-told.told c.args.effects.items c.reserve.ensures.items
    (c.push_reserved.ensures.items ∙ ap (λ d. c.reserve.new.self.items ++ (d, c.in_ok-told.told) ∷ []) c.into_inner.ensures)
    (c.in_ok-told.ensures ∙ ap (map shown) c.deref.ensures.value)
