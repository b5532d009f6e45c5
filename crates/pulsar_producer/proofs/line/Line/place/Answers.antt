use Rattle.std.proofs.Common.{◌∙◌, ap, subst, sym}
use Rattle.pulsar_producer.specs.Turns.{AreAtMost, placed}
use Rattle.pulsar_producer.proofs.Waiting.{most_either, most_last, placed_above}
use Rattle.pulsar_producer.proofs.line.Line.place.Goals as goal

pub invariant_of-self : goal.invariant_of-self
invariant_of-self c =
    let i = c.self.inside in
    most_either c.place.result c.args.ticket i.greatest i.waiting.items c.place.new.waiting.items c.if-ticket-self.true c.self.invariant
    c.place.ensures.ok c.place.ensures.err

pub invariant_of-self-2 : goal.invariant_of-self-2
invariant_of-self-2 c =
    let i = c.self.inside in
    subst (AreAtMost c.args.ticket) (sym c.in_ok-push_back.ensures.items)
    (most_last c.args.ticket i.greatest i.waiting.items c.if-ticket-self.false c.self.invariant)

pub returns : goal.returns
returns c =
    let i = c.self.inside in
    c.in_ok-push_back.ensures.items
    ∙ sym (placed_above c.args.ticket i.greatest i.waiting.items c.if-ticket-self.false c.self.invariant)
    ∙ ap (placed c.args.ticket) c.self.view_is
