use Rattle.std.proofs.Common.{◌∙◌, Some, ap, sym}
use Rattle.std.specs.BTreeMap.{get}
use Rattle.std.specs.Ordering.{nat_cmp}
use Rattle.pulsar_consumer_table.specs.KeptConsumers.{tickets_of}
use Rattle.pulsar_consumer_table.proofs.Listed.{one_more, put_back}
use Rattle.pulsar_consumer_table.proofs.listing.list.Goals as goal
use Rattle.pulsar_consumer_table.proofs.listing.list.Goals.{in-Some, in-None}

pub returns : goal.returns
returns c = λ n t.
    let number = c.args.number in
    let old = get nat_cmp c.args.listing.now in
    let after = get nat_cmp c.insert-2.new.self in
    let before = c.match-remove.tickets in
    let new = c.insert.new.self in
    let written = put_back number (Some new) old (get nat_cmp c.remove.new.self) after c.remove.ensures.updates.0 c.in_ok-insert-2.ensures.updates.0 in
    elim c.match-remove.branch [
      | in-Some w ↦ one_more number c.args.ticket old before new after
          (ap (λ s. s.keys) w.tickets-is ∙ ap tickets_of (sym w.in-Some.is ∙ c.remove.ensures.value)) c.in_ok-insert.ensures.updates.0 written n t
      | in-None w ↦ one_more number c.args.ticket old before new after
          (ap (λ s. s.keys) w.tickets-is ∙ w.new-tickets.ensures.empty ∙ ap tickets_of (sym w.in-None.is ∙ c.remove.ensures.value)) c.in_ok-insert.ensures.updates.0 written n t
    ]
