use Rattle.std.proofs.Common.{◌∙◌, None, Some, refl, sym}
use Rattle.std.specs.BTreeMap.{get}
use Rattle.std.specs.Ordering.{nat_cmp}
use Rattle.pulsar_consumer_table.proofs.Listed.{no_keys, one_less, put_back}
use Rattle.pulsar_consumer_table.proofs.listing.unlist.Goals as goal

pub returns-in_ok-insert : goal.returns-in_ok-insert
returns-in_ok-insert c = λ n t.
    let number = c.args.number in
    let old = get nat_cmp c.args.listing.now in
    let after = get nat_cmp c.insert.new.self in
    let new = c.remove-2.new.self in
    one_less number c.args.ticket old c.in-Some.tickets new after (sym c.in-Some.is ∙ c.remove.ensures.value) c.remove-2.ensures.updates.0 (Some new) refl
    (put_back number (Some new) old (get nat_cmp c.remove.new.self) after c.remove.ensures.updates.0 c.in_ok-insert.ensures.updates.0) n t

pub returns-else-not-is_empty : goal.returns-else-not-is_empty
returns-else-not-is_empty c = λ n t.
    let number = c.args.number in
    let old = get nat_cmp c.args.listing.now in
    let new = c.remove-2.new.self in
    one_less number c.args.ticket old c.in-Some.tickets new (get nat_cmp c.remove.new.self) (sym c.in-Some.is ∙ c.remove.ensures.value) c.remove-2.ensures.updates.0 None
    (no_keys new.keys (c.is_empty.ensures.0 c.if-not-is_empty.false)) c.remove.ensures.updates.0 n t
