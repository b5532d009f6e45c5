use Rattle.std.proofs.Common.{◌≡◌, ◌++◌, map, take}
use Rattle.pulsar_outgoing.specs.Storage.{item_of}
use Rattle.pulsar_outgoing.specs.Storage.{ticket_of}
use Rattle.pulsar_outgoing.proofs.storage.push_tickets.Given as goal

abbrev pub invariant-loop-item : goal.invariant-loop-item
invariant-loop-item l = l.tickets.items ≡ l.fn.tickets.items ++ map ticket_of (map item_of (take l.item-index l.items))
