use Rattle.std.proofs.Common.{◌≡◌, ◌++◌, ◌-◌, length, take, drop}
use Rattle.pulsar_consumer.specs.Redelivery.{keep_all}
use Rattle.pulsar_consumer.proofs.engine.place.Given as goal

abbrev pub invariant-items : goal.invariant-items
invariant-items l = record {
  unread : l.unread.items ++ take (l.queue - length l.unread.items) l.rest.items
      ≡ l.fn.unread.items ++ take (l.fn.queue - length l.fn.unread.items) l.fn.rest.items;
  rest : drop (l.queue - length l.unread.items) l.rest.items ≡ drop (l.fn.queue - length l.fn.unread.items) l.fn.rest.items;
  kept : keep_all l.due (take (l.queue - length l.unread.items) l.rest.items) l.kept
      ≡ keep_all l.fn.due (take (l.fn.queue - length l.fn.unread.items) l.fn.rest.items) l.fn.kept;
}

abbrev pub decreases-items : goal.decreases-items
decreases-items l = length l.rest.items
