use Rattle.std.proofs.Common.{◌≡◌, ℕ, List, take, cond}
use Rattle.std.specs.List.{list_any}
use Rattle.pulsar_links.specs.Kept.{addresses_of, base_at}
use Rattle.pulsar_acts.specs.View.{is_to_follow}
use Rattle.pulsar_links.specs.Seats.{nobody}
use Rattle.pulsar_acts.proofs.tables.alarms.forget_all.Given as goal

abbrev pub invariant-loop-alarm : goal.invariant-loop-alarm
invariant-loop-alarm l = record {
  bases : (key : List ℕ) → base_at l.addresses.bases key ≡ cond (list_any (is_to_follow (addresses_of l.fn.addresses) key) (take l.alarm-index l.alarms)) nobody (base_at l.fn.addresses.bases key);
  pauses : l.addresses.pauses ≡ l.fn.addresses.pauses;
}
