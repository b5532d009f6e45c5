use Rattle.std.proofs.Common.{◌≡◌, ◌≤◌, ◌++◌, ◌-◌, map}
use Rattle.std.specs.List.{filter_map}
use Rattle.pulsar_calls.specs.Content.{shown}
use Rattle.pulsar_links.specs.Links.{queues_at}
use Rattle.pulsar_calls.specs.Content.{numbers_from}
use Rattle.pulsar_links.proofs.row.queue.Given as goal

abbrev pub invariant-loop-place : goal.invariant-loop-place
invariant-loop-place l = record {
  out : map shown l.out.items ≡ map shown l.fn.out.items ++ filter_map (queues_at l.link l.connection) (numbers_from l.first (l.place - l.first));
  within : l.place - l.first ≤ l.connection.waits.queued - l.first;
}
