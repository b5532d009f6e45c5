use Rattle.std.proofs.Common.{◌∙◌, ◌-◌, ap, sym, ◌++◌, map, append_assoc, arith}
use Rattle.std.specs.List.{filter_map}
use Rattle.std.specs.Option.{option_to_list}
use Rattle.pulsar_calls.specs.Content.{shown}
use Rattle.pulsar_links.specs.Links.{queues_at}
use Rattle.pulsar_calls.specs.Content.{numbers_from}
use Rattle.pulsar_calls.proofs.Places.{next_place}
use Rattle.pulsar_links.proofs.row.queue.Goals as goal

pub loop-place-preserved : goal.loop-place-preserved
loop-place-preserved c =
    let f = queues_at c.args.link c.args.connection.now in
    let before = map shown c.args.out.now.items in
    let first = c.args.first in
    let i = c.loop-place.place in
    record {
      out = c.in_ok-queue_one.ensures
          ∙ ap (λ es. es ++ option_to_list (f i)) c.loop-place.invariant.out
          ∙ append_assoc before (filter_map f (numbers_from first (i - first))) (option_to_list (f i))
          ∙ ap (λ es. before ++ es) (sym (next_place f first i c.loop-place.auto.place));
      within = omega arith;
    }

pub returns : goal.returns
returns c =
    c.loop-place.invariant.out
    ∙ ap (λ n. map shown c.args.out.now.items ++ filter_map (queues_at c.args.link c.args.connection.now) (numbers_from c.args.first n)) (omega arith)
