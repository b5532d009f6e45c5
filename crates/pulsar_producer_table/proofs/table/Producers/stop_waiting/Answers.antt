use Rattle.std.proofs.Common.{◌∙◌, ◌+◌, ◌++◌, ℕ, ap, append_assoc, get_or, map, sym, take}
use Rattle.std.proofs.lemmas.List.{map-append, take_more}
use Rattle.std.specs.BTreeMap.{get}
use Rattle.std.specs.List.{flat_map}
use Rattle.std.specs.Ordering.{nat_cmp}
use Rattle.pulsar_producer_table.specs.Producers.{waiting_at}
use Rattle.pulsar_calls.specs.Notices.{stopped_one}
use Rattle.pulsar_producer_table.proofs.Grown.{flat_map_end}
use Rattle.pulsar_producer_table.proofs.table.Producers.stop_waiting.Goals as goal

pub loop-number-preserved : goal.loop-number-preserved
loop-number-preserved c =
    let waits = λ (n : ℕ). waiting_at n (get nat_cmp c.args.self.now.topics n) in
    let before = c.args.notices.now.items in
    let ns = c.deref-number-items.result.now in
    let same = c.deref-number-items.ensures.value in
    let i = c.loop-number.number-index in
    let n = get_or ns i 0 in
    let told = flat_map waits (take i ns) in
    c.in_ok-stop_at.ensures
    ∙ ap (λ xs. xs ++ map stopped_one (waits n)) (c.loop-number.invariant ∙ ap (λ xs. before ++ map stopped_one (flat_map waits (take i xs))) (sym same))
    ∙ append_assoc before (map stopped_one told) (map stopped_one (waits n))
    ∙ ap (λ xs. before ++ xs) (sym (map-append stopped_one told (waits n))
    ∙ ap (map stopped_one) (sym (flat_map_end waits (take i ns) n) ∙ ap (flat_map waits) (sym (take_more ns i 0 c.loop-number-test.true))))
    ∙ ap (λ xs. before ++ map stopped_one (flat_map waits (take (i + 1) xs))) same
