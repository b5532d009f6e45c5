use Rattle.std.proofs.Common.{◌∙◌, ◌++◌, ℕ, List, Bor, ap, append_assoc, map, sym}
use Rattle.std.proofs.lemmas.List.{map-append}
use Rattle.std.specs.List.{flat_map}
use Rattle.std.specs.Map.Iter.{deref_pair}
use Rattle.pulsar_calls.specs.Notices.{stopped_one}
use Rattle.pulsar_producer_table.specs.Takers.{who_of}
use Rattle.pulsar_producer.specs.MultiTopic.{Seen}
use Rattle.pulsar_outgoing.specs.declared.multi_topic.Taker.{Taker}
use Rattle.pulsar_producer_table.proofs.Grown.{flat_map_end, map_end}
use Rattle.pulsar_producer_table.proofs.multis.stop_made.Goals as goal

pub loop-one-preserved : goal.loop-one-preserved
loop-one-preserved c =
    let waits = λ (e : ℕ × Seen). e.1.waiting in
    let before = c.args.notices.now.items in
    let seen = c.loop-one.yielded in
    let x : Bor ℕ × Bor Seen = (c.in-Some.field-0-0, c.in-Some.one) in
    let told = flat_map waits (map deref_pair seen) in
    let tells = λ (ts : List Taker). map stopped_one (map who_of ts) in
    c.in_ok-stop_all.ensures
    ∙ ap (λ ts. c.loop-one.notices.items ++ tells ts) c.waiting.ensures
    ∙ ap (λ xs. xs ++ tells (waits (deref_pair x))) c.loop-one.invariant
    ∙ append_assoc before (tells told) (tells (waits (deref_pair x)))
    ∙ ap (λ xs. before ++ xs)
    (sym (map-append stopped_one (map who_of told) (map who_of (waits (deref_pair x))))
    ∙ ap (map stopped_one) (sym (map-append who_of told (waits (deref_pair x)))
    ∙ ap (map who_of) (sym (flat_map_end waits (map deref_pair seen) (deref_pair x)) ∙ ap (flat_map waits) (sym (map_end deref_pair seen x)))))
