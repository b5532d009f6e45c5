use Rattle.std.proofs.Common.{◌∙◌, ◌++◌, ap, append_assoc, map, sym}
use Rattle.std.proofs.lemmas.List.{map-append}
use Rattle.std.proofs.lemmas.Result.{on_ok_weaker}
use Rattle.std.specs.List.{flat_map}
use Rattle.pulsar_calls.specs.Notices.{stopped_one}
use Rattle.pulsar_producer_table.specs.Takers.{who_of}
use Rattle.pulsar_producer_table.proofs.multis.Multis.stop.Goals as goal

pub returns : goal.returns
returns c =
    let before = c.args.notices.now.items in
    let own = c.args.self.now.own.waiting in
    let made = flat_map (λ e. e.1.waiting) c.args.self.now.made.entries in
    let first = c.in_ok-stop_all.ensures ∙ ap (λ ts. before ++ map stopped_one (map who_of ts)) c.waiting.ensures in
    on_ok_weaker c.stop_made.result
    (λ told. told
    ∙ ap (λ xs. xs ++ map stopped_one (map who_of made)) first
    ∙ append_assoc before (map stopped_one (map who_of own)) (map stopped_one (map who_of made))
    ∙ ap (λ xs. before ++ xs)
    (sym (map-append stopped_one (map who_of own) (map who_of made)) ∙ ap (map stopped_one) (sym (map-append who_of own made))))
    c.stop_made.ensures
