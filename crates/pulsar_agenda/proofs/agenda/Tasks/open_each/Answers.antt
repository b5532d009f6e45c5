use Rattle.std.proofs.Common.{◌≡◌, ◌∙◌, ◌++◌, ◌∷◌, [], ap, sym, map, List, append_assoc}
use Rattle.std.proofs.lemmas.List.{map-append}
use Rattle.pulsar_run.specs.Order.{arranged}
use Rattle.pulsar_calls.specs.declared.act.Notice.{Notice}
use Rattle.pulsar_calls.specs.Order.{alone, below}
use Rattle.pulsar_agenda.proofs.agenda.Tasks.open_each.Goals as goal

-- one more cause, of one notice
alone_more : (ns : List Notice) (n : Notice) → map (arranged below) (map alone (ns ++ n ∷ [])) ≡ map (arranged below) (map alone ns) ++ (n ∷ []) ∷ []
alone_more ns n = ap (map (arranged below)) (map-append alone ns (n ∷ [])) ∙ map-append (arranged below) (map alone ns) (alone n ∷ [])

pub loop-notice-preserved : goal.loop-notice-preserved
loop-notice-preserved c =
    let cause = c.in_ok-of_one.field-0 in
    let old = c.args.self.now.behind.items in
    let done = map (arranged below) (map alone c.loop-notice.yielded) in
    record {
      now = c.loop-notice.invariant.now;
      here = c.loop-notice.invariant.here;
      behind =
          c.in_ok-push_back.ensures.items
          ∙ ap (λ xs. xs ++ cause ∷ []) c.loop-notice.invariant.behind
          ∙ append_assoc old done (cause ∷ [])
          ∙ ap (λ xs. old ++ (done ++ xs ∷ [])) c.in_ok-of_one.ensures
          ∙ sym (ap (λ xs. old ++ xs) (alone_more c.loop-notice.yielded c.in-Some.notice));
      parts = c.loop-notice.invariant.parts;
    }
