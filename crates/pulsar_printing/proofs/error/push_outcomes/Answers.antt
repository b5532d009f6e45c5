use Rattle.std.proofs.Common.{rules, ◌≡◌, ◌∙◌, sym, ap, ◌+◌, ◌<◌, [], ◌∷◌, ◌++◌, length, take, append_assoc, arith}
use Rattle.std.proofs.lemmas.Grind.{common_steps}
use Rattle.std.specs.Prelude.{Err, codes, string_bytes}
use Rattle.std.specs.Fmt.{decimal}
use Rattle.pulsar_wire.specs.Failures.{failure, sent}
use Rattle.pulsar_printing.specs.ErrorText.{first_word, outcomes}
use Rattle.pulsar_printing.proofs.Errors.{count_sent, outcome, outcomes_more}
use Rattle.pulsar_calls.proofs.Fronts.{take_more}
use Rattle.pulsar_printing.proofs.error.push_outcomes.Goals.{in-Ok+in_ok-write-in-Ok, in-Err+in_ok-push_str-in-Err+in_ok-push_first_word-in-Err}
use Rattle.pulsar_printing.proofs.error.push_outcomes.Goals as goal

pub loop-outcome-preserved : goal.loop-outcome-preserved
loop-outcome-preserved c =
    let xs = c.args.sent.now in
    let k = c.loop-outcome.outcome-index in
    let x = c.outcome-item.result in
    let front = string_bytes c.args.out.now in
    let within : k < length xs = search rules in
    let more : take k xs ++ x ∷ [] ≡ take (k + 1) xs = ap (λ x. take k xs ++ x ∷ []) c.outcome-item.is ∙ take_more xs k x within in
    let pushed : string_bytes c.match-outcome.out ≡ string_bytes c.loop-outcome.out ++ outcome x = elim c.match-outcome.branch [
      | in-Ok+in_ok-write-in-Ok w ↦ search rules
      | in-Err+in_ok-push_str-in-Err+in_ok-push_first_word-in-Err w ↦
          (let both : string_bytes c.match-outcome.out ≡ (string_bytes c.loop-outcome.out ++ codes " err:") ++ first_word (failure w.in-Err.e) = search rules in
          let is : x ≡ Err w.in-Err.e = search rules in
          both ∙ append_assoc (string_bytes c.loop-outcome.out) (codes " err:") (first_word (failure w.in-Err.e)) ∙ ap (λ r. string_bytes c.loop-outcome.out ++ outcome r) (sym is))
    ] in
    pushed
    ∙ ap (λ t. t ++ outcome x) c.loop-outcome.invariant
    ∙ append_assoc front ((32 ∷ decimal (length xs)) ++ outcomes (sent (take k xs))) (outcome x)
    ∙ ap (λ t. front ++ t) (append_assoc (32 ∷ decimal (length xs)) (outcomes (sent (take k xs))) (outcome x))
    ∙ ap (λ t. front ++ ((32 ∷ decimal (length xs)) ++ t)) (sym (outcomes_more (take k xs) x) ∙ ap (λ ys. outcomes (sent ys)) more)

pub returns : goal.returns
returns c =
    let xs = c.args.sent.now in
    let front = string_bytes c.args.out.now in
    let all : take c.loop-outcome.outcome-index xs ≡ xs = grind (arith, common_steps) in
    c.loop-outcome.invariant
    ∙ ap (λ ys. front ++ ((32 ∷ decimal (length xs)) ++ outcomes (sent ys))) all
    ∙ ap (λ n. front ++ ((32 ∷ decimal n) ++ outcomes (sent xs))) (sym (count_sent xs))
