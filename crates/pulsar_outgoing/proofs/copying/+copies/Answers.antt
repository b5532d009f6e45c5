use Rattle.std.proofs.Common.{rules, ◌≡◌, ◌∙◌, ◌++◌, ◌∷◌, [], ap, sym, arith, append_assoc, append-nil, take}
use Rattle.std.proofs.lemmas.Grind.{common_steps}
use Rattle.std.proofs.lemmas.List.{take_more}
use Rattle.std.specs.Prelude.{Err}
use Rattle.pulsar_wire.specs.Failures.{Failed, OfPartialSend, of_producer, sent}
use Rattle.pulsar_outgoing.proofs.PartialSends.{partial_send, sent_behind}
use Rattle.pulsar_outgoing.proofs.copying.+copies.Goals.{copy_partial-in-Ok, copy_partial-in-Err+in_ok-copy_error-in-Err}
use Rattle.pulsar_outgoing.proofs.copying.+copies.Goals as goal

pub copy_producer-returns-in_ok-copy_partial-in-PartialSend :
    goal.copy_producer-returns-in_ok-copy_partial-in-PartialSend
copy_producer-returns-in_ok-copy_partial-in-PartialSend t c =
    partial_send c.in_ok-copy_partial-in-PartialSend.field-0
    ∙ ap OfPartialSend (c.in_ok-copy_partial-in-PartialSend.ensures ∙ ap sent c.deref.ensures.value)
    ∙ sym (partial_send c.in-PartialSend.all)
    ∙ ap of_producer (sym c.in-PartialSend.is)

pub copy_partial-loop-one-preserved : goal.copy_partial-loop-one-preserved
copy_partial-loop-one-preserved t c = λ more.
    let xs = c.args.all.now in
    let i = c.loop-one.one-index in
    let copy = c.match-one.push in
    let one = c.one-item.result in
    let same : sent (copy ∷ more) ≡ sent (one ∷ more) = elim c.match-one.branch [
      | copy_partial-in-Ok w ↦ (let is : copy ≡ one = search rules in ap (λ r. sent (r ∷ more)) is)
      | copy_partial-in-Err+in_ok-copy_error-in-Err w ↦
          (let made : copy ≡ Err w.in_ok-copy_error-in-Err.field-0 = search rules in
          let is : one ≡ Err w.in-Err.error = search rules in
          ap (λ r. sent (r ∷ more)) made ∙ ap (λ f. Failed f (sent more)) w.in_ok-copy_error-in-Err.ensures ∙ sym (ap (λ r. sent (r ∷ more)) is))
    ] in
    ap (λ ys. sent (ys ++ more)) c.in_ok-push.ensures.items
    ∙ ap sent (append_assoc c.loop-one.copy.items (copy ∷ []) more)
    ∙ c.loop-one.invariant (copy ∷ more)
    ∙ sent_behind (take i xs) (copy ∷ more) (one ∷ more) same
    ∙ sym (ap sent (append_assoc (take i xs) (one ∷ []) more))
    ∙ ap (λ ys. sent (ys ++ more)) (ap (λ z. take i xs ++ z ∷ []) c.one-item.is ∙ sym (take_more xs i one c.loop-one-test.true))

pub copy_partial-returns : goal.copy_partial-returns
copy_partial-returns t c =
    let xs = c.args.all.now in
    let i = c.loop-one.one-index in
    let all : take i xs ≡ xs = grind (arith, common_steps) in
    sym (ap sent (append-nil c.loop-one.copy.items)) ∙ c.loop-one.invariant [] ∙ ap sent (append-nil (take i xs) ∙ all)
