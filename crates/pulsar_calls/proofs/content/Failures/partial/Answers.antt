use Rattle.std.proofs.Common.{◌≡◌, ◌≤◌, ◌∙◌, ◌==◌, ◌+◌, ◌-◌, ◌++◌, ◌∷◌, [], ℕ, ap, sym, arith, append_assoc, append-nil, cond, false, None}
use Rattle.std.proofs.lemmas.Bool.Decides.{nat_tests}
use Rattle.std.specs.BTreeMap.{get, is_at}
use Rattle.std.specs.Map.{lookup}
use Rattle.std.specs.Ordering.{nat_cmp}
use Rattle.pulsar_requests.proofs.Awaiting.{is_at-eqb}
use Rattle.pulsar_wire.specs.Failures.{sent}
use Rattle.pulsar_calls.specs.Content.{numbers_from}
use Rattle.pulsar_calls.specs.Parts.{outcome_at, outcomes_of}
use Rattle.pulsar_calls.proofs.Parting.{onto_end, onto_none, outcomes_onto}
use Rattle.pulsar_calls.proofs.Counted.{next_number}
use Rattle.pulsar_calls.proofs.content.Failures.partial.Goals as goal

pub loop-ticket-init : goal.loop-ticket-init
loop-ticket-init c =
    let first = c.args.first in
    let none : first - first ≡ 0 = omega arith in
    record {
      sent = λ more. ap (λ xs. sent (xs ++ more)) c.new-sent.ensures.items ∙ sym (ap (λ n. outcomes_onto c.args.self (numbers_from first n) (sent more)) none);
      left = λ t le. ap (lookup (is_at (nat_cmp t))) c.self.view_is;
    }

apart : (i t : ℕ) → i + 1 ≤ t → (i == t) ≡ false
apart i t le = grind (arith, nat_tests)

pub loop-ticket-preserved : goal.loop-ticket-preserved
loop-ticket-preserved c =
    let i = c.loop-ticket.ticket-counter in
    let failures = c.args.self in
    let ns = numbers_from c.args.first (i - c.args.first) in
    let x = c.became.result in
    record {
      sent = λ more.
          ap (λ xs. sent (xs ++ more)) c.in_ok-push.ensures.items
          ∙ ap sent (append_assoc c.loop-ticket.sent.items (x ∷ []) more)
          ∙ c.loop-ticket.invariant.sent (x ∷ more)
          ∙ ap (outcomes_onto failures ns) (c.became.ensures more ∙ ap (λ o. outcome_at i o (sent more)) (c.remove.ensures.value ∙ c.loop-ticket.invariant.left i (omega arith)))
          ∙ sym (onto_end failures ns i (sent more))
          ∙ ap (λ ts. outcomes_onto failures ts (sent more)) (sym (next_number c.args.first i c.loop-ticket.auto.ticket-counter));
      left = λ t le.
          c.remove.ensures.updates.0 t
          ∙ ap (λ b. cond b None (get nat_cmp c.loop-ticket.all t)) (is_at-eqb i t ∙ apart i t le)
          ∙ c.loop-ticket.invariant.left t (omega (arith, le));
    }

pub returns : goal.returns
returns c =
    let failures = c.args.self in
    let i = c.loop-ticket.ticket-counter in
    sym (ap sent (append-nil c.loop-ticket.sent.items))
    ∙ c.loop-ticket.invariant.sent []
    ∙ onto_none failures (numbers_from c.args.first (i - c.args.first))
    ∙ ap (λ n. outcomes_of failures (numbers_from c.args.first n)) (omega arith)
