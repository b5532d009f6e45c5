-- The answers that are kept until they are taken, and what a send is told of them.
use Rattle.std.proofs.Common.{◌≡◌, ◌∙◌, ◌⊎◌, ℕ, ap, sym, refl, List, [], ◌∷◌, ◌++◌, Some, None, inl, inr}
use Rattle.std.specs.Prelude.{MatchOption, MatchResult, Option, Result, Ok, Err}
use Rattle.pulsar_wire.specs.Row.{spelling}
use Rattle.pulsar_wire.specs.Rows.{send_receipt}
use Rattle.pulsar_wire.specs.Views.{send_receipt_values}
use Rattle.pulsar_wire.specs.declared.commands.producer.CommandSendReceipt.{CommandSendReceipt}
use Rattle.pulsar_wire.specs.declared.error.Error.{Error}
use Rattle.pulsar_wire.specs.Failures.{failure}
use Rattle.pulsar_outgoing.specs.Errors.{IsNoMemory}
use Rattle.pulsar_calls.specs.Content.{Receipt, Said, Shown, answered, receipt_in}
use Rattle.pulsar_calls.specs.declared.effect.Answer.{Answer}
use Rattle.pulsar_calls.specs.declared.effect.Answer.TheVariants as answer
use Rattle.pulsar_calls.specs.Steps.{Step}
use Rattle.pulsar_client.specs.Taken.{Held, IsPolled, IsSaid, IsUnsaid, ended_in, held_but, is_lost, left_after, poll_said, polled, polled_answer}

-- one more effect
pub ended_end : (es : List Shown) (e : Shown) (t : ℕ) (row : Held) → ended_in (es ++ e ∷ []) t row ≡ left_after e t (ended_in es t row)
ended_end [] e t row = refl
ended_end (x ∷ es) e t row = ended_end es e t (left_after x t row)

-- A SEND IS TOLD

-- an answer that is no receipt
polled_other : (a : Answer) → receipt_in (answered a) ≡ None → polled_answer (answered a) ≡ Err is_lost
polled_other answer.Done h = refl
polled_other (answer.Topics names) h = refl
polled_other (answer.Address a) h = refl
polled_other (answer.Count n) h = refl
polled_other (answer.Addresses names) h = refl
polled_other (answer.Receipt receipt) h = absurd cc
polled_other (answer.Sends tickets) h = refl
polled_other (answer.Replies bodies) h = refl

pub polled_receipt : (a : Answer) (r : Option CommandSendReceipt) →
    MatchOption r (receipt_in (answered a) ≡ None) (λ x. answered a ≡ Receipt (spelling send_receipt (send_receipt_values x))) →
    MatchOption r (polled_answer (answered a) ≡ Err is_lost) (λ x. polled_answer (answered a) ≡ poll_said (Ok x))
polled_receipt a None h = polled_other a h
polled_receipt a (Some x) h = ap polled_answer h

module _ (t : ℕ) (h : List Step) (ts : List ℕ) where
  pub told_answer : (r : Result CommandSendReceipt Error) (a : Said) →
      MatchResult r (λ x. polled_answer a ≡ poll_said (Ok x)) (λ e. (polled_answer a ≡ Err (failure e)) ⊎ (IsNoMemory (failure e) × (polled_answer a ≡ Err is_lost))) →
      Some (Some a) ≡ held_but ts t h → IsPolled (Some r) t h ts
  told_answer (Ok x) a e is = IsSaid (ap Some (sym e) ∙ ap polled is)
  told_answer (Err x) a (inl e) is = IsSaid (ap Some (sym e) ∙ ap polled is)
  told_answer (Err x) a (inr m) is = IsUnsaid x refl m.0 (sym (ap polled is) ∙ ap Some m.1)

  pub told_lost : (e : Error) → IsNoMemory (failure e) ⊎ (failure e ≡ is_lost) → None ≡ held_but ts t h → IsPolled (Some (Err e)) t h ts
  told_lost e (inl m) is = IsUnsaid e refl m (sym (ap polled is))
  told_lost e (inr f) is = IsSaid (ap (λ x. Some (Err x)) f ∙ ap polled is)
