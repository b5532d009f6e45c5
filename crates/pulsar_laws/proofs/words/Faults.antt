-- What is told where a call fails, and which faults may pass.
use Rattle.std.proofs.Common.{◌≡◌, ◌⊎◌, inl, inr, ap, ℕ, refl, List, cond, true, Option, Some}
use Rattle.std.proofs.lemmas.Bool.{eq-eqb}
use Rattle.pulsar_laws.proofs.RunWords.{In}
use Rattle.pulsar_wire.specs.Command.{body_name}
use Rattle.pulsar_wire.specs.Enumerations.{error_of}
use Rattle.pulsar_wire.specs.Failures.{Fault, Io, PulsarError, UnexpectedResponse}
use Rattle.pulsar_wire.specs.Field.{◌>>=◌}
use Rattle.pulsar_wire.specs.declared.commands.enumerations.ServerError.{ServerError}
use Rattle.pulsar_wire.specs.declared.commands.enumerations.ServerError.TheVariants.{ConsumerBusy, ProducerBlockedQuotaExceededError, ProducerBlockedQuotaExceededException, ProducerBusy, ServiceNotReady}
use Rattle.pulsar_wire.specs.declared.error.IoKind.TheVariants as io
use Rattle.pulsar_frame.specs.Reply.{Reply as Content, Written}
use Rattle.pulsar_searches.specs.Plans.{is_retryable}
use Rattle.pulsar_searches.specs.Replies.{unexpected}
use Rattle.pulsar_laws.specs.WordLaws.{passing_errors}

pub told_so : (r : Content) (b : Written) → b.number ≡ 14 → unexpected r (Some b) ≡ PulsarError (r.error >>= error_of) r.text
unfolding unexpected
told_so r b h = ap (λ c. cond c (PulsarError (r.error >>= error_of) r.text) (UnexpectedResponse (body_name b.number))) (eq-eqb b.number 14 h)

pub told_passes : (e : ServerError) (text : Option (List ℕ)) → In e passing_errors → is_retryable (PulsarError (Some e) text) ≡ true
told_passes e text (inl h) = ap (λ x. is_retryable (PulsarError (Some x) text)) h
told_passes e text (inr (inl h)) = ap (λ x. is_retryable (PulsarError (Some x) text)) h
told_passes e text (inr (inr (inl h))) = ap (λ x. is_retryable (PulsarError (Some x) text)) h
told_passes e text (inr (inr (inr (inl h)))) = ap (λ x. is_retryable (PulsarError (Some x) text)) h
told_passes e text (inr (inr (inr (inr (inl h))))) = ap (λ x. is_retryable (PulsarError (Some x) text)) h
told_passes e text (inr (inr (inr (inr (inr h))))) = absurd h

abbrev Passes : Fault → Type 0
Passes f = (f ≡ Io io.TimedOut) ⊎ ((e : ServerError) × (text : Option (List ℕ)) × (f ≡ PulsarError (Some e) text) × In e passing_errors)

pub only : (f : Fault) → is_retryable f ≡ true → Passes f
only (Io io.TimedOut) h = inl refl
only (PulsarError (Some ConsumerBusy) text) h = inr (ConsumerBusy, text, refl, inl refl)
only (PulsarError (Some ServiceNotReady) text) h = inr (ServiceNotReady, text, refl, inr (inl refl))
only (PulsarError (Some ProducerBlockedQuotaExceededError) text) h = inr (ProducerBlockedQuotaExceededError, text, refl, inr (inr (inl refl)))
only (PulsarError (Some ProducerBlockedQuotaExceededException) text) h =
    inr (ProducerBlockedQuotaExceededException, text, refl, inr (inr (inr (inl refl))))
only (PulsarError (Some ProducerBusy) text) h = inr (ProducerBusy, text, refl, inr (inr (inr (inr (inl refl)))))
only _ h = absurd cc
