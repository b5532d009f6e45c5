-- The history by what a submitter tells.
use Rattle.std.proofs.Common.{◌≡◌, ◌∙◌, ◌+◌, ◌++◌, ℕ, sym, ap, refl, List, [], ◌∷◌, append_assoc, map, Some}
use Rattle.std.specs.Prelude.{reverse, Result, Ok, Err, IfOk}
use Rattle.pulsar_wire.specs.declared.error.NoMemory.{NoMemory}
use Rattle.pulsar_pumps.specs.declared.submitter.Receipt.{Receipt}
use Rattle.std.specs.Global.{Vec}
use Rattle.std.proofs.lemmas.List.{append-nil, map-append, reverse-append}
use Rattle.pulsar_calls.specs.declared.event.Event.{Event}
use Rattle.pulsar_calls.specs.declared.effect.Effect.{Effect}
use Rattle.pulsar_calls.specs.Content.{shown}
use Rattle.pulsar_machine.specs.Machine.{step}
use Rattle.pulsar_calls.specs.Steps.{Step}
use Rattle.pulsar_pumps.specs.Made.{Made}
use Rattle.pulsar_pumps.specs.Outside.{Grows}
use Rattle.pulsar_shared.specs.Trace.{history, numbered, steps}
use Rattle.pulsar_work.specs.Report.{effects_of, report, report_of, shown_in}
use Rattle.pulsar_job.specs.Driven.{grown, step_made}

unnumbered : (n : ℕ) (ss : List Step) → map step_made (numbered n ss) ≡ ss
unnumbered n [] = refl
unnumbered n (s ∷ ss) = ap (λ t. s ∷ t) (unnumbered (n + 1) ss)

grown-reverse : (ms : List Made) (h : List Step) → grown ms h ≡ reverse (map step_made ms) ++ h
grown-reverse [] h = refl
grown-reverse (m ∷ ms) h =
    grown-reverse ms (step_made m ∷ h) ∙ sym (append_assoc (reverse (map step_made ms)) (step_made m ∷ []) h)
    ∙ ap (λ t. t ++ h) (sym (reverse-append (step_made m ∷ []) (map step_made ms)))

pub told-grown : (old new : List (Event × Vec Effect)) (ms : List Made) → Grows (Some (numbered 0 (steps old))) (Some (numbered 0 (steps new))) ms → history new ≡ grown ms (history old)
told-grown old new ms g =
    let more : Some (numbered 0 (steps new)) ≡ Some (numbered 0 (steps old) ++ ms) = g.0 (numbered 0 (steps old)) refl in
    let same : numbered 0 (steps new) ≡ numbered 0 (steps old) ++ ms = cc in
    let all : steps new ≡ steps old ++ map step_made ms = sym (unnumbered 0 (steps new)) ∙ ap (map step_made) same ∙ map-append step_made (numbered 0 (steps old)) ms
    ∙ ap (λ t. t ++ map step_made ms) (unnumbered 0 (steps old)) in
    ap reverse all ∙ reverse-append (steps old) (map step_made ms) ∙ sym (grown-reverse ms (history old))

-- one step
pub entry-step : (old new : List (Event × Vec Effect)) (e : Event) (es : List Effect) → steps new ≡ steps old ++ step e es ∷ [] → history new ≡ step e es ∷ history old
entry-step old new e es entry = ap reverse entry ∙ reverse-append (steps old) (step e es ∷ [])

pub entry-steps : (r : Result Receipt NoMemory) (e : Event) (old new : List (Event × Vec Effect)) → IfOk r (λ x. steps new ≡ steps old ++ step e x.effects.items ∷ [])
    → IfOk r (λ x. history new ≡ step e x.effects.items ∷ history old)
entry-steps (Ok x) e old new entry = entry-step old new e x.effects.items entry
entry-steps (Err x) e old new entry = tt

-- THE REPORT

effects-append : (xs ys : List Step) → effects_of (xs ++ ys) ≡ effects_of ys ++ effects_of xs
effects-append [] ys = sym (append-nil (effects_of ys))
effects-append (x ∷ xs) ys = ap (λ t. t ++ x.effects) (effects-append xs ys) ∙ append_assoc (effects_of ys) (effects_of xs) x.effects

pub told-effects : (entries : List (Event × Vec Effect)) → effects_of (history entries) ≡ shown_in entries
told-effects [] = refl
told-effects (x ∷ xs) =
    ap effects_of (reverse-append (step x.0 x.1.items ∷ []) (steps xs)) ∙ effects-append (history xs) (step x.0 x.1.items ∷ []) ∙ ap (λ t. map shown x.1.items ++ t) (told-effects xs)

pub told-report : (entries : List (Event × Vec Effect)) → report (history entries) ≡ report_of (shown_in entries)
told-report entries = ap report_of (told-effects entries)
