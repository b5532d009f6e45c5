-- A script of the grammar is read whole.
use Rattle.std.proofs.Common.{inl, inr, ◌⊎◌, ◌≡◌, ℕ, zero, suc, ◌≤◌, ◌∙◌, sym, ap, List, [], ◌∷◌, ◌++◌, refl, arith, Option, None, append_assoc}
use Rattle.std.proofs.lemmas.Option.{none-some}
use Rattle.pulsar_wire.specs.Field.{◌>>=◌}
use Rattle.pulsar_producer.specs.Routing.{Policy}
use Rattle.pulsar_cli.specs.Script.{Completes, Decides, Script, blank, script_from, script_of}
use Rattle.pulsar_cli.proofs.Readings.{script-more}

-- behind lines that are no script there is none
pub no-script : (ps : List Policy) (before after : List (List ℕ)) (bad : List ℕ) → script_of ps (before ++ bad ∷ []) ≡ None → script_of ps (before ++ bad ∷ after) ≡ None
no-script ps before after bad h =
    ap (script_of ps) (sym (append_assoc before (bad ∷ []) after)) ∙ script-more (before ++ bad ∷ []) after (blank ps)
    ∙ ap (λ (o : Option Script). o >>= λ s. script_from s after) h

pub decides : Decides
decides ps status source sink ran = (
  λ e. let run = (ran.printed.done e).run in (run.script, run.is),
  λ e is.
      let r = ran.printed.refused e in
      absurd (none-some is.0 (sym (ap (script_of ps) r.apart ∙ no-script ps r.before r.after r.bad r.refused) ∙ is.1)),
)

-- every other status has its cause
by-status : {grammar source sink long : Type 0} (status : ℕ) → (status ≡ 1 → grammar) → (status ≤ 6) × (status ≡ 2 → ⊥) → (status ≡ 4 → source) → (status ≡ 5 → sink) → (status ≡ 6 → long) → (grammar → ⊥) → (source → ⊥) → (sink → ⊥) → (long → ⊥) → (status ≡ 0) ⊎ (status ≡ 3)
by-status zero one known four five six a b d e = inl refl
by-status (suc zero) one known four five six a b d e = absurd (a (one refl))
by-status (suc (suc zero)) one known four five six a b d e = absurd (known.1 refl)
by-status (suc (suc (suc zero))) one known four five six a b d e = inr refl
by-status (suc (suc (suc (suc zero)))) one known four five six a b d e = absurd (b (four refl))
by-status (suc (suc (suc (suc (suc zero))))) one known four five six a b d e = absurd (d (five refl))
by-status (suc (suc (suc (suc (suc (suc zero)))))) one known four five six a b d e = absurd (e (six refl))
by-status (suc (suc (suc (suc (suc (suc (suc n))))))) one known four five six a b d e = absurd (omega (arith, known.0))

pub completes : Completes
completes ps status source sink ran is le a b =
    by-status status (decides ps status source sink ran).1 ran.known ran.source_failed ran.sink_failed ran.limits.0
    (λ outside. outside is) a b (λ long. absurd (omega (arith, long, ran.given.within, le)))
