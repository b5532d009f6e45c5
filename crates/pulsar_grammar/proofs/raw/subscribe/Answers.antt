use Rattle.std.proofs.Common.{rules, ◌≡◌, ℕ, List, [], ◌∷◌, refl, None, length, ◌<◌, arith, map}
use Rattle.pulsar_grammar.specs.RawLines.{subscribe}
use Rattle.pulsar_grammar.proofs.raw.subscribe.Goals as goal

-- fewer than four words are none
fewer : {X : Type 0} (f : X → List ℕ) (ws : List X) → length ws < 4 → None ≡ subscribe (map f ws)
fewer f [] h = refl
fewer f (t ∷ []) h = refl
fewer f (t ∷ s ∷ []) h = refl
fewer f (t ∷ s ∷ k ∷ []) h = refl
fewer f (t ∷ s ∷ k ∷ c ∷ ws) h = absurd (omega (arith, h))

pub returns-in_default : goal.returns-in_default
returns-in_default c = fewer (λ w. w.now) c.args.words.now (search rules)
