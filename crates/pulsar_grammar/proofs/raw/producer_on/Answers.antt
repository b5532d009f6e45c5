use Rattle.std.proofs.Common.{rules, ◌≡◌, ℕ, List, [], ◌∷◌, refl, None, length, ◌<◌, arith, map}
use Rattle.pulsar_grammar.specs.RawLines.{producer_on}
use Rattle.pulsar_grammar.proofs.raw.producer_on.Goals as goal

-- fewer than two words are none
fewer : {X : Type 0} (f : X → List ℕ) (t : List ℕ) (ws : List X) → length ws < 2 → None ≡ producer_on t (map f ws)
fewer f t [] h = refl
fewer f t (p ∷ []) h = refl
fewer f t (p ∷ n ∷ ws) h = absurd (omega (arith, h))

pub returns-in_default : goal.returns-in_default
returns-in_default c = fewer (λ w. w.now) c.args.topic.now c.args.words.now (search rules)
