-- Those who wait at a topic producer: a call above all others goes behind them.
use Rattle.std.proofs.Common.{◌≡◌, sym, ap, refl, subst, ℕ, ◌<◌, ◌≤◌, ◌==◌, nat_lt, Bool, true, false, cond, List, [], ◌∷◌, ◌++◌, Result, Ok, Err, OnOk, OnErr, arith}
use Rattle.std.proofs.lemmas.Bool.Decides.{nat_tests}
use Rattle.std.specs.Ordering.{match_ordering}
use Rattle.std.specs.declared.cmp.Ordering.TheVariants.{Less, Equal, Greater}
use Rattle.pulsar_outgoing.specs.declared.multi_topic.Taker.{Taker}
use Rattle.pulsar_outgoing.specs.declared.multi_topic.Taker.TheVariants.{Call, Copy}
use Rattle.pulsar_producer.specs.Laws.{tickets}
use Rattle.pulsar_producer.specs.Turns.{AreAtMost, placed}

-- each of these is lower
abbrev pub AreBelow : ℕ → List ℕ → Type 0
AreBelow t [] = Unit {0}
AreBelow t (u ∷ us) = (u < t) × AreBelow t us

pub placed_last : (t : ℕ) (ws : List Taker) → AreBelow t (tickets ws) → placed t ws ≡ ws ++ Call t ∷ []
placed_last t [] all = refl
placed_last t (Copy consumer ticket key ∷ ws) all = ap (λ ts. Copy consumer ticket key ∷ ts) (placed_last t ws all)
placed_last t (Call u ∷ ws) all = by (nat_lt t u) refl (t == u) refl (placed_last t ws all.1)
  where
    lt : u < t
    lt = all.0

    by : (a : Bool) → nat_lt t u ≡ a → (b : Bool) → (t == u) ≡ b → placed t ws ≡ ws ++ Call t ∷ []
        → match_ordering (cond a Less (cond b Equal Greater)) (Call t ∷ Call u ∷ ws) (Call u ∷ ws) (Call u ∷ placed t ws) ≡ Call u ∷ ws ++ Call t ∷ []
    by true e b f more = let up : t < u = grind (arith, nat_tests) in absurd (omega (arith, lt, up))
    by false e true f more = let same : t ≡ u = grind (arith, nat_tests) in absurd (omega (arith, lt, same))
    by false e false f more = ap (λ ts. Call u ∷ ts) more

below : (t g : ℕ) (ws : List Taker) → g < t → AreAtMost g ws → AreBelow t (tickets ws)
below t g [] lt all = tt
below t g (Call u ∷ ws) lt all = let most = all.0 in (omega (arith, lt, most), below t g ws lt all.1)
below t g (Copy consumer ticket key ∷ ws) lt all = below t g ws lt all

pub placed_above : (t g : ℕ) (ws : List Taker) → g < t → AreAtMost g ws → placed t ws ≡ ws ++ Call t ∷ []
placed_above t g ws lt all = placed_last t ws (below t g ws lt all)

-- what is known of the greatest ticket stays so
pub most_last : (t g : ℕ) (ws : List Taker) → g < t → AreAtMost g ws → AreAtMost t (ws ++ Call t ∷ [])
most_last t g [] lt all = (omega arith, tt)
most_last t g (Call u ∷ ws) lt all = let most = all.0 in (omega (arith, lt, most), most_last t g ws lt all.1)
most_last t g (Copy consumer ticket key ∷ ws) lt all = most_last t g ws lt all

pub most_copy : (consumer ticket key g : ℕ) (ws : List Taker) → AreAtMost g ws → AreAtMost g (ws ++ Copy consumer ticket key ∷ [])
most_copy consumer ticket key g [] all = tt
most_copy consumer ticket key g (Call u ∷ ws) all = (all.0, most_copy consumer ticket key g ws all.1)
most_copy consumer ticket key g (Copy other made more ∷ ws) all = most_copy consumer ticket key g ws all

pub most_placed : (t g : ℕ) (ws : List Taker) → t ≤ g → AreAtMost g ws → AreAtMost g (placed t ws)
most_placed t g [] le all = (le, tt)
most_placed t g (Copy consumer ticket key ∷ ws) le all = most_placed t g ws le all
most_placed t g (Call u ∷ ws) le all = by (nat_lt t u) (t == u) (most_placed t g ws le all.1)
  where
    by : (a b : Bool) → AreAtMost g (placed t ws)
        → AreAtMost g (match_ordering (cond a Less (cond b Equal Greater)) (Call t ∷ Call u ∷ ws) (Call u ∷ ws) (Call u ∷ placed t ws))
    by true b more = (le, all)
    by false true more = all
    by false false more = (all.0, more)

pub most_either : {A E : Type 0} (r : Result A E) (t g : ℕ) (old new : List Taker) → t ≤ g → AreAtMost g old →
    OnOk r (new ≡ placed t old) → OnErr r (new ≡ old) → AreAtMost g new
most_either (Ok a) t g old new le all ok err = subst (AreAtMost g) (sym ok) (most_placed t g old le all)
most_either (Err e) t g old new le all ok err = subst (AreAtMost g) (sym err) all
