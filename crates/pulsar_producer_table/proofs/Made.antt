-- The producers of many topics as the code keeps them: by tickets.
use Rattle.std.proofs.Common.{◌≡◌, ◌∙◌, ◌==◌, sym, ap, refl, ℕ, Bool, true, false, cond, List, [], ◌∷◌, Some, None}
use Rattle.std.specs.BTreeMap.{is_at}
use Rattle.std.specs.Map.{lookup, set_value}
use Rattle.std.specs.Ordering.{nat_cmp}
use Rattle.pulsar_requests.proofs.Awaiting.{is_at-eqb}
use Rattle.pulsar_producer.specs.MultiTopic as multi
use Rattle.pulsar_producer.specs.MultiTopic.{Act, Seen}
use Rattle.pulsar_producer_table.specs.Multis.{made_by, made_changed}

abbrev Kept : Type 0
Kept = List (ℕ × Seen)

abbrev at_ticket : ℕ → ℕ → Bool
at_ticket t k = is_at (nat_cmp t) k

-- one is found
pub made_is : (t : ℕ) (es : Kept) → lookup (at_ticket t) es ≡ made_by t es
made_is t [] = refl
made_is t (e ∷ es) =
    ap (λ b. cond b (Some e.1) (lookup (at_ticket t) es)) (is_at-eqb t e.0)
    ∙ ap (λ p. cond (t == e.0) (Some e.1) p) (made_is t es)

-- and something is done to it
pub changed_is : (t : ℕ) (act : Act) (w p : Seen) (es : Kept) → lookup (at_ticket t) es ≡ Some p → w ≡ multi.after act p
    → set_value (at_ticket t) es w ≡ made_changed t act es
changed_is t act w p [] there is = refl
changed_is t act w p (e ∷ es) there is = by (at_ticket t e.0) refl there (λ later. changed_is t act w p es later is)
  where
    by : (b : Bool) → at_ticket t e.0 ≡ b → cond b (Some e.1) (lookup (at_ticket t) es) ≡ Some p
        → (lookup (at_ticket t) es ≡ Some p → set_value (at_ticket t) es w ≡ made_changed t act es)
        → cond b ((e.0, w) ∷ es) (e ∷ set_value (at_ticket t) es w) ≡ made_changed t act (e ∷ es)
    by true at same more =
        let one : e.1 ≡ p = cc in
        ap (λ q. (e.0, q) ∷ es) (is ∙ ap (multi.after act) (sym one))
        ∙ ap (λ b. cond b ((e.0, multi.after act e.1) ∷ es) (e ∷ made_changed t act es)) (sym at ∙ is_at-eqb t e.0)
    by false at same more =
        ap (λ ts. e ∷ ts) (more same)
        ∙ ap (λ b. cond b ((e.0, multi.after act e.1) ∷ es) (e ∷ made_changed t act es)) (sym at ∙ is_at-eqb t e.0)

-- where there is none nothing changes
pub unchanged : (t : ℕ) (act : Act) (es : Kept) → lookup (at_ticket t) es ≡ None → es ≡ made_changed t act es
unchanged t act [] there = refl
unchanged t act (e ∷ es) there = by (at_ticket t e.0) refl there (λ later. unchanged t act es later)
  where
    by : (b : Bool) → at_ticket t e.0 ≡ b → cond b (Some e.1) (lookup (at_ticket t) es) ≡ None
        → (lookup (at_ticket t) es ≡ None → es ≡ made_changed t act es) → e ∷ es ≡ made_changed t act (e ∷ es)
    by true at same more = absurd cc
    by false at same more =
        ap (λ ts. e ∷ ts) (more same)
        ∙ ap (λ b. cond b ((e.0, multi.after act e.1) ∷ es) (e ∷ made_changed t act es)) (sym at ∙ is_at-eqb t e.0)
