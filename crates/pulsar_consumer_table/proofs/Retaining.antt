-- All consumers are changed where they stand.
use Rattle.std.proofs.Common.{◌≡◌, ◌∙◌, ◌∷◌, ℕ, ap, Bool, true, false, cond, List, [], Option, Some}
use Rattle.std.specs.Map.{keys_of, lookup}
use Rattle.std.specs.Map.Calls.{RetainsPairs}
use Rattle.std.specs.Option.{option_map}
use Rattle.pulsar_consumer_table.specs.declared.row.ConsumerRow.{ConsumerRow}
use Rattle.pulsar_consumer_table.specs.Consumers.{Member}
use Rattle.pulsar_consumer_table.specs.KeptConsumers.{member_in}

-- a closure that answers `true`, and changes what is seen of each
module _ {F : Type 0} (T : F → ℕ → ConsumerRow → Bool → ConsumerRow → F → Type 0) (g : Member → Member)
    (does : (f : F) (k : ℕ) (v : ConsumerRow) (b : Bool) (w : ConsumerRow) (f' : F) → T f k v b w f' → (b ≡ true) × (member_in w ≡ g (member_in v))) where
  pub keys_stay : (f : F) (es kept : List (ℕ × ConsumerRow)) → RetainsPairs T f es kept → keys_of kept ≡ keys_of es
  keys_stay f [] kept r = ap keys_of r
  keys_stay f (e ∷ es) kept r =
      let here = does f e.0 e.1 r.0 r.1 r.2 r.4 in
      ap keys_of (r.6 ∙ ap (λ b. cond b ((e.0, r.1) ∷ r.3) r.3) here.0) ∙ ap (λ ks. e.0 ∷ ks) (keys_stay r.2 es r.3 r.5)

  changed_by : (v w : ConsumerRow) (old new : Option ConsumerRow) → member_in w ≡ g (member_in v) →
      option_map member_in new ≡ option_map g (option_map member_in old) → (b : Bool) →
      option_map member_in (cond b (Some w) new) ≡ option_map g (option_map member_in (cond b (Some v) old))
  changed_by v w old new here others true = ap Some here
  changed_by v w old new here others false = others

  pub each_changed : (test : ℕ → Bool) (f : F) (es kept : List (ℕ × ConsumerRow)) → RetainsPairs T f es kept →
      option_map member_in (lookup test kept) ≡ option_map g (option_map member_in (lookup test es))
  each_changed test f [] kept r = ap (λ xs. option_map member_in (lookup test xs)) r
  each_changed test f (e ∷ es) kept r =
      let here = does f e.0 e.1 r.0 r.1 r.2 r.4 in
      ap (λ xs. option_map member_in (lookup test xs)) (r.6 ∙ ap (λ b. cond b ((e.0, r.1) ∷ r.3) r.3) here.0)
      ∙ changed_by e.1 r.1 (lookup test es) (lookup test r.3) here.1 (each_changed test r.2 es r.3 r.5) (test e.0)
