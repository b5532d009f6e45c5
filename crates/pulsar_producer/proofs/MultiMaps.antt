-- The topics of a producer of many topics as the code keeps them: by texts.
use Rattle.std.proofs.Common.{◌≡◌, ◌∙◌, sym, ap, refl, ℕ, bytes_eq, Bool, true, false, cond, List, [], ◌∷◌, map, Some, None}
use Rattle.std.proofs.lemmas.Map.Text.{is_eq-slice_cmp}
use Rattle.std.specs.BTreeMap.{insert_entry, is_at}
use Rattle.std.specs.Cmp.Lexicographic.{slice_cmp}
use Rattle.std.specs.Map.{lookup, remove_entry, set_value}
use Rattle.std.specs.Ordering.{match_ordering, nat_cmp}
use Rattle.std.specs.Prelude.{String, string_bytes}
use Rattle.std.specs.declared.cmp.Ordering.{Ordering}
use Rattle.std.specs.declared.cmp.Ordering.TheVariants.{Less, Equal, Greater}
use Rattle.pulsar_messages.specs.Content.{ProducerMessageValues}
use Rattle.pulsar_producer.specs.MultiKept.{named}
use Rattle.pulsar_producer.specs.MultiTopic.{found, joined, removed, routed}
use Rattle.pulsar_producer.specs.Producer as producer

abbrev Kept : (Z : Type 0) → Type 0
Kept Z = List (String Z × producer.Seen)

module _ {Z : Type 0} where
  abbrev at_text : List ℕ → String Z → Bool
  at_text t k = is_at (λ s. slice_cmp nat_cmp t (string_bytes s)) k

  at_is : (t : List ℕ) (k : String Z) → at_text t k ≡ bytes_eq t (string_bytes k)
  at_is t k = is_eq-slice_cmp t (string_bytes k)

  pub found_is : (t : List ℕ) (es : Kept Z) → lookup (at_text t) es ≡ found t (map named es)
  found_is t [] = refl
  found_is t (e ∷ es) =
      ap (λ b. cond b (Some e.1) (lookup (at_text t) es)) (at_is t e.0)
      ∙ ap (λ p. cond (bytes_eq t (string_bytes e.0)) (Some e.1) p) (found_is t es)

  removed_if : (b : Bool) (e : String Z × producer.Seen) (es more : Kept Z) →
      map named (cond b es (e ∷ more)) ≡ cond b (map named es) (named e ∷ map named more)
  removed_if true e es more = refl
  removed_if false e es more = refl

  pub removed_is : (t : List ℕ) (es : Kept Z) → map named (remove_entry (at_text t) es) ≡ removed t (map named es)
  removed_is t [] = refl
  removed_is t (e ∷ es) =
      removed_if (at_text t e.0) e es (remove_entry (at_text t) es)
      ∙ ap (λ b. cond b (map named es) (named e ∷ map named (remove_entry (at_text t) es))) (at_is t e.0)
      ∙ ap (λ more. cond (bytes_eq t (string_bytes e.0)) (map named es) (named e ∷ more)) (removed_is t es)

  put_by : (k : String Z) (v : producer.Seen) (o : Ordering) (e : String Z × producer.Seen) (es more : Kept Z) →
      map named (match_ordering o ((k, v) ∷ e ∷ es) ((e.0, v) ∷ es) (e ∷ more))
      ≡ match_ordering o ((string_bytes k, v) ∷ named e ∷ map named es) ((string_bytes e.0, v) ∷ map named es) (named e ∷ map named more)
  put_by k v Less e es more = refl
  put_by k v Equal e es more = refl
  put_by k v Greater e es more = refl

  pub put_is : (k : String Z) (v : producer.Seen) (es : Kept Z) →
      map named (insert_entry (λ a b. slice_cmp nat_cmp (string_bytes a) (string_bytes b)) es k v) ≡ joined (string_bytes k) v (map named es)
  put_is k v [] = refl
  put_is k v (e ∷ es) =
      put_by k v (slice_cmp nat_cmp (string_bytes k) (string_bytes e.0)) e es _
      ∙ ap (λ more. match_ordering (slice_cmp nat_cmp (string_bytes k) (string_bytes e.0)) ((string_bytes k, v) ∷ named e ∷ map named es)
      ((string_bytes e.0, v) ∷ map named es) (named e ∷ more)) (put_is k v es)

  -- the producer that is found has routed a message
  pub routed_is : (t : List ℕ) (m : ProducerMessageValues) (w p : producer.Seen) (es : Kept Z) → lookup (at_text t) es ≡ Some p → w ≡ producer.after m p
      → map named (set_value (at_text t) es w) ≡ routed t m (map named es)
  routed_is t m w p [] there is = refl
  routed_is t m w p (e ∷ es) there is = by (at_text t e.0) refl there (λ later. routed_is t m w p es later is)
    where
      by : (b : Bool) → at_text t e.0 ≡ b → cond b (Some e.1) (lookup (at_text t) es) ≡ Some p
          → (lookup (at_text t) es ≡ Some p → map named (set_value (at_text t) es w) ≡ routed t m (map named es))
          → map named (cond b ((e.0, w) ∷ es) (e ∷ set_value (at_text t) es w)) ≡ routed t m (named e ∷ map named es)
      by true at same more =
          let one : e.1 ≡ p = cc in
          ap (λ q. (string_bytes e.0, q) ∷ map named es) (is ∙ ap (producer.after m) (sym one))
          ∙ ap (λ b. cond b ((string_bytes e.0, producer.after m e.1) ∷ map named es) (named e ∷ routed t m (map named es))) (sym at ∙ at_is t e.0)
      by false at same more =
          ap (λ ts. named e ∷ ts) (more same)
          ∙ ap (λ b. cond b ((string_bytes e.0, producer.after m e.1) ∷ map named es) (named e ∷ routed t m (map named es))) (sym at ∙ at_is t e.0)

  -- where none is found nothing changes
  pub routed_none : (t : List ℕ) (m : ProducerMessageValues) (es : Kept Z) → lookup (at_text t) es ≡ None → map named es ≡ routed t m (map named es)
  routed_none t m [] there = refl
  routed_none t m (e ∷ es) there = by (at_text t e.0) refl there (λ later. routed_none t m es later)
    where
      by : (b : Bool) → at_text t e.0 ≡ b → cond b (Some e.1) (lookup (at_text t) es) ≡ None
          → (lookup (at_text t) es ≡ None → map named es ≡ routed t m (map named es)) → named e ∷ map named es ≡ routed t m (named e ∷ map named es)
      by true at same more = absurd cc
      by false at same more =
          ap (λ ts. named e ∷ ts) (more same)
          ∙ ap (λ b. cond b ((string_bytes e.0, producer.after m e.1) ∷ map named es) (named e ∷ routed t m (map named es))) (sym at ∙ at_is t e.0)
