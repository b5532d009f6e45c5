-- Properties in the order of their keys, by their bytes.
use Rattle.std.proofs.Common.{◌≡◌, ap, refl, ℕ, List, [], ◌∷◌, map}
use Rattle.std.specs.BTreeMap.{insert_entry}
use Rattle.std.specs.Cmp.Lexicographic.{slice_cmp}
use Rattle.std.specs.Ordering.{match_ordering, nat_cmp}
use Rattle.std.specs.Prelude.{String, string_bytes}
use Rattle.std.specs.declared.cmp.Ordering.{Ordering}
use Rattle.std.specs.declared.cmp.Ordering.TheVariants.{Less, Equal, Greater}
use Rattle.pulsar_messages.specs.Content.{property}
use Rattle.pulsar_messages.specs.Message.{put_property}

module _ {Z : Type 0} (k v : String Z) where
  by_order : (o : Ordering) (e : String Z × String Z) (es more : List (String Z × String Z)) (puts : List (List ℕ × List ℕ)) → map property more ≡ puts
      → map property (match_ordering o ((k, v) ∷ e ∷ es) ((e.0, v) ∷ es) (e ∷ more))
      ≡ match_ordering o (property (k, v) ∷ property e ∷ map property es) ((string_bytes e.0, string_bytes v) ∷ map property es) (property e ∷ puts)
  by_order Less e es more puts h = refl
  by_order Equal e es more puts h = refl
  by_order Greater e es more puts h = ap (λ x. property e ∷ x) h

  pub property_put : (es : List (String Z × String Z)) → map property (insert_entry (λ a b. slice_cmp nat_cmp (string_bytes a) (string_bytes b)) es k v) ≡ put_property (string_bytes k) (string_bytes v) (map property es)
  property_put [] = refl
  property_put (e ∷ es) = by_order (slice_cmp nat_cmp (string_bytes k) (string_bytes e.0)) e es _ _ (property_put es)
