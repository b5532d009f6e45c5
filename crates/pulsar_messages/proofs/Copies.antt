-- Properties, copied.
use Rattle.std.proofs.Common.{◌≡◌, List, [], ◌∷◌, refl, map, string_bytes, String}
use Rattle.std.specs.List.{AllZip}
use Rattle.pulsar_messages.specs.Content.{property}

-- entries whose keys and values have the same bytes are the same properties
pub properties_copied : {Z : Type 0} (xs ys : List (String Z × String Z))
    → AllZip (λ p q. (string_bytes q.0 ≡ string_bytes p.0) × (string_bytes q.1 ≡ string_bytes p.1)) xs ys
    → map property ys ≡ map property xs
properties_copied [] [] h = refl
properties_copied [] (y ∷ ys) h = absurd h
properties_copied (x ∷ xs) [] h = absurd h
properties_copied (x ∷ xs) (y ∷ ys) h = λ i. (h.0.0 i, h.0.1 i) ∷ properties_copied xs ys h.1 i
