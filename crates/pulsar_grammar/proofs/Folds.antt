-- Words that are read one after the other.
use Rattle.std.proofs.Common.{◌≡◌, ◌∙◌, sym, ℕ, List, [], ◌∷◌, ◌++◌, refl, map, Option, Some, None, ap, String, string_bytes, ◌+◌}
use Rattle.pulsar_wire.specs.Field.{◌>>=◌}
use Rattle.pulsar_wire.specs.Row.{each}
use Rattle.std.specs.BTreeMap.{insert_entry}
use Rattle.std.specs.Cmp.Lexicographic.{slice_cmp}
use Rattle.std.specs.Ordering.{nat_cmp}
use Rattle.std.specs.declared.cmp.Ordering.{Ordering}
use Rattle.std.specs.declared.cmp.Ordering.TheVariants.{Less, Equal, Greater}
use Rattle.pulsar_wire.specs.Row.{Values}
use Rattle.pulsar_wire.specs.Rows.{message_id}
use Rattle.pulsar_messages.specs.Content.{property}
use Rattle.pulsar_grammar.specs.MessageWords.{Draft, all, one, with_word}
use Rattle.pulsar_grammar.specs.Encoded.{id}
use Rattle.pulsar_grammar.specs.RawLines.{with_id}

one-more : (d : Draft) (w : List ℕ) (e : Option Draft) → one d w ≡ e → all d (w ∷ []) ≡ one d w
one-more d w None h = rw h refl
one-more d w (Some e) h = rw h refl

more-next : (d : Draft) (x : List ℕ) (xs : List (List ℕ)) (w : List ℕ) (e : Option Draft) → one d x ≡ e →
    ((f : Draft) → all f (xs ++ w ∷ []) ≡ (all f xs >>= λ g. one g w)) → all d (x ∷ (xs ++ w ∷ [])) ≡ (all d (x ∷ xs) >>= λ g. one g w)
more-next d x xs w None h more = rw h refl
more-next d x xs w (Some f) h more = rw h (more f)

-- one word more of a message
pub all_more : (d : Draft) (ws : List (List ℕ)) (w : List ℕ) → all d (ws ++ w ∷ []) ≡ (all d ws >>= λ e. one e w)
all_more d [] w = one-more d w (one d w) refl
all_more d (x ∷ xs) w = more-next d x xs w (one d x) refl (λ f. all_more f xs w)

-- one item more of a list
module _ {A B : Type 0} (f : A → Option B) where
  each-next : (y z : Option B) (ys more : Option (List B)) → more ≡ (ys >>= λ ys. z >>= λ z. Some (ys ++ z ∷ [])) →
      (y >>= λ y. more >>= λ more. Some (y ∷ more)) ≡ ((y >>= λ y. ys >>= λ ys. Some (y ∷ ys)) >>= λ ys. z >>= λ z. Some (ys ++ z ∷ []))
  each-next None z ys more h = refl
  each-next (Some y) None None more h = rw h refl
  each-next (Some y) None (Some ys) more h = rw h refl
  each-next (Some y) (Some z) None more h = rw h refl
  each-next (Some y) (Some z) (Some ys) more h = rw h refl

  last : (y : Option B) → (y >>= λ y. Some (y ∷ [])) ≡ (y >>= λ y. Some ([] ++ y ∷ []))
  last None = refl
  last (Some y) = refl

  pub each_more : (xs : List A) (x : A) → each f (xs ++ x ∷ []) ≡ (each f xs >>= λ ys. f x >>= λ y. Some (ys ++ y ∷ []))
  each_more [] x = last (f x)
  each_more (z ∷ zs) x = each-next (f z) (f x) (each f zs) (each f (zs ++ x ∷ [])) (each_more zs x)

-- a word more is read
pub all_step : (d : Draft) (ws : List (List ℕ)) (w : List ℕ) (x y : Option Draft) → x ≡ all d ws → y ≡ with_word x w → y ≡ all d (ws ++ w ∷ [])
all_step d ws w x y so is = is ∙ ap (λ z. with_word z w) so ∙ sym (all_more d ws w)

pub ids_step : (ws : List (List ℕ)) (w : List ℕ) (x y : Option (List (Values message_id))) → x ≡ each id ws → y ≡ with_id x w → y ≡ each id (ws ++ w ∷ [])
ids_step ws w x y so is = is ∙ ap (λ z. with_id z w) so ∙ sym (each_more id ws w)

-- a property stands in its place, whether its texts are seen before or after
abbrev pub by_text : {Z : Type 0} → String Z → String Z → Ordering
by_text a b = slice_cmp nat_cmp (string_bytes a) (string_bytes b)

inserted-next : {Z : Type 0} (k v : String Z) (e : String Z × String Z) (es : List (String Z × String Z)) (o : Ordering) → by_text k e.0 ≡ o →
    map property (insert_entry by_text es k v) ≡ insert_entry (slice_cmp nat_cmp) (map property es) (string_bytes k) (string_bytes v) →
    map property (insert_entry by_text (e ∷ es) k v) ≡ insert_entry (slice_cmp nat_cmp) (map property (e ∷ es)) (string_bytes k) (string_bytes v)
inserted-next k v e es Less h more = rw h refl
inserted-next k v e es Equal h more = rw h refl
inserted-next k v e es Greater h more = rw h (ap (λ t. property e ∷ t) more)

pub property_inserted : {Z : Type 0} (k v : String Z) (es : List (String Z × String Z)) →
    map property (insert_entry by_text es k v) ≡ insert_entry (slice_cmp nat_cmp) (map property es) (string_bytes k) (string_bytes v)
property_inserted k v [] = refl
property_inserted k v (e ∷ es) = inserted-next k v e es (by_text k e.0) refl (property_inserted k v es)
