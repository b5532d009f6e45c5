-- The properties of a copy, as they are put into a map one by one.
use Rattle.std.proofs.Common.{◌≡◌, ◌∙◌, ap, sym, refl, ℕ, Bool, true, false, cond, List, [], ◌∷◌, ◌++◌, map, String, Global, string_bytes}
use Rattle.std.specs.BTreeMap.{insert_entry, is_at}
use Rattle.std.specs.Cmp.Lexicographic.{slice_cmp}
use Rattle.std.specs.Map.{lookup}
use Rattle.std.specs.Option.{is_some}
use Rattle.std.specs.Ordering.{nat_cmp}
use Rattle.std.specs.declared.cmp.Ordering.{Ordering}
use Rattle.std.specs.declared.cmp.Ordering.TheVariants.{Less, Equal, Greater}
use Rattle.std.proofs.lemmas.List.{map-append}
use Rattle.pulsar_wire.specs.Row.{Values}
use Rattle.pulsar_wire.specs.Rows.{key_value}
use Rattle.pulsar_wire.specs.Views.{key_value_values}
use Rattle.pulsar_wire.specs.declared.commands.metadata.KeyValue.{KeyValue}
use Rattle.pulsar_frame.specs.Batch.{◌▸◌}
use Rattle.pulsar_messages.specs.Content.{Property, property}
use Rattle.pulsar_consumer.specs.DeadLetters.{has_property, with_absent, with_properties, with_property}

-- a property stands in its place, whether its texts are seen before or after
abbrev pub by_text : {Z : Type 0} → String Z → String Z → Ordering
by_text a b = slice_cmp nat_cmp (string_bytes a) (string_bytes b)

inserted_next : {Z : Type 0} (k v : String Z) (e : String Z × String Z) (es : List (String Z × String Z)) (o : Ordering) → by_text k e.0 ≡ o →
    map property (insert_entry by_text es k v) ≡ with_property (string_bytes k) (string_bytes v) (map property es) →
    map property (insert_entry by_text (e ∷ es) k v) ≡ with_property (string_bytes k) (string_bytes v) (map property (e ∷ es))
inserted_next k v e es Less h more = rw h refl
inserted_next k v e es Equal h more = rw h refl
inserted_next k v e es Greater h more = rw h (ap (λ t. property e ∷ t) more)

pub property_inserted : {Z : Type 0} (k v : String Z) (es : List (String Z × String Z)) →
    map property (insert_entry by_text es k v) ≡ with_property (string_bytes k) (string_bytes v) (map property es)
property_inserted k v [] = refl
property_inserted k v (e ∷ es) = inserted_next k v e es (by_text k e.0) refl (property_inserted k v es)

-- a property whose texts have these bytes is put
pub put_one : {Z : Type 0} (k v : String Z) (name value : List ℕ) (es more : List (String Z × String Z)) → more ≡ insert_entry by_text es k v →
    string_bytes k ≡ name → string_bytes v ≡ value → map property more ≡ with_property name value (map property es)
put_one k v name value es more is n w =
    ap (λ xs. map property xs) is
    ∙ property_inserted k v es
    ∙ ap (λ x. with_property x (string_bytes v) (map property es)) n
    ∙ ap (λ x. with_property name x (map property es)) w

-- whether there is one of a name
found_next : {Z : Type 0} (name : List ℕ) (e : String Z × String Z) (es : List (String Z × String Z)) (b : Bool) →
    is_at (slice_cmp nat_cmp name) (string_bytes e.0) ≡ b →
    is_some (lookup (is_at (λ k. slice_cmp nat_cmp name (string_bytes k))) es) ≡ has_property name (map property es) →
    is_some (lookup (is_at (λ k. slice_cmp nat_cmp name (string_bytes k))) (e ∷ es)) ≡ has_property name (map property (e ∷ es))
found_next name e es true h more = rw h refl
found_next name e es false h more = rw h more

pub property_found : {Z : Type 0} (name : List ℕ) (es : List (String Z × String Z)) →
    is_some (lookup (is_at (λ k. slice_cmp nat_cmp name (string_bytes k))) es) ≡ has_property name (map property es)
property_found name [] = refl
property_found name (e ∷ es) = found_next name e es (is_at (slice_cmp nat_cmp name) (string_bytes e.0)) refl (property_found name es)

-- one more is put behind the others
pub put_more : (xs : List (Values key_value)) (x : Values key_value) (ps : List Property) →
    with_properties (xs ++ x ∷ []) ps ≡ with_property x.0 x.1.0 (with_properties xs ps)
put_more [] (name ▸ value ▸ end) ps = refl
put_more ((name ▸ value ▸ end) ∷ xs) x ps = put_more xs x (with_property name value ps)

pub put_next : (yielded : List KeyValue) (x : KeyValue) (more es : List (String Global × String Global)) (old : List Property) →
    map property es ≡ with_properties (map key_value_values yielded) old →
    map property more ≡ with_property (string_bytes x.key) (string_bytes x.value) (map property es) →
    map property more ≡ with_properties (map key_value_values (yielded ++ x ∷ [])) old
unfolding key_value_values
put_next yielded x more es old so one =
    one
    ∙ ap (λ ps. with_property (string_bytes x.key) (string_bytes x.value) ps) so
    ∙ sym (put_more (map key_value_values yielded) (key_value_values x) old)
    ∙ ap (λ xs. with_properties xs old) (sym (map-append key_value_values yielded (x ∷ [])))

-- a property that stands already is left as it is, and another is put
pub left_as_is : {Z : Type 0} (name value : List ℕ) (es : List (String Z × String Z)) →
    is_some (lookup (is_at (λ k. slice_cmp nat_cmp name (string_bytes k))) es) ≡ true → map property es ≡ with_absent name value (map property es)
left_as_is name value es h =
    sym (ap (λ b. cond b (map property es) (with_property name value (map property es))) (sym (property_found name es) ∙ h))

pub put_where_absent : {Z : Type 0} (name value : List ℕ) (k v : String Z) (es : List (String Z × String Z)) → string_bytes k ≡ name → string_bytes v ≡ value →
    is_some (lookup (is_at (λ k. slice_cmp nat_cmp name (string_bytes k))) es) ≡ false →
    map property (insert_entry by_text es k v) ≡ with_absent name value (map property es)
put_where_absent name value k v es n w h =
    property_inserted k v es
    ∙ ap (λ x. with_property x (string_bytes v) (map property es)) n
    ∙ ap (λ x. with_property name x (map property es)) w
    ∙ sym (ap (λ b. cond b (map property es) (with_property name value (map property es))) (sym (property_found name es) ∙ h))
