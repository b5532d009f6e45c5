-- Words of a producer, and messages, that are read one after the other.
use Rattle.std.proofs.Common.{◌≡◌, ◌∙◌, sym, ℕ, Bool, true, false, List, [], ◌∷◌, ◌++◌, refl, map, Option, Some, None, ap}
use Rattle.std.specs.List.{onto_first, slice_split}
use Rattle.std.specs.Prelude.{codes, Vec, Result, Ok, Err, IfOk}
use Rattle.std.specs.Str.{bytes_eq}
use Rattle.pulsar_wire.specs.Field.{◌>>=◌}
use Rattle.pulsar_messages.specs.Content.{ProducerMessageValues}
use Rattle.pulsar_grammar.specs.MessageWords.{all_messages, parts, with_message}
use Rattle.pulsar_grammar.specs.ProducerWords.{Draft, all, one, with_word}

one-more : (d : Draft) (w : List ℕ) (e : Option Draft) → one d w ≡ e → all d (w ∷ []) ≡ one d w
one-more d w None h = rw h refl
one-more d w (Some e) h = rw h refl

more-next : (d : Draft) (x : List ℕ) (xs : List (List ℕ)) (w : List ℕ) (e : Option Draft) → one d x ≡ e →
    ((f : Draft) → all f (xs ++ w ∷ []) ≡ (all f xs >>= λ g. one g w)) → all d (x ∷ (xs ++ w ∷ [])) ≡ (all d (x ∷ xs) >>= λ g. one g w)
more-next d x xs w None h more = rw h refl
more-next d x xs w (Some f) h more = rw h (more f)

-- one word more
all_more : (d : Draft) (ws : List (List ℕ)) (w : List ℕ) → all d (ws ++ w ∷ []) ≡ (all d ws >>= λ e. one e w)
all_more d [] w = one-more d w (one d w) refl
all_more d (x ∷ xs) w = more-next d x xs w (one d x) refl (λ f. all_more f xs w)

-- a word more is read
pub all_step : (d : Draft) (ws : List (List ℕ)) (w : List ℕ) (x y : Option Draft) → x ≡ all d ws → y ≡ with_word x w → y ≡ all d (ws ++ w ∷ [])
all_step d ws w x y so is = is ∙ ap (λ z. with_word z w) so ∙ sym (all_more d ws w)

-- a message more is read
messages_more : (ms : Option (List ProducerMessageValues)) (parts : List (List (List ℕ))) (p : List (List ℕ)) → all_messages ms (parts ++ p ∷ []) ≡ with_message (all_messages ms parts) p
messages_more ms [] p = refl
messages_more ms (x ∷ xs) p = messages_more (with_message ms x) xs p

pub messages_step : (ms : Option (List ProducerMessageValues)) (parts : List (List (List ℕ))) (p : List (List ℕ)) (x y : Option (List ProducerMessageValues)) → x ≡ all_messages ms parts → y ≡ with_message x p → y ≡ all_messages ms (parts ++ p ∷ [])
messages_step ms parts p x y so is = is ∙ ap (λ z. with_message z p) so ∙ sym (messages_more ms parts p)

-- a list that is cut, seen by a function
module _ {A B : Type 0} (f : A → B) (p : B → Bool) where
  onto-seen : (x : A) (parts : List (List A)) → map (map f) (onto_first x parts) ≡ onto_first (f x) (map (map f) parts)
  onto-seen x [] = refl
  onto-seen x (part ∷ parts) = refl

  split-next : (x : A) (xs : List A) (b : Bool) → p (f x) ≡ b → map (map f) (slice_split (λ y. p (f y)) xs) ≡ slice_split p (map f xs) →
      map (map f) (slice_split (λ y. p (f y)) (x ∷ xs)) ≡ slice_split p (map f (x ∷ xs))
  split-next x xs true h more = rw h (ap (λ (parts : List (List B)). [] ∷ parts) more)
  split-next x xs false h more = rw h (onto-seen x (slice_split (λ y. p (f y)) xs) ∙ ap (onto_first (f x)) more)

  pub split-seen : (xs : List A) → map (map f) (slice_split (λ y. p (f y)) xs) ≡ slice_split p (map f xs)
  split-seen [] = refl
  split-seen (x ∷ xs) = split-next x xs (p (f x)) refl (split-seen xs)

pub map-twice : {A B D : Type 0} (f : A → B) (g : B → D) (xs : List A) → map (λ x. g (f x)) xs ≡ map g (map f xs)
map-twice f g [] = refl
map-twice f g (x ∷ xs) = ap (λ ys. g (f x) ∷ ys) (map-twice f g xs)

-- words that were cut at each `/`
pub parts-seen : {P A Z E : Type 0} (now : P → List A) (see : A → List ℕ) (ws : List A) (r : Result (Vec P Z) E) →
    IfOk r (λ v. map now v.items ≡ slice_split (λ w. bytes_eq (see w) (codes "/")) ws) → IfOk r (λ v. map (λ p. map see (now p)) v.items ≡ parts (map see ws))
parts-seen now see ws (Ok v) h = map-twice now (map see) v.items ∙ ap (map (map see)) h ∙ split-seen see (λ w. bytes_eq w (codes "/")) ws
parts-seen now see ws (Err e) h = tt
