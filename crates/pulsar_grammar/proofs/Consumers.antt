-- Words of a consumer that are read one after the other.
use Rattle.std.proofs.Common.{◌≡◌, ◌∙◌, sym, ℕ, ◌+◌, ◌<◌, List, [], ◌∷◌, ◌++◌, refl, map, take, drop, get_or, length, append_assoc, Option, Some, None, ap}
use Rattle.std.proofs.lemmas.List.{map-append, take-append-drop}
use Rattle.pulsar_wire.specs.Field.{◌>>=◌}
use Rattle.pulsar_grammar.specs.ConsumerWords.{Draft, all, blank, one}
use Rattle.pulsar_calls.proofs.Fronts.{take_more}

on-first : (d : Draft) (w : List ℕ) (ws vs : List (List ℕ)) (o : Option Draft) → one d w ≡ o → ((e : Draft) → all e (ws ++ vs) ≡ (all e ws >>= λ f. all f vs)) →
    all d (w ∷ (ws ++ vs)) ≡ (all d (w ∷ ws) >>= λ f. all f vs)
on-first d w ws vs None h more = rw h refl
on-first d w ws vs (Some e) h more = rw h (more e)

-- words, and then further ones
all_on : (d : Draft) (ws vs : List (List ℕ)) → all d (ws ++ vs) ≡ (all d ws >>= λ e. all e vs)
all_on d [] vs = refl
all_on d (w ∷ ws) vs = on-first d w ws vs (one d w) refl (λ e. all_on e ws vs)

with-last : (x : Draft) (w : List ℕ) (o : Option Draft) → o ≡ one x w → o ≡ all x (w ∷ [])
with-last x w None h = ap (λ o. o >>= λ e. all e []) h
with-last x w (Some e) h = ap (λ o. o >>= λ e. all e []) h

-- a word more is taken
word_taken : (ws : List (List ℕ)) (w : List ℕ) (x y : Draft) → Some x ≡ all blank ws → Some y ≡ one x w → Some y ≡ all blank (ws ++ w ∷ [])
word_taken ws w x y so is = with-last x w (Some y) is ∙ ap (λ o. o >>= λ e. all e (w ∷ [])) so ∙ sym (all_on blank ws (w ∷ []))

-- a word that is refused refuses all
word_refused : (ws : List (List ℕ)) (w : List ℕ) (vs : List (List ℕ)) (x : Draft) → Some x ≡ all blank ws → None ≡ one x w → None ≡ all blank (ws ++ w ∷ vs)
word_refused ws w vs x so is = ap (λ o. o >>= λ e. all e vs) is ∙ ap (λ o. o >>= λ e. all e (w ∷ vs)) so ∙ sym (all_on blank ws (w ∷ vs))

-- the words of a list, by their bytes
module _ {X : Type 0} (now : X → List ℕ) where
  apart : (ws : List X) (k : ℕ) (d : X) → k < length ws → take k ws ++ get_or ws k d ∷ drop (k + 1) ws ≡ ws
  apart ws k d lt =
      sym (append_assoc (take k ws) (get_or ws k d ∷ []) (drop (k + 1) ws)) ∙ ap (λ t. t ++ drop (k + 1) ws) (take_more ws k d lt)
      ∙ take-append-drop (k + 1) ws

  pub next_taken : (ws : List X) (k : ℕ) (d : X) (x y : Draft) → k < length ws → Some x ≡ all blank (map now (take k ws)) → Some y ≡ one x (now (get_or ws k d)) →
      Some y ≡ all blank (map now (take (k + 1) ws))
  next_taken ws k d x y lt so is =
      word_taken (map now (take k ws)) (now (get_or ws k d)) x y so is
      ∙ ap (all blank) (sym (map-append now (take k ws) (get_or ws k d ∷ [])) ∙ ap (map now) (take_more ws k d lt))

  pub next_refused : (ws : List X) (k : ℕ) (d : X) (x : Draft) → k < length ws → Some x ≡ all blank (map now (take k ws)) → None ≡ one x (now (get_or ws k d)) →
      None ≡ all blank (map now ws)
  next_refused ws k d x lt so is =
      word_refused (map now (take k ws)) (now (get_or ws k d)) (map now (drop (k + 1) ws)) x so is
      ∙ ap (all blank) (sym (map-append now (take k ws) (get_or ws k d ∷ drop (k + 1) ws)) ∙ ap (map now) (apart ws k d lt))
