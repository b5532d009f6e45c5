-- Lists that are printed one item after the other.
use Rattle.std.proofs.Common.{◌≡◌, ◌∙◌, sym, ℕ, List, [], ◌∷◌, ◌++◌, map, ap, codes, append_assoc, append-nil, ◌+◌}
use Rattle.std.specs.Fmt.{decimal}
use Rattle.std.specs.List.{flat_map}
use Rattle.pulsar_wire.specs.Views.{body_values}
use Rattle.pulsar_wire.specs.declared.commands.base.Body.{Body}
use Rattle.pulsar_exchange.specs.Messages.{body_bytes, written}
use Rattle.pulsar_printing.specs.WordText.{hex}

-- a body more is printed
pub replies_more : (out0 out new : List ℕ) (n : ℕ) (bs : List Body) (b : Body) →
    out ≡ out0 ++ (codes "ok replies " ++ decimal n ++ flat_map (λ body. 32 ∷ hex body.bytes) (map (λ b. written (body_values b)) bs)) →
    new ≡ (out ++ 32 ∷ []) ++ hex (body_bytes (body_values b)) →
    new ≡ out0 ++ (codes "ok replies " ++ decimal n ++ flat_map (λ body. 32 ∷ hex body.bytes) (map (λ b. written (body_values b)) (bs ++ b ∷ [])))
replies_more out0 out new n bs b so is =
    is ∙ ap (λ t. (t ++ 32 ∷ []) ++ hex (body_bytes (body_values b))) so
    ∙ append_assoc (out0 ++ (codes "ok replies " ++ decimal n ++ flat_map (λ body. 32 ∷ hex body.bytes) (map (λ b. written (body_values b)) bs))) (32 ∷ []) (hex (body_bytes (body_values b)))
    ∙ append_assoc out0 (codes "ok replies " ++ decimal n ++ flat_map (λ body. 32 ∷ hex body.bytes) (map (λ b. written (body_values b)) bs)) (32 ∷ hex (body_bytes (body_values b)))
    ∙ ap (λ t. out0 ++ t) (append_assoc (codes "ok replies ") (decimal n ++ flat_map (λ body. 32 ∷ hex body.bytes) (map (λ b. written (body_values b)) bs)) (32 ∷ hex (body_bytes (body_values b)))
    ∙ ap (λ t. codes "ok replies " ++ t) (append_assoc (decimal n) (flat_map (λ body. 32 ∷ hex body.bytes) (map (λ b. written (body_values b)) bs)) (32 ∷ hex (body_bytes (body_values b)))
    ∙ ap (λ t. decimal n ++ t) (sym (listed bs))))
  where
    listed : (bs : List Body) → flat_map (λ body. 32 ∷ hex body.bytes) (map (λ b. written (body_values b)) (bs ++ b ∷ [])) ≡ flat_map (λ body. 32 ∷ hex body.bytes) (map (λ b. written (body_values b)) bs) ++ 32 ∷ hex (body_bytes (body_values b))
    listed [] = append-nil (32 ∷ hex (body_bytes (body_values b)))
    listed (x ∷ xs) = ap (λ t. (32 ∷ hex (body_bytes (body_values x))) ++ t) (listed xs) ∙ sym (append_assoc (32 ∷ hex (body_bytes (body_values x))) (flat_map (λ body. 32 ∷ hex body.bytes) (map (λ b. written (body_values b)) xs)) (32 ∷ hex (body_bytes (body_values b))))

-- an item more of a list is printed
pub listed_more : {A B : Type 0} (g : A → B) (f : B → List ℕ) (front head : List ℕ) (xs : List A) (x : A) (out new : List ℕ) →
    out ≡ front ++ (head ++ flat_map f (map g xs)) → new ≡ out ++ f (g x) → new ≡ front ++ (head ++ flat_map f (map g (xs ++ x ∷ [])))
listed_more {A} g f front head xs x out new so is =
    is ∙ ap (λ t. t ++ f (g x)) so
    ∙ append_assoc front (head ++ flat_map f (map g xs)) (f (g x))
    ∙ ap (λ t. front ++ t) (append_assoc head (flat_map f (map g xs)) (f (g x)) ∙ ap (λ t. head ++ t) (sym (one_behind xs)))
  where
    one_behind : (ys : List A) → flat_map f (map g (ys ++ x ∷ [])) ≡ flat_map f (map g ys) ++ f (g x)
    one_behind [] = append-nil (f (g x))
    one_behind (y ∷ ys) = ap (λ t. f (g y) ++ t) (one_behind ys) ∙ sym (append_assoc (f (g y)) (flat_map f (map g ys)) (f (g x)))
