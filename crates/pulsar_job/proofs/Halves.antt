-- The halves of links, one after the other.
use Rattle.std.proofs.Common.{◌≡◌, ◌∙◌, ◌++◌, sym, ap, List, [], ◌∷◌, map, append-nil, append_assoc}
use Rattle.std.proofs.lemmas.List.{map-append}
use Rattle.pulsar_job.specs.Driven.{LinkNow, seen_of}
use Rattle.pulsar_job.specs.Links.{LinkSeen}

module _ {H L : Type 0} (f : H → LinkSeen) (n : L → LinkNow) (all : List LinkSeen) where
  pub halves-next : (halves new : List H) (h : H) (links rest : List L) (x : L) → new ≡ halves ++ h ∷ [] → f h ≡ (n x).seen → links ≡ x ∷ rest → map f halves ++ seen_of (map n links) ≡ all → map f new ++ seen_of (map n rest) ≡ all
  halves-next halves new h links rest x more same split so =
      ap (λ ys. map f ys ++ seen_of (map n rest)) more ∙ ap (λ t. t ++ seen_of (map n rest)) (map-append f halves (h ∷ [])) ∙ append_assoc (map f halves) (f h ∷ []) (seen_of (map n rest))
      ∙ ap (λ s. map f halves ++ s ∷ seen_of (map n rest)) same ∙ ap (λ ls. map f halves ++ seen_of (map n ls)) (sym split) ∙ so

  pub halves-done : (halves : List H) (links : List L) → links ≡ [] → map f halves ++ seen_of (map n links) ≡ all → map f halves ≡ all
  halves-done halves links none so = sym (append-nil (map f halves)) ∙ ap (λ ls. map f halves ++ seen_of (map n ls)) (sym none) ∙ so
