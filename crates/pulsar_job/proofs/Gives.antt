-- What a source gives.
use Rattle.std.proofs.Common.{◌≡◌, ℕ, ◌<◌, ◌∙◌, sym, ap, List, [], ◌++◌, refl, arith, Option, Some, None, length, length-append, take, drop, append_assoc, append-nil}
use Rattle.std.proofs.lemmas.List.{take-append-drop}
use Rattle.std.proofs.lemmas.Option.{none-some}
use Rattle.std.proofs.Math.Seq.{drop-append_seam, drop-length}
use Rattle.pulsar_streams.specs.Outside.{Takes}
use Rattle.pulsar_job.specs.Outside.{Gave, Given, IsAtEnd, Seen}

pub gave-none : (now : Option (List ℕ)) → Gave now now []
gave-none now all h = (all, refl, h)

pub gave-same : {a b c : Option (List ℕ)} (bytes : List ℕ) → Gave a b bytes → c ≡ b → Gave a c bytes
gave-same bytes g e all h = let at = g all h in (at.0, at.1, e ∙ at.2)

-- and then n bytes more
pub gave-more : {a b c : Option (List ℕ)} (bytes buf : List ℕ) (n : ℕ) → Gave a b bytes → ((left : List ℕ) → b ≡ Some left → Takes left n buf) → ((left : List ℕ) → b ≡ Some left → c ≡ Some (drop n left)) → Gave a c (bytes ++ take n buf)
gave-more bytes buf n g takes rest all h =
    let at = g all h in
    let parts : at.0 ≡ take n buf ++ drop n at.0 = sym (take-append-drop n at.0) ∙ ap (λ (t : List ℕ). t ++ drop n at.0) (sym (takes at.0 at.2).bytes) in
    (drop n at.0, at.1 ∙ ap (λ (t : List ℕ). bytes ++ t) parts ∙ sym (append_assoc bytes (take n buf) (drop n at.0)), rest at.0 at.2)

abbrev content_or : List ℕ → Option (List ℕ) → List ℕ
content_or bytes None = bytes
content_or bytes (Some content) = content

pub some-same : (a b : List ℕ) → Some a ≡ Some b → a ≡ b
some-same a b h = ap (content_or a) h

-- no bytes came into a buffer that isn't empty: so it was the end
pub gave-end : {a b c : Option (List ℕ)} (bytes buf : List ℕ) (n : ℕ) → n ≡ 0 → 0 < length buf → Gave a b bytes → ((left : List ℕ) → b ≡ Some left → Takes left n buf)
    → ((left : List ℕ) → b ≡ Some left → c ≡ Some (drop n left)) → IsAtEnd a c
gave-end bytes buf n none some g takes rest all h =
    let at = g all h in
    rest at.0 at.2 ∙ ap (λ k. Some (drop k at.0)) none ∙ ap (λ (t : List ℕ). Some t) ((takes at.0 at.2).end none some)

-- what is left behind the bytes that were taken
pub left-behind : (old new : Option (List ℕ)) (bytes : List ℕ) → Gave old new bytes → (rest : List ℕ) × ((all : List ℕ) → old ≡ Some all → (all ≡ bytes ++ rest) × (new ≡ Some rest))
left-behind None new bytes g = ([], λ all h. absurd (none-some all h))
left-behind (Some x) new bytes g =
    let at = g x refl in (at.0, λ all h. (sym (some-same x all h) ∙ at.1, at.2))

-- the source is left within what it has
abbrev pub given : (source : Seen) (bytes : List ℕ) → Gave source.before source.after bytes → Given source
given source bytes g =
    let behind = left-behind source.before source.after bytes g in
    let size = length-append bytes behind.0 in
    record {
      bytes = bytes ++ behind.0;
      count = length bytes;
      within = omega arith;
      had = λ all h. (behind.1 all h).0;
      has = λ all h. (behind.1 all h).1 ∙ ap (λ (t : List ℕ). Some t) (sym (drop-append_seam bytes behind.0));
    }

-- the source was read to its end
abbrev pub given-whole : (source : Seen) (bytes : List ℕ) → Gave source.before source.after bytes → IsAtEnd source.before source.after → Given source
given-whole source bytes g end =
    record {
      bytes = bytes;
      count = length bytes;
      within = omega arith;
      had = λ all h. let at = g all h in at.1 ∙ ap (λ (t : List ℕ). bytes ++ t) (some-same at.0 [] (sym at.2 ∙ end all h)) ∙ append-nil bytes;
      has = λ all h. end all h ∙ ap (λ (t : List ℕ). Some t) (sym (drop-length bytes));
    }

-- and then none more
pub gave-no-more : {a b c : Option (List ℕ)} (bytes : List ℕ) (n : ℕ) → n ≡ 0 → Gave a b bytes → ((left : List ℕ) → b ≡ Some left → c ≡ Some (drop n left)) → Gave a c bytes
gave-no-more bytes n none g rest all h = let at = g all h in (at.0, at.1, rest at.0 at.2 ∙ ap (λ k. Some (drop k at.0)) none)
