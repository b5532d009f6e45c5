-- The bytes of Writes, one effect after the other.
use Rattle.std.proofs.Common.{◌≡◌, ◌∙◌, ◌≤◌, ◌<◌, ◌+◌, ℕ, suc, ap, sym, refl, arith, List, [], ◌∷◌, ◌++◌, append_assoc, Bool, true, false, length, map, take, drop, get_or}
use Rattle.std.specs.Prelude.{◌||◌, Option}
use Rattle.std.proofs.Math.Seq.{take-length, take-suc}
use Rattle.std.proofs.lemmas.List.{append-nil, map-append, take-append-drop}
use Rattle.pulsar_calls.specs.declared.effect.Effect.{Effect}
use Rattle.pulsar_calls.specs.Content.{Shown, shown}
use Rattle.pulsar_pumps.specs.Made.{bytes_in, bytes_of, is_write, write_of, writes_in}
use Rattle.pulsar_pumps.specs.Outside.{Grows, Rose}
use Rattle.pulsar_pumps.specs.Pumping.{Puts}
use Rattle.pulsar_pumps.proofs.Ran.{grows_same, grows_then, then_rose}

bytes_append : (xs ys : List Shown) → bytes_in (xs ++ ys) ≡ bytes_in xs ++ bytes_in ys
bytes_append [] ys = refl
bytes_append (x ∷ xs) ys = ap (λ z. bytes_of (write_of x) ++ z) (bytes_append xs ys) ∙ sym (append_assoc (bytes_of (write_of x)) (bytes_in xs) (bytes_in ys))

or_assoc : (a b c : Bool) → (a || (b || c)) ≡ ((a || b) || c)
or_assoc true b c = refl
or_assoc false b c = refl

or_false : (b : Bool) → (b || false) ≡ b
or_false true = refl
or_false false = refl

or_true : (b : Bool) → (b || true) ≡ true
or_true true = refl
or_true false = refl

writes_append : (xs ys : List Shown) → writes_in (xs ++ ys) ≡ (writes_in xs || writes_in ys)
writes_append [] ys = refl
writes_append (x ∷ xs) ys = ap (λ b. is_write (write_of x) || b) (writes_append xs ys) ∙ or_assoc (is_write (write_of x)) (writes_in xs) (writes_in ys)

one-up : (k : ℕ) → k + 1 ≡ suc k
one-up k = omega arith

-- one effect more
module _ (es : List Effect) (i : ℕ) (e : Effect) (lt : i < length es) (is : e ≡ get_or es i e) (w : Option (List ℕ)) (writes : write_of (shown e) ≡ w) where
  shown_more : map shown (take (i + 1) es) ≡ map shown (take i es) ++ shown e ∷ []
  shown_more =
      ap (λ n. map shown (take n es)) (one-up i)
      ∙ (ap (map shown) (take-suc es i e lt) ∙ (ap (λ x. map shown (take i es ++ x ∷ [])) (sym is) ∙ map-append shown (take i es) (e ∷ [])))

  pub bytes_more : bytes_in (map shown (take (i + 1) es)) ≡ bytes_in (map shown (take i es)) ++ bytes_of w
  bytes_more =
      ap bytes_in shown_more
      ∙ (bytes_append (map shown (take i es)) (shown e ∷ []) ∙ ap (λ z. bytes_in (map shown (take i es)) ++ z) (append-nil (bytes_of (write_of (shown e))) ∙ ap bytes_of writes))

  pub writes_more : writes_in (map shown (take (i + 1) es)) ≡ (writes_in (map shown (take i es)) || is_write w)
  writes_more =
      ap writes_in shown_more
      ∙ (writes_append (map shown (take i es)) (shown e ∷ []) ∙ ap (λ z. writes_in (map shown (take i es)) || z) (or_false (is_write (write_of (shown e))) ∙ ap is_write writes))

  -- the bytes of all, with those of this effect in the middle
  around : bytes_in (map shown es) ≡ bytes_in (map shown (take i es)) ++ (bytes_of w ++ bytes_in (map shown (drop (i + 1) es)))
  around =
      ap (λ x. bytes_in (map shown x)) (sym (take-append-drop (i + 1) es))
      ∙ (ap bytes_in (map-append shown (take (i + 1) es) (drop (i + 1) es))
      ∙ (bytes_append (map shown (take (i + 1) es)) (map shown (drop (i + 1) es))
      ∙ (ap (λ z. z ++ bytes_in (map shown (drop (i + 1) es))) bytes_more ∙ append_assoc (bytes_in (map shown (take i es))) (bytes_of w) (bytes_in (map shown (drop (i + 1) es))))))

  pub put_failed : (a b c : Option (List ℕ)) (f g h : ℕ) → Grows a b (bytes_in (map shown (take i es))) → f ≤ g → (rest : List ℕ) × Puts b c g h (bytes_of w) rest → Rose g h →
      (rest : List ℕ) × Puts a c f h (bytes_in (map shown es)) rest × Rose f h
  put_failed a b c f g h so more p rose =
      let before = bytes_in (map shown (take i es)) in
      let behind = bytes_in (map shown (drop (i + 1) es)) in (
        p.0 ++ behind,
        record {
          put = before ++ p.1.put;
          all =
              around
              ∙ (ap (λ z. before ++ (z ++ behind)) p.1.all ∙ (ap (λ z. before ++ z) (append_assoc p.1.put p.0 behind) ∙ sym (append_assoc before p.1.put (p.0 ++ behind))));
          grows = grows_then a b c before p.1.put so p.1.grows;
          faults = omega (arith, more, p.1.faults);
        },
        then_rose f g h more rose,
      )

  pub wrote : (any : Bool) → is_write w ≡ true → any ≡ true → any ≡ writes_in (map shown (take (i + 1) es))
  wrote any h e = e ∙ sym (writes_more ∙ (ap (λ b. writes_in (map shown (take i es)) || b) h ∙ or_true (writes_in (map shown (take i es)))))

  pub wrote_none : (old any : Bool) → is_write w ≡ false → any ≡ old → old ≡ writes_in (map shown (take i es)) → any ≡ writes_in (map shown (take (i + 1) es))
  wrote_none old any h e so = e ∙ (so ∙ sym (writes_more ∙ (ap (λ b. writes_in (map shown (take i es)) || b) h ∙ or_false (writes_in (map shown (take i es))))))

  pub grew : (a b c : Option (List ℕ)) → Grows a b (bytes_in (map shown (take i es))) → Grows b c (bytes_of w) → Grows a c (bytes_in (map shown (take (i + 1) es)))
  grew a b c p q = grows_same a c (bytes_in (map shown (take i es)) ++ bytes_of w) (bytes_in (map shown (take (i + 1) es))) (sym bytes_more) (grows_then a b c (bytes_in (map shown (take i es))) (bytes_of w) p q)

pub put_grows : (a b : Option (List ℕ)) (f f' : ℕ) (bytes : List ℕ) → Puts a b f f' bytes [] → Grows a b bytes
put_grows a b f f' bytes p = grows_same a b p.put bytes (sym (p.all ∙ append-nil p.put)) p.grows

-- all of them
pub put_whole : (a b : Option (List ℕ)) (f f' : ℕ) (es : List Effect) (k : ℕ) → k ≡ length es → Grows a b (bytes_in (map shown (take k es))) → f ≤ f' → Puts a b f f' (bytes_in (map shown es)) []
put_whole a b f f' es k e g faults =
    let same : bytes_in (map shown (take k es)) ≡ bytes_in (map shown es) = ap (λ n. bytes_in (map shown (take n es))) e ∙ ap (λ x. bytes_in (map shown x)) (take-length es) in
    record { put = bytes_in (map shown es); all = sym (append-nil (bytes_in (map shown es))); grows = grows_same a b (bytes_in (map shown (take k es))) (bytes_in (map shown es)) same g; faults = faults }

pub writes_whole : (es : List Effect) (k : ℕ) (any b : Bool) → k ≡ length es → any ≡ writes_in (map shown (take k es)) → any ≡ b → writes_in (map shown es) ≡ b
writes_whole es k any b e so is = sym (ap (λ n. writes_in (map shown (take n es))) e ∙ ap (λ x. writes_in (map shown x)) (take-length es)) ∙ (sym so ∙ is)
