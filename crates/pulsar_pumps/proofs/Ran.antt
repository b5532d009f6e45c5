-- Rounds one after the other.
use Rattle.std.proofs.Common.{◌≡◌, ◌∙◌, ◌≤◌, ◌+◌, ◌-◌, ◌⊎◌, ℕ, ap, sym, subst, refl, inl, inr, arith, List, [], ◌∷◌, ◌++◌, append_assoc, Bool, true, false, length, length-drop, map, take, drop}
use Rattle.std.specs.Prelude.{◌||◌, Option, Some, None, MatchOption}
use Rattle.std.proofs.Math.Nat.{eq-or-lt_of_le}
use Rattle.std.proofs.Math.Seq.{take-add, take-length}
use Rattle.std.proofs.lemmas.List.{append-nil, take-append-drop}
use Rattle.std.proofs.lemmas.Bool.{or_cases}
use Rattle.std.specs.Global.{Vec}
use Rattle.std.specs.List.{AllZip}
use Rattle.pulsar_calls.specs.declared.event.Event.{Event}
use Rattle.pulsar_calls.specs.declared.event.Event.TheVariants as event
use Rattle.pulsar_calls.specs.declared.effect.Effect.{Effect}
use Rattle.pulsar_calls.specs.Content.{Heard, Drain, Lost, Shown, heard, shown}
use Rattle.pulsar_pumps.specs.declared.rounds.Put.{Put}
use Rattle.pulsar_pumps.specs.declared.rounds.Put.TheVariants as put
use Rattle.pulsar_pumps.specs.declared.submitter.Receipt.{Receipt}
use Rattle.pulsar_pumps.specs.Made.{Made, Names, bytes_in, drained, is_lost, link_of, lost_in, made_by, made_of, piece_of, pieces, written}
use Rattle.pulsar_pumps.specs.Outside.{Grows, Rose}
use Rattle.pulsar_pumps.specs.Pumping.{End, PutEnds, Puts, RanIn, RanOut, end}

-- WHAT IS TOLD

module _ {A : Type 0} where
  pub grows_then : (a b c : Option (List A)) (x y : List A) → Grows a b x → Grows b c y → Grows a c (x ++ y)
  grows_then a b c x y f g = (λ xs is. g.0 (xs ++ x) (f.0 xs is) ∙ ap Some (append_assoc xs x y), λ none. g.1 (f.1 none))

  pub grows_none : (a b : Option (List A)) → b ≡ a → Grows a b []
  grows_none a b e = (λ xs is. e ∙ (is ∙ ap Some (sym (append-nil xs))), λ none. e ∙ none)

  pub grows_same : (a b : Option (List A)) (x y : List A) → x ≡ y → Grows a b x → Grows a b y
  grows_same a b x y e g = (λ xs is. g.0 xs is ∙ ap (λ z. Some (xs ++ z)) e, g.1)

  -- the same, where an end is written otherwise
  pub grows_from : (a a' b b' : Option (List A)) (x : List A) → a' ≡ a → b' ≡ b → Grows a b x → Grows a' b' x
  grows_from a a' b b' x p q g = (λ xs is. q ∙ g.0 xs (sym p ∙ is), λ none. q ∙ g.1 (sym p ∙ none))

-- THE COUNT OF FAULTS

pub rose_then : (a b c : ℕ) → a ≤ b → Rose a b → b ≤ c → Rose a c
rose_then a b c le (inl lt) more = inl (omega arith)
rose_then a b c le (inr e) more = elim (eq-or-lt_of_le more) [ inl same ↦ inr (sym same ∙ e) | inr lt ↦ inl (omega arith) ]

pub then_rose : (a b c : ℕ) → a ≤ b → Rose b c → Rose a c
then_rose a b c le (inl lt) = inl (omega arith)
then_rose a b c le (inr e) = inr e

-- LISTS OF WHAT WAS MADE

pub names_append : (l : ℕ) (xs ys : List Made) → Names l xs → Names l ys → Names l (xs ++ ys)
names_append l [] ys p q = q
names_append l (x ∷ xs) ys p q = (p.0, names_append l xs ys p.1 q)

pub pieces_append : (xs ys : List Made) → pieces (xs ++ ys) ≡ pieces xs ++ pieces ys
pieces_append [] ys = refl
pieces_append (x ∷ xs) ys = ap (λ z. piece_of x.event ++ z) (pieces_append xs ys) ∙ sym (append_assoc (piece_of x.event) (pieces xs) (pieces ys))

pub written_append : (xs ys : List Made) → written (xs ++ ys) ≡ written xs ++ written ys
written_append [] ys = refl
written_append (x ∷ xs) ys = ap (λ z. drained x.event x.effects ++ z) (written_append xs ys) ∙ sym (append_assoc (drained x.event x.effects) (written xs) (written ys))

pub lost_append : (xs ys : List Made) → lost_in (xs ++ ys) ≡ (lost_in xs || lost_in ys)
lost_append [] ys = refl
lost_append (x ∷ xs) ys = ap (λ b. is_lost x.event || b) (lost_append xs ys) ∙ or_assoc (is_lost x.event) (lost_in xs) (lost_in ys)
  where
    or_assoc : (a b c : Bool) → (a || (b || c)) ≡ ((a || b) || c)
    or_assoc true b c = refl
    or_assoc false b c = refl

pub lost_cases : (xs ys : List Made) → lost_in (xs ++ ys) ≡ true → (lost_in xs ≡ true) ⊎ (lost_in ys ≡ true)
lost_cases xs ys h = or_cases (lost_in xs) (lost_in ys) (sym (lost_append xs ys) ∙ h)

-- none of the first is a Lost
pub lost_behind : (xs ys : List Made) (b : Bool) → lost_in xs ≡ false → lost_in ys ≡ b → lost_in (xs ++ ys) ≡ b
lost_behind xs ys b p q = lost_append xs ys ∙ (ap (λ z. z || lost_in ys) p ∙ q)

one_lost : (m : Made) → lost_in (m ∷ []) ≡ true → is_lost m.event ≡ true
one_lost m h = elim (or_cases (is_lost m.event) false h) [ inl e ↦ e | inr wrong ↦ absurd cc ]

pub made_then : (a b c x y : List Made) → b ≡ a ++ x → c ≡ b ++ y → c ≡ a ++ (x ++ y)
made_then a b c x y p q = q ∙ (ap (λ z. z ++ y) p ∙ append_assoc a x y)

-- IN

module _ (l : ℕ) (s t : End) where
  pub in_none : (rest : List ℕ) → t.made ≡ s.made → t.told ≡ s.told → Grows s.bytes t.bytes rest → s.faults ≤ t.faults → RanIn l s t [] rest
  in_none rest made told bytes faults = record {
    made = made ∙ sym (append-nil s.made);
    names = tt;
    told = grows_none s.told t.told told;
    bytes = bytes;
    lost = λ none. absurd cc;
    faults = faults;
  }

  -- nothing was done
  pub in_same : t.made ≡ s.made → t.told ≡ s.told → t.bytes ≡ s.bytes → t.faults ≡ s.faults → RanIn l s t [] []
  in_same made told bytes faults = in_none [] made told (grows_none s.bytes t.bytes bytes) (omega (arith, faults))

  pub in_one : (m : Made) (e : Heard) → m.event ≡ e → t.made ≡ s.made ++ m ∷ [] → link_of e ≡ Some l → Grows s.told t.told (m ∷ []) → Grows s.bytes t.bytes (piece_of e) →
      (is_lost e ≡ true → Rose s.faults t.faults) → s.faults ≤ t.faults → RanIn l s t (m ∷ []) []
  in_one m e is made link told bytes lost faults = record {
    made = made;
    names = (ap link_of is ∙ link, tt);
    told = told;
    bytes = grows_same s.bytes t.bytes (piece_of e) ((piece_of m.event ++ []) ++ []) (sym (append-nil (piece_of m.event ++ []) ∙ (append-nil (piece_of m.event) ∙ ap piece_of is))) bytes;
    lost = λ h. lost (sym (ap is_lost is) ∙ one_lost m h);
    faults = faults;
  }

pub in_then : (l : ℕ) (s t u : End) (xs ys : List Made) (rest : List ℕ) → RanIn l s t xs [] → RanIn l t u ys rest → RanIn l s u (xs ++ ys) rest
in_then l s t u xs ys rest p q = record {
  made = made_then s.made t.made u.made xs ys p.made q.made;
  names = names_append l xs ys p.names q.names;
  told = grows_then s.told t.told u.told xs ys p.told q.told;
  bytes = grows_same s.bytes u.bytes ((pieces xs ++ []) ++ (pieces ys ++ rest)) (pieces (xs ++ ys) ++ rest)
      (ap (λ z. z ++ (pieces ys ++ rest)) (append-nil (pieces xs)) ∙ (sym (append_assoc (pieces xs) (pieces ys) rest) ∙ ap (λ z. z ++ rest) (sym (pieces_append xs ys))))
      (grows_then s.bytes t.bytes u.bytes (pieces xs ++ []) (pieces ys ++ rest) p.bytes q.bytes);
  lost = λ h. elim (lost_cases xs ys h)
      [ inl e ↦ rose_then s.faults t.faults u.faults p.faults (p.lost e) q.faults | inr e ↦ then_rose s.faults t.faults u.faults p.faults (q.lost e) ];
  faults = omega (arith, p.faults, q.faults);
}

-- OUT

module _ (l : ℕ) (s t : End) where
  pub out_none : t.made ≡ s.made → t.told ≡ s.told → t.bytes ≡ s.bytes → s.faults ≤ t.faults → RanOut l s t [] []
  out_none made told bytes faults = record {
    put = [];
    made = made ∙ sym (append-nil s.made);
    names = tt;
    told = grows_none s.told t.told told;
    writes = refl;
    bytes = grows_none s.bytes t.bytes bytes;
    cut = inl refl;
    lost = λ none. absurd cc;
    faults = faults;
  }

  pub out_same : t.made ≡ s.made → t.told ≡ s.told → t.bytes ≡ s.bytes → t.faults ≡ s.faults → RanOut l s t [] []
  out_same made told bytes faults = out_none made told bytes (omega (arith, faults))

  pub out_one : (m : Made) (put rest : List ℕ) → t.made ≡ s.made ++ m ∷ [] → link_of m.event ≡ Some l → is_lost m.event ≡ false → Grows s.told t.told (m ∷ []) →
      drained m.event m.effects ≡ put ++ rest → Grows s.bytes t.bytes put → (rest ≡ []) ⊎ Rose s.faults t.faults → s.faults ≤ t.faults → RanOut l s t (m ∷ []) rest
  out_one m put rest made link kept told writes bytes cut faults = record {
    put = put;
    made = made;
    names = (link, tt);
    told = told;
    writes = append-nil (drained m.event m.effects) ∙ writes;
    bytes = bytes;
    cut = cut;
    lost = λ h. (let e : is_lost m.event ≡ true = one_lost m h in absurd cc);
    faults = faults;
  }

pub out_then : (l : ℕ) (s t u : End) (xs ys : List Made) (rest : List ℕ) → RanOut l s t xs [] → RanOut l t u ys rest → RanOut l s u (xs ++ ys) rest
out_then l s t u xs ys rest p q = record {
  put = p.put ++ q.put;
  made = made_then s.made t.made u.made xs ys p.made q.made;
  names = names_append l xs ys p.names q.names;
  told = grows_then s.told t.told u.told xs ys p.told q.told;
  writes = written_append xs ys ∙ (ap (λ z. z ++ written ys) (p.writes ∙ append-nil p.put) ∙ (ap (λ z. p.put ++ z) q.writes ∙ sym (append_assoc p.put q.put rest)));
  bytes = grows_then s.bytes t.bytes u.bytes p.put q.put p.bytes q.bytes;
  cut = elim q.cut [ inl e ↦ inl e | inr rose ↦ inr (then_rose s.faults t.faults u.faults p.faults rose) ];
  lost = λ h. elim (lost_cases xs ys h)
      [ inl e ↦ rose_then s.faults t.faults u.faults p.faults (p.lost e) q.faults | inr e ↦ then_rose s.faults t.faults u.faults p.faults (q.lost e) ];
  faults = omega (arith, p.faults, q.faults);
}

-- a Lost behind a put that failed
pub out_lost : (l : ℕ) (s t u : End) (xs : List Made) (rest : List ℕ) (m : Made) → RanOut l s t xs rest → Rose s.faults t.faults → u.made ≡ t.made ++ m ∷ [] → m.event ≡ Lost l →
    Grows t.told u.told (m ∷ []) → u.bytes ≡ t.bytes → t.faults ≤ u.faults → RanOut l s u (xs ++ m ∷ []) rest
out_lost l s t u xs rest m p rose made is told bytes faults = record {
  put = p.put;
  made = made_then s.made t.made u.made xs (m ∷ []) p.made made;
  names = names_append l xs (m ∷ []) p.names (ap link_of is, tt);
  told = grows_then s.told t.told u.told xs (m ∷ []) p.told told;
  writes = written_append xs (m ∷ []) ∙ (ap (λ z. written xs ++ (z ++ [])) (ap (λ e. drained e m.effects) is) ∙ (append-nil (written xs) ∙ p.writes));
  bytes = grows_from s.bytes s.bytes t.bytes u.bytes p.put refl bytes p.bytes;
  cut = inr (rose_then s.faults t.faults u.faults p.faults rose faults);
  lost = λ h. rose_then s.faults t.faults u.faults p.faults rose faults;
  faults = omega (arith, p.faults, faults);
}

-- WHAT IS KEPT

made_items : (xs : List (Event × Receipt)) (kept e : Event) (r : Receipt) → heard kept ≡ heard e → map made_of (xs ++ (kept, r) ∷ []) ≡ map made_of xs ++ made_by e r ∷ []
made_items [] kept e r same = ap (λ h. record { index = r.index; event = h; effects = map shown r.effects.items } ∷ []) same
made_items (x ∷ xs) kept e r same = ap (λ z. made_of x ∷ z) (made_items xs kept e r same)

pub made_more : (xs ys zs : List (Event × Receipt)) (kept e : Event) (r : Receipt) → ys ≡ xs → zs ≡ ys ++ (kept, r) ∷ [] → heard kept ≡ heard e → map made_of zs ≡ map made_of xs ++ made_by e r ∷ []
made_more xs ys zs kept e r p q same = ap (map made_of) (q ∙ ap (λ z. z ++ (kept, r) ∷ []) p) ∙ made_items xs kept e r same

pub submitted : (told told' : Option (List Made)) (xs ys zs : List (Event × Receipt)) (kept e : Event) (r : Receipt) → ys ≡ xs → zs ≡ ys ++ (kept, r) ∷ [] → heard kept ≡ heard e → Grows told told' (made_by e r ∷ []) →
    (m : Made) × (m.event ≡ heard e) × (map made_of zs ≡ map made_of xs ++ m ∷ []) × Grows told told' (m ∷ [])
submitted told told' xs ys zs kept e r p q same g = (made_by e r, refl, made_more xs ys zs kept e r p q same, g)

-- a copy of bytes
pub same_bytes : (xs ys : List ℕ) → AllZip (λ x y. y ≡ x) xs ys → ys ≡ xs
same_bytes [] [] h = refl
same_bytes [] (y ∷ ys) h = absurd h
same_bytes (x ∷ xs) [] h = absurd h
same_bytes (x ∷ xs) (y ∷ ys) h = ap (λ z. z ∷ ys) h.0 ∙ ap (λ zs. x ∷ zs) (same_bytes xs ys h.1)

-- WHAT A TAKE GAVE

-- what an input in memory gives
pub input_gives : (bytes buf : List ℕ) (g n : ℕ) → take n buf ≡ take n (drop g bytes) → Grows (Some (take g bytes)) (Some (take (g + n) bytes)) (take n buf)
input_gives bytes buf g n e = (
  λ xs is. (let same : take g bytes ≡ xs = cc in
      ap Some (take-add g n bytes ∙ (ap (λ z. take g bytes ++ z) (sym e) ∙ ap (λ z. z ++ take n buf) same))),
  λ none. absurd cc,
)

module _ (a b : Option (List ℕ)) (f f' : ℕ) where
  pub piece_some : (o : Option (Vec ℕ)) (v : Vec ℕ) → o ≡ Some v → MatchOption o (Grows a b []) (λ x. Grows a b x.items) → Grows a b v.items
  piece_some o v e h = (let P : Option (Vec ℕ) → Type 0 = λ x. MatchOption x (Grows a b []) (λ y. Grows a b y.items) in subst P e h)

  pub piece_none : (o : Option (Vec ℕ)) → o ≡ None → MatchOption o (Grows a b []) (λ x. Grows a b x.items) → Grows a b []
  piece_none o e h = (let P : Option (Vec ℕ) → Type 0 = λ x. MatchOption x (Grows a b []) (λ y. Grows a b y.items) in subst P e h)

  pub piece_rose : (o : Option (Vec ℕ)) → o ≡ None → MatchOption o (Rose f f') (λ x. Unit {0}) → Rose f f'
  piece_rose o e h = (let P : Option (Vec ℕ) → Type 0 = λ x. MatchOption x (Rose f f') (λ y. Unit {0}) in subst P e h)

-- PUTS

-- the rest of a slice
slice_rest : (bytes : List ℕ) (at : ℕ) → take (length bytes - at) (drop at bytes) ≡ drop at bytes
slice_rest bytes at = ap (λ k. take k (drop at bytes)) (sym (length-drop at bytes)) ∙ take-length (drop at bytes)

pub fits_rest : (bytes : List ℕ) (at n : ℕ) → at ≤ length bytes → n ≤ length (take (length bytes - at) (drop at bytes)) → at + n ≤ length bytes
fits_rest bytes at n within h = (let same = ap length (slice_rest bytes at) in omega (arith, within, h, same, length-drop at bytes))

pub grow_step : (a b c : Option (List ℕ)) (bytes : List ℕ) (at n : ℕ) → Grows a b (take at bytes) → Grows b c (take n (take (length bytes - at) (drop at bytes))) → Grows a c (take (at + n) bytes)
grow_step a b c bytes at n p q =
    let taken : Grows b c (take n (drop at bytes)) = grows_same b c (take n (take (length bytes - at) (drop at bytes))) (take n (drop at bytes)) (ap (take n) (slice_rest bytes at)) q in
    grows_same a c (take at bytes ++ take n (drop at bytes)) (take (at + n) bytes) (sym (take-add at n bytes)) (grows_then a b c (take at bytes) (take n (drop at bytes)) p taken)

pub put_at : (a b : Option (List ℕ)) (f f' : ℕ) (bytes : List ℕ) (n : ℕ) → Grows a b (take n bytes) → f ≤ f' → (rest : List ℕ) × Puts a b f f' bytes rest
put_at a b f f' bytes n g faults = (drop n bytes, record { put = take n bytes; all = sym (take-append-drop n bytes); grows = g; faults = faults })

pub put_all : (a b : Option (List ℕ)) (f f' : ℕ) (bytes : List ℕ) (n : ℕ) → n ≡ length bytes → Grows a b (take n bytes) → f ≤ f' → Puts a b f f' bytes []
put_all a b f f' bytes n e g faults = record { put = bytes; all = sym (append-nil bytes); grows = grows_same a b (take n bytes) bytes (ap (λ k. take k bytes) e ∙ take-length bytes) g; faults = faults }

-- A DRAIN

module _ (f f' : ℕ) (out : List Shown) (rest : List ℕ) where
  cut_of : (p : Put) → PutEnds p out f f' rest → (rest ≡ []) ⊎ Rose f f'
  cut_of put.Failed h = inr h
  cut_of put.All h = inl h.0
  cut_of put.Nothing h = inl h.0

pub drained_so : (p : Put) (l : ℕ) (told told' : Option (List Made)) (xs ys zs : List (Event × Receipt)) (r : Receipt) (es : List Effect) (bytes bytes' : Option (List ℕ)) (f f' : ℕ) →
    ys ≡ xs → zs ≡ ys ++ (event.Drain l 1, r) ∷ [] → Grows told told' (made_by (event.Drain l 1) r ∷ []) → es ≡ r.effects.items →
    (rest : List ℕ) × Puts bytes bytes' f f' (bytes_in (map shown es)) rest × PutEnds p (map shown es) f f' rest →
    (d : Made) × (rest : List ℕ) × RanOut l (end (map made_of xs) told bytes f) (end (map made_of zs) told' bytes' f') (d ∷ []) rest × (d.event ≡ Drain l 1) × PutEnds p d.effects f f' rest
drained_so p l told told' xs ys zs r es bytes bytes' f f' same more grows is h =
    let d : Made = made_by (event.Drain l 1) r in
    let P : List Effect → Type 0 = λ x. (rest : List ℕ) × Puts bytes bytes' f f' (bytes_in (map shown x)) rest × PutEnds p (map shown x) f f' rest in
    let k : P r.effects.items = subst P is h in (
      d,
      k.0,
      out_one l (end (map made_of xs) told bytes f) (end (map made_of zs) told' bytes' f') d k.1.put k.0
          (made_more xs ys zs (event.Drain l 1) (event.Drain l 1) r same more refl) refl refl grows k.1.all k.1.grows (cut_of f f' d.effects k.0 p k.2) k.1.faults,
      refl,
      k.2,
    )

-- behind it a Lost, where a put failed
pub lost_so : (p : Put) → p ≡ put.Failed → (l : ℕ) (s t u : End) → (d : Made) × (rest : List ℕ) × RanOut l s t (d ∷ []) rest × (d.event ≡ Drain l 1) × PutEnds p d.effects s.faults t.faults rest →
    (m : Made) × (m.event ≡ Lost l) × (u.made ≡ t.made ++ m ∷ []) × Grows t.told u.told (m ∷ []) → u.bytes ≡ t.bytes → t.faults ≤ u.faults →
    (more : List Made) × (rest : List ℕ) × RanOut l s u more rest × ((d : Made) × (m : Made) × (more ≡ d ∷ m ∷ []) × (d.event ≡ Drain l 1) × (m.event ≡ Lost l))
lost_so p is l s t u h m bytes faults =
    let rose : Rose s.faults t.faults = subst (λ (x : Put). PutEnds x h.0.effects s.faults t.faults h.1) is h.4 in
    (h.0 ∷ m.0 ∷ [], h.1, out_lost l s t u (h.0 ∷ []) h.1 m.0 h.2 rose m.2 m.1 m.3 bytes faults, (h.0, m.0, refl, h.3, m.1))
