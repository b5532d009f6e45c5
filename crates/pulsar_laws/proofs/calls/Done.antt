-- Whatever arises is done before the next event begins.
use Rattle.std.proofs.Common.{◌≡◌, ◌⊎◌, inl, inr, ◌∙◌, ap, List, [], ◌∷◌, ◌++◌, map, Some, None}
use Rattle.pulsar_laws.proofs.ActWords.{Act, below, Comes, Notice, Part, Told}
use Rattle.pulsar_laws.proofs.RunWords.{agenda, Arises, arranged, at_once, Begins, causes, Entry, first_of, further, In, InOne, IsRun, joins, Options, put_all, rest, rest_of, rules, Then, view}
use Rattle.pulsar_run.specs.Order.{put}
use Rattle.pulsar_laws.proofs.Lists.{in_left, in_right}
use Rattle.pulsar_laws.proofs.Cases.{cond_so}
use Rattle.pulsar_laws.specs.Laws.{AllIsDone, AreActs}

module _ (a : Act) where
  -- WHERE IT WAITS

  comes_left : (ps qs : List Part) → In a (map Comes ps) → In a (map Comes (ps ++ qs))
  comes_left [] qs h = absurd h
  comes_left (p ∷ ps) qs (inl e) = inl e
  comes_left (p ∷ ps) qs (inr h) = inr (comes_left ps qs h)

  comes_right : (ps qs : List Part) → In a (map Comes qs) → In a (map Comes (ps ++ qs))
  comes_right [] qs h = h
  comes_right (p ∷ ps) qs h = inr (comes_right ps qs h)

  one_left : (xs ys : List (List Notice)) → InOne a (map (map Told) xs) → InOne a (map (map Told) (xs ++ ys))
  one_left [] ys h = absurd h
  one_left (x ∷ xs) ys (inl i) = inl i
  one_left (x ∷ xs) ys (inr h) = inr (one_left xs ys h)

  one_right : (xs ys : List (List Notice)) → InOne a (map (map Told) ys) → InOne a (map (map Told) (xs ++ ys))
  one_right [] ys h = h
  one_right (x ∷ xs) ys h = inr (one_right xs ys h)

  -- a list in order holds the same
  put_this : (n : Notice) (ys : List Notice) → a ≡ Told n → In a (map Told (put below n ys))
  put_this n [] e = inl e
  put_this n (y ∷ ys) e = cond_so (λ z. In a (map Told z)) (below n y) (n ∷ y ∷ ys) (y ∷ put below n ys) (inl e) (inr (put_this n ys e))

  put_other : (n : Notice) (ys : List Notice) → In a (map Told ys) → In a (map Told (put below n ys))
  put_other n [] h = absurd h
  put_other n (y ∷ ys) (inl e) = cond_so (λ z. In a (map Told z)) (below n y) (n ∷ y ∷ ys) (y ∷ put below n ys) (inr (inl e)) (inl e)
  put_other n (y ∷ ys) (inr h) = cond_so (λ z. In a (map Told z)) (below n y) (n ∷ y ∷ ys) (y ∷ put below n ys) (inr (inr h)) (inr (put_other n ys h))

  all_others : (ns ys : List Notice) → In a (map Told ys) → In a (map Told (put_all below ns ys))
  all_others [] ys h = h
  all_others (n ∷ ns) ys h = all_others ns (put below n ys) (put_other n ys h)

  all_put : (ns ys : List Notice) → In a (map Told ns) → In a (map Told (put_all below ns ys))
  all_put [] ys h = absurd h
  all_put (n ∷ ns) ys (inl e) = all_others ns (put below n ys) (put_this n ys e)
  all_put (n ∷ ns) ys (inr h) = all_put ns (put below n ys) h

  one_arranged : (causes : List (List Notice)) → InOne a (map (map Told) causes) → InOne a (map (map Told) (map (arranged below) causes))
  one_arranged [] h = absurd h
  one_arranged (ns ∷ causes) (inl i) = inl (all_put ns [] i)
  one_arranged (ns ∷ causes) (inr h) = inr (one_arranged causes h)

  -- it is left to do: at once, as what one is told, or as a part
  abbrev pub IsLeft : List Act → List Notice → List (List Notice) → List Part → Type 0
  IsLeft now here behind ps = In a now ⊎ (In a (map Told here) ⊎ (InOne a (map (map Told) behind) ⊎ In a (map Comes ps)))

  -- what is first is done, and all else stays
  pub first_done : (now : List Act) (here : List Notice) (behind : List (List Notice)) (ps : List Part) (b : Act) → first_of rules now here behind ps ≡ Some b →
      IsLeft now here behind ps →
      (a ≡ b) ⊎ IsLeft (rest_of now here behind ps).now (rest_of now here behind ps).here (rest_of now here behind ps).behind (rest_of now here behind ps).parts
  first_done (x ∷ now) here behind ps b f (inl (inl e)) = inl (e ∙ (let d : x ≡ b = cc in d))
  first_done (x ∷ now) here behind ps b f (inl (inr i)) = inr (inl i)
  first_done (x ∷ now) here behind ps b f (inr k) = inr (inr k)
  first_done [] (n ∷ here) behind ps b f (inl i) = absurd i
  first_done [] (n ∷ here) behind ps b f (inr (inl (inl e))) = inl (e ∙ (let d : Told n ≡ b = cc in d))
  first_done [] (n ∷ here) behind ps b f (inr (inl (inr i))) = inr (inr (inl i))
  first_done [] (n ∷ here) behind ps b f (inr (inr k)) = inr (inr (inr k))
  first_done [] [] (cause ∷ behind) ps b f (inl i) = absurd i
  first_done [] [] (cause ∷ behind) ps b f (inr (inl i)) = absurd i
  first_done [] [] (cause ∷ behind) ps b f (inr (inr (inl (inl i)))) = first_done [] cause behind ps b f (inr (inl i))
  first_done [] [] (cause ∷ behind) ps b f (inr (inr (inl (inr k)))) = first_done [] cause behind ps b f (inr (inr (inl k)))
  first_done [] [] (cause ∷ behind) ps b f (inr (inr (inr k))) = first_done [] cause behind ps b f (inr (inr (inr k)))
  first_done [] [] [] (p ∷ ps) b f (inl i) = absurd i
  first_done [] [] [] (p ∷ ps) b f (inr (inl i)) = absurd i
  first_done [] [] [] (p ∷ ps) b f (inr (inr (inl i))) = absurd i
  first_done [] [] [] (p ∷ ps) b f (inr (inr (inr (inl e)))) = inl (e ∙ (let d : Comes p ≡ b = cc in d))
  first_done [] [] [] (p ∷ ps) b f (inr (inr (inr (inr i)))) = inr (inr (inr (inr i)))
  first_done [] [] [] [] b f k = absurd cc

  pub none_left : (now : List Act) (here : List Notice) (behind : List (List Notice)) (ps : List Part) → first_of rules now here behind ps ≡ None →
      IsLeft now here behind ps → ⊥
  none_left (x ∷ now) here behind ps f k = absurd cc
  none_left [] (n ∷ here) behind ps f k = absurd cc
  none_left [] [] (cause ∷ behind) ps f (inl i) = i
  none_left [] [] (cause ∷ behind) ps f (inr (inl i)) = i
  none_left [] [] (cause ∷ behind) ps f (inr (inr (inl (inl i)))) = none_left [] cause behind ps f (inr (inl i))
  none_left [] [] (cause ∷ behind) ps f (inr (inr (inl (inr k)))) = none_left [] cause behind ps f (inr (inr (inl k)))
  none_left [] [] (cause ∷ behind) ps f (inr (inr (inr k))) = none_left [] cause behind ps f (inr (inr (inr k)))
  none_left [] [] [] (p ∷ ps) f k = absurd cc
  none_left [] [] [] [] f (inl i) = i
  none_left [] [] [] [] f (inr (inl i)) = i
  none_left [] [] [] [] f (inr (inr (inl i))) = i
  none_left [] [] [] [] f (inr (inr (inr i))) = i

  module _ (o : Options) where
    abbrev pub IsLeftIn : List Entry → Type 0
    IsLeftIn log = IsLeft (agenda o log).now (agenda o log).here (agenda o log).behind (agenda o log).parts

    -- what arises is left to do
    pub arises : (e : Entry) (older : List Entry) → Arises rules o a e older → IsLeftIn (e ∷ older)
    arises (Begins e) older h = inr (inr (inr h))
    arises (Then b) older (inl i) = inl (in_left a (at_once (view o older) b) (rest (agenda o older)).now i)
    arises (Then b) older (inr (inl i)) = inr (inl (all_put (joins (view o older) b) (rest (agenda o older)).here i))
    arises (Then b) older (inr (inr (inl k))) =
        inr (inr (inl (one_right (rest (agenda o older)).behind (map (arranged below) (causes (view o older) b)) (one_arranged (causes (view o older) b) k))))
    arises (Then b) older (inr (inr (inr i))) = inr (inr (inr (comes_left (further (view o older) b) (rest (agenda o older)).parts i)))

    -- what is left stays behind what arises
    pub stays : (b : Act) (log : List Entry) →
        IsLeft (rest (agenda o log)).now (rest (agenda o log)).here (rest (agenda o log)).behind (rest (agenda o log)).parts → IsLeftIn (Then b ∷ log)
    stays b log (inl i) = inl (in_right a (at_once (view o log) b) (rest (agenda o log)).now i)
    stays b log (inr (inl i)) = inr (inl (all_others (joins (view o log) b) (rest (agenda o log)).here i))
    stays b log (inr (inr (inl k))) = inr (inr (inl (one_left (rest (agenda o log)).behind (map (arranged below) (causes (view o log) b)) k)))
    stays b log (inr (inr (inr i))) = inr (inr (inr (comes_right (further (view o log) b) (rest (agenda o log)).parts i)))

    -- it is done, or left to do
    is_done : (newer older : List Entry) (e : Entry) → IsRun o (newer ++ e ∷ older) → AreActs newer → Arises rules o a e older →
        In (Then a) newer ⊎ IsLeftIn (newer ++ e ∷ older)
    is_done [] older e run acts h = inr (arises e older h)
    is_done (Begins d ∷ newer) older e run acts h = absurd acts
    is_done (Then b ∷ newer) older e run acts h = elim (is_done newer older e run.0 acts h) [
      | inl i ↦ inl (inr i)
      | inr k ↦
          (let g = agenda o (newer ++ e ∷ older) in
          elim (first_done g.now g.here g.behind g.parts b run.1 k) [
            | inl same ↦ inl (inl (ap Then same))
            | inr left ↦ inr (stays b (newer ++ e ∷ older) left)
          ])
    ]

pub all_is_done_lem : AllIsDone
all_is_done_lem o newer older e a run rests acts h = elim (is_done a o newer older e run acts h) [
  | inl i ↦ i
  | inr k ↦ (let g = agenda o (newer ++ e ∷ older) in absurd (none_left a g.now g.here g.behind g.parts rests k))
]
