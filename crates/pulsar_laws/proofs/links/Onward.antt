-- A log and its history: what follows on two logs after which the same is seen, and the log of each part of a history.
use Rattle.std.proofs.Common.{◌≡◌, ◌⊎◌, inl, inr, ◌∙◌, sym, ap, List, [], ◌∷◌, ◌++◌, refl, map, append-nil, append_assoc}
use Rattle.pulsar_laws.proofs.ActWords.{Heard, Shown}
use Rattle.pulsar_laws.proofs.RunWords.{after, agenda, arranged, Begins, begun, Entry, first, IsRun, Options, parts, rest, rules, Then, view}
use Rattle.pulsar_calls.specs.Order.{effect_below}
use Rattle.pulsar_calls.specs.Steps.{Step}
use Rattle.pulsar_acts.specs.Effects.{effects}
use Rattle.pulsar_acts.specs.Run.{Rests, goes_on, steps}
use Rattle.pulsar_run.specs.Run.{in_order, only, steps_done, with_effects}
use Rattle.pulsar_laws.specs.Laws.{AreActs}
use Rattle.pulsar_laws.proofs.Cases.{none_some}

-- WHAT IS DONE UPON A LOG

-- the effects of acts upon a log
abbrev pub done_on : Options → List Entry → List Entry → List Shown
done_on o [] p = []
done_on o (Begins e ∷ xs) p = done_on o xs p
done_on o (Then x ∷ xs) p = done_on o xs p ++ effects (view o (xs ++ p)) x

-- and the steps of entries upon one
abbrev pub upon : Options → List Entry → List Entry → List Step
upon o [] p = []
upon o (Begins e ∷ xs) p = record { event = e; effects = [] } ∷ upon o xs p
upon o (Then x ∷ xs) p = with_effects (effects (view o (xs ++ p)) x) (upon o xs p)

-- the oldest of some entries is an event
abbrev IsFresh : List Entry → Type 0
IsFresh [] = Unit {0}
IsFresh (Begins e ∷ xs) = IsFresh xs
IsFresh (Then x ∷ []) = ⊥
IsFresh (Then x ∷ y ∷ xs) = IsFresh (y ∷ xs)

-- WHAT FOLLOWS ON TWO LOGS after which the same is seen

pub record Follows (o : Options) (xs p q : List Entry) : Type 0 where
  pub sees : view o (xs ++ p) ≡ view o (xs ++ q)
  pub alike : (Rests o (xs ++ p) × Rests o (xs ++ q)) ⊎ (agenda o (xs ++ p) ≡ agenda o (xs ++ q))
  pub run : IsRun o (xs ++ q)
  pub upon_same : upon o xs p ≡ upon o xs q

pub rests_on : (o : Options) (xs p q : List Entry) → Follows o xs p q → Rests o (xs ++ p) → Rests o (xs ++ q)
rests_on o xs p q f h = elim f.alike [ inl k ↦ k.1 | inr k ↦ ap first (sym k) ∙ h ]

pub follows : (o : Options) (xs p q : List Entry) → view o p ≡ view o q → Rests o p → Rests o q → IsRun o q → IsRun o (xs ++ p) → Follows o xs p q
follows o [] p q s a b r h = record { sees = s; alike = inl (a, b); run = r; upon_same = refl }
follows o (Begins e ∷ xs) p q s a b r h =
    let f = follows o xs p q s a b r h.0 in
    record {
      sees = ap (begun e) f.sees;
      alike = inr (ap (λ v. only (parts o v e)) f.sees);
      run = (f.run, rests_on o xs p q f h.1);
      upon_same = ap (λ ss. record { event = e; effects = [] } ∷ ss) f.upon_same;
    }
follows o (Then x ∷ xs) p q s a b r h =
    let f = follows o xs p q s a b r h.0 in
    elim f.alike [
      | inl k ↦ absurd (none_some (sym k.0 ∙ h.1))
      | inr k ↦ record {
        sees = ap (after x) f.sees;
        alike = inr (λ i. goes_on (f.sees i) x (rest (k i)));
        run = (f.run, ap first (sym k) ∙ h.1);
        upon_same = λ i. with_effects (effects (f.sees i) x) (f.upon_same i);
      }
    ]

-- a step has ended where an event follows
oldest : (o : Options) (x : Entry) (xs p : List Entry) → IsFresh (x ∷ xs) → IsRun o ((x ∷ xs) ++ p) → Rests o p
oldest o (Begins e) [] p k r = r.1
oldest o (Begins e) (y ∷ xs) p k r = oldest o y xs p k r.0
oldest o (Then a) [] p k r = absurd k
oldest o (Then a) (y ∷ xs) p k r = oldest o y xs p k r.0

pub rests_below : (o : Options) (xs p : List Entry) → IsFresh xs → IsRun o (xs ++ p) → Rests o (xs ++ p) → Rests o p
rests_below o [] p k r h = h
rests_below o (x ∷ xs) p k r h = oldest o x xs p k r

-- STEPS

filled : (o : Options) (x : Entry) (xs p : List Entry) → IsFresh (x ∷ xs) → (s : Step) × (ss : List Step) × (upon o (x ∷ xs) p ≡ s ∷ ss)
filled o (Begins e) xs p k = (record { event = e; effects = [] }, upon o xs p, refl)
filled o (Then a) [] p k = absurd k
filled o (Then a) (y ∷ xs) p k =
    let f = filled o y xs p k in
    let es = effects (view o ((y ∷ xs) ++ p)) a in
    (record { event = f.0.event; effects = f.0.effects ++ es }, f.1, ap (with_effects es) f.2)

front_with : (es : List Shown) (s : Step) (ss xs ts : List Step) → xs ≡ s ∷ ss → with_effects es (xs ++ ts) ≡ with_effects es xs ++ ts
front_with es s ss xs ts e = ap (λ ys. with_effects es (ys ++ ts)) e ∙ sym (ap (λ ys. with_effects es ys ++ ts) e)

steps_upon : (o : Options) (xs p : List Entry) → IsFresh xs → steps_done rules o (xs ++ p) ≡ upon o xs p ++ steps_done rules o p
steps_upon o [] p k = refl
steps_upon o (Begins e ∷ xs) p k = ap (λ ss. record { event = e; effects = [] } ∷ ss) (steps_upon o xs p k)
steps_upon o (Then a ∷ []) p k = absurd k
steps_upon o (Then a ∷ y ∷ xs) p k =
    let f = filled o y xs p k in
    let es = effects (view o ((y ∷ xs) ++ p)) a in
    ap (with_effects es) (steps_upon o (y ∷ xs) p k) ∙ front_with es f.0 f.1 (upon o (y ∷ xs) p) (steps_done rules o p) f.2

map_append : {A B : Type 0} (f : A → B) (xs ys : List A) → map f (xs ++ ys) ≡ map f xs ++ map f ys
map_append f [] ys = refl
map_append f (x ∷ xs) ys = ap (λ zs. f x ∷ zs) (map_append f xs ys)

pub steps_on : (o : Options) (xs p : List Entry) → IsFresh xs → steps o (xs ++ p) ≡ map (in_order effect_below) (upon o xs p) ++ steps o p
steps_on o xs p k =
    ap (map (in_order effect_below)) (steps_upon o xs p k) ∙ map_append (in_order effect_below) (upon o xs p) (steps_done rules o p)

cons_head : {A : Type 0} {x y : A} {xs ys : List A} → x ∷ xs ≡ y ∷ ys → x ≡ y
cons_head h = cc

cons_tail : {A : Type 0} {x y : A} {xs ys : List A} → x ∷ xs ≡ y ∷ ys → xs ≡ ys
cons_tail h = cc

-- THE LOG OF A PART OF A HISTORY

-- the step of an event and the acts upon it
pub acts_done : (o : Options) (xs : List Entry) (e : Heard) (old : List Entry) → AreActs xs →
    steps_done rules o (xs ++ Begins e ∷ old) ≡ record { event = e; effects = done_on o xs (Begins e ∷ old) } ∷ steps_done rules o old
acts_done o [] e old k = refl
acts_done o (Begins d ∷ xs) e old k = absurd k
acts_done o (Then x ∷ xs) e old k = ap (with_effects (effects (view o (xs ++ Begins e ∷ old)) x)) (acts_done o xs e old k)

twice_with : (xs ys : List Shown) (ss : List Step) → with_effects ys (with_effects xs ss) ≡ with_effects (xs ++ ys) ss
twice_with xs ys [] = refl
twice_with xs ys (s ∷ ss) = ap (λ es. record { event = s.event; effects = es } ∷ ss) (append_assoc s.effects xs ys)

none_with : (ss : List Step) → with_effects [] ss ≡ ss
none_with [] = refl
none_with (s ∷ ss) = ap (λ es. record { event = s.event; effects = es } ∷ ss) (append-nil s.effects)

-- the newest step of a log, which has further effects
record Newest (o : Options) (s : Step) (past : List Step) (log : List Entry) (more : List Shown) : Type 0 where
  acts : List Entry
  old : List Entry
  is : log ≡ acts ++ Begins s.event ∷ old
  are : AreActs acts
  done : s.effects ≡ arranged effect_below (done_on o acts (Begins s.event ∷ old) ++ more)
  past_is : past ≡ steps o old

newest : (o : Options) (s : Step) (past : List Step) (log : List Entry) (more : List Shown) →
    s ∷ past ≡ map (in_order effect_below) (with_effects more (steps_done rules o log)) → Newest o s past log more
newest o s past [] more h = absurd cc
newest o s past (Begins e ∷ log) more h = record {
  acts = [];
  old = log;
  is = ap (λ (t : Step). Begins t.event ∷ log) (sym (cons_head h));
  are = tt;
  done = ap (λ (t : Step). t.effects) (cons_head h);
  past_is = cons_tail h;
}
newest o s past (Then x ∷ log) more h =
    let es : List Shown = effects (view o log) x in
    let k : Newest o s past log (es ++ more) =
    newest o s past log (es ++ more) (h ∙ ap (map (in_order effect_below)) (twice_with es more (steps_done rules o log))) in
    let p : List Entry = Begins s.event ∷ k.old in
    record {
      acts = Then x ∷ k.acts;
      old = k.old;
      is = ap (λ xs. Then x ∷ xs) k.is;
      are = k.are;
      done =
          k.done
          ∙ ap (λ (xs : List Entry). arranged effect_below (done_on o k.acts p ++ (effects (view o xs) x ++ more))) k.is
          ∙ ap (arranged effect_below) (sym (append_assoc (done_on o k.acts p) (effects (view o (k.acts ++ p)) x) more));
      past_is = k.past_is;
    }

-- the newest steps of a log, which has further effects, up to one of them
record Upto_one (o : Options) (n : Step) (newer : List Step) (s : Step) (past : List Step) (log : List Entry) (more : List Shown) : Type 0 where
  x : Entry
  xs : List Entry
  acts : List Entry
  old : List Entry
  is : log ≡ (x ∷ xs) ++ (acts ++ Begins s.event ∷ old)
  fresh : IsFresh (x ∷ xs)
  are : AreActs acts
  newest_is : n ∷ newer ≡ map (in_order effect_below) (with_effects more (upon o (x ∷ xs) (acts ++ Begins s.event ∷ old)))
  done : s.effects ≡ arranged effect_below (done_on o acts (Begins s.event ∷ old))
  past_is : past ≡ steps o old

there : (o : Options) (n : Step) (newer : List Step) (s : Step) (past : List Step) (log : List Entry) (more : List Shown) →
    n ∷ (newer ++ s ∷ past) ≡ map (in_order effect_below) (with_effects more (steps_done rules o log)) → Upto_one o n newer s past log more
there o n newer s past [] more h = absurd cc
there o n newer s past (Then y ∷ log) more h =
    let es : List Shown = effects (view o log) y in
    let k : Upto_one o n newer s past log (es ++ more) =
    there o n newer s past log (es ++ more) (h ∙ ap (map (in_order effect_below)) (twice_with es more (steps_done rules o log))) in
    let ss : List Step = upon o (k.x ∷ k.xs) (k.acts ++ Begins s.event ∷ k.old) in
    record {
      x = Then y;
      xs = k.x ∷ k.xs;
      acts = k.acts;
      old = k.old;
      is = ap (λ ys. Then y ∷ ys) k.is;
      fresh = k.fresh;
      are = k.are;
      newest_is =
          k.newest_is ∙ ap (map (in_order effect_below)) (sym (twice_with es more ss))
          ∙ ap (λ (ys : List Entry). map (in_order effect_below) (with_effects more (with_effects (effects (view o ys) y) ss))) k.is;
      done = k.done;
      past_is = k.past_is;
    }
there o n [] s past (Begins e ∷ log) more h =
    let k : Newest o s past log [] =
    newest o s past log [] (cons_tail h ∙ ap (map (in_order effect_below)) (sym (none_with (steps_done rules o log)))) in
    record {
      x = Begins e;
      xs = [];
      acts = k.acts;
      old = k.old;
      is = ap (λ ys. Begins e ∷ ys) k.is;
      fresh = tt;
      are = k.are;
      newest_is = ap (λ t. t ∷ []) (cons_head h);
      done = k.done ∙ ap (arranged effect_below) (append-nil (done_on o k.acts (Begins s.event ∷ k.old)));
      past_is = k.past_is;
    }
there o n (m ∷ newer) s past (Begins e ∷ log) more h =
    let k : Upto_one o m newer s past log [] =
    there o m newer s past log [] (cons_tail h ∙ ap (map (in_order effect_below)) (sym (none_with (steps_done rules o log)))) in
    record {
      x = Begins e;
      xs = k.x ∷ k.xs;
      acts = k.acts;
      old = k.old;
      is = ap (λ ys. Begins e ∷ ys) k.is;
      fresh = k.fresh;
      are = k.are;
      newest_is =
          λ i. cons_head h i
          ∷ (k.newest_is ∙ ap (map (in_order effect_below)) (none_with (upon o (k.x ∷ k.xs) (k.acts ++ Begins s.event ∷ k.old)))) i;
      done = k.done;
      past_is = k.past_is;
    }

-- the log of a history, cut at one of its steps
pub record Upto (o : Options) (newer : List Step) (s : Step) (past : List Step) (log : List Entry) : Type 0 where
  pub xs : List Entry
  pub acts : List Entry
  pub old : List Entry
  pub is : log ≡ xs ++ (acts ++ Begins s.event ∷ old)
  pub fresh : IsFresh xs
  pub are : AreActs acts
  pub newest_is : newer ≡ map (in_order effect_below) (upon o xs (acts ++ Begins s.event ∷ old))
  pub done : s.effects ≡ arranged effect_below (done_on o acts (Begins s.event ∷ old))
  pub past_is : past ≡ steps o old

pub upto : (o : Options) (newer : List Step) (s : Step) (past : List Step) (log : List Entry) → newer ++ s ∷ past ≡ steps o log → Upto o newer s past log
upto o [] s past log h =
    let k : Newest o s past log [] = newest o s past log [] (h ∙ ap (map (in_order effect_below)) (sym (none_with (steps_done rules o log)))) in
    record {
      xs = [];
      acts = k.acts;
      old = k.old;
      is = k.is;
      fresh = tt;
      are = k.are;
      newest_is = refl;
      done = k.done ∙ ap (arranged effect_below) (append-nil (done_on o k.acts (Begins s.event ∷ k.old)));
      past_is = k.past_is;
    }
upto o (n ∷ newer) s past log h =
    let k : Upto_one o n newer s past log [] =
    there o n newer s past log [] (h ∙ ap (map (in_order effect_below)) (sym (none_with (steps_done rules o log)))) in
    record {
      xs = k.x ∷ k.xs;
      acts = k.acts;
      old = k.old;
      is = k.is;
      fresh = k.fresh;
      are = k.are;
      newest_is = k.newest_is ∙ ap (map (in_order effect_below)) (none_with (upon o (k.x ∷ k.xs) (k.acts ++ Begins s.event ∷ k.old)));
      done = k.done;
      past_is = k.past_is;
    }
