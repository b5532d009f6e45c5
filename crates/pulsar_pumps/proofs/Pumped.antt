-- A pump is its rounds, one after the other.
use Rattle.std.proofs.Common.{◌≡◌, ◌∙◌, ℕ, ap, sym, subst, refl, List, [], ◌∷◌, ◌++◌, append_assoc, Bool, true, false}
use Rattle.std.specs.Prelude.{◌||◌, Option, Some, None}
use Rattle.pulsar_pumps.specs.declared.rounds.PumpEnd.{PumpEnd}
use Rattle.pulsar_pumps.specs.declared.rounds.PumpEnd.TheVariants as pump_end
use Rattle.pulsar_pumps.specs.Made.{Made, is_lost, lost_in}
use Rattle.pulsar_pumps.specs.Pumping.{End, EndsDry, EndsLost, LastAfter, LastIn, LastOut, LeftAfter, LeftAt, MadeIn, MadeOut, RanIn, RanOut, end, is_ended, is_loss, says_ended, says_loss}
use Rattle.pulsar_pumps.proofs.Ran.{in_then, lost_behind, out_then}

-- WHICH ROUNDS MAKE A LOST

or_false : (b : Bool) → (b || false) ≡ b
or_false true = refl
or_false false = refl

one : (m : Made) (b : Bool) → is_lost m.event ≡ b → lost_in (m ∷ []) ≡ b
one m b e = or_false (is_lost m.event) ∙ e

pub lost_of_in : (l : ℕ) (e : PumpEnd) (ms : List Made) → MadeIn l (Some e) ms → lost_in ms ≡ is_loss e
lost_of_in l pump_end.LinkEnded ms h = ap lost_in h
lost_of_in l pump_end.Lost ms h = ap lost_in h.1 ∙ one h.0 true (ap is_lost h.2)
lost_of_in l pump_end.Idle ms h = absurd h

pub lost_of_none : (l : ℕ) (ms : List Made) → MadeIn l None ms → lost_in ms ≡ false
lost_of_none l ms h = ap lost_in h.2 ∙ one h.0 false (ap is_lost h.3)

pub lost_of_out : (l : ℕ) (e : PumpEnd) (ms : List Made) (rest : List ℕ) → MadeOut l (Some e) ms rest → lost_in ms ≡ is_loss e
lost_of_out l pump_end.LinkEnded ms rest h = ap lost_in h.0
lost_of_out l pump_end.Lost ms rest h = ap lost_in h.2 ∙ (ap (λ e. is_lost e || lost_in (h.1 ∷ [])) h.3 ∙ one h.1 true (ap is_lost h.4))
lost_of_out l pump_end.Idle ms rest h = ap lost_in h.1 ∙ one h.0 false (ap is_lost h.2)

pub lost_of_out_none : (l : ℕ) (ms : List Made) (rest : List ℕ) → MadeOut l None ms rest → lost_in ms ≡ false
lost_of_out_none l ms rest h = ap lost_in h.1 ∙ one h.0 false (ap is_lost h.2)

-- HOW THEY END

last_of_in : (l : ℕ) (e : PumpEnd) (ms : List Made) → MadeIn l (Some e) ms → LastIn l e ms
last_of_in l pump_end.LinkEnded ms h = tt
last_of_in l pump_end.Lost ms h = ([], h.0, h.1, h.2, refl)
last_of_in l pump_end.Idle ms h = h

last_of_out : (l : ℕ) (e : PumpEnd) (ms : List Made) (rest : List ℕ) → MadeOut l (Some e) ms rest → LastOut l e ms
last_of_out l pump_end.LinkEnded ms rest h = tt
last_of_out l pump_end.Lost ms rest h = (h.0 ∷ [], h.1, h.2, h.4, one h.0 false (ap is_lost h.3))
last_of_out l pump_end.Idle ms rest h = ([], h.0, h.1, h.2, h.3)

behind_lost : (l : ℕ) (xs ys : List Made) → lost_in xs ≡ false → EndsLost l ys → EndsLost l (xs ++ ys)
behind_lost l xs ys p h =
    (xs ++ h.0, h.1, ap (λ z. xs ++ z) h.2 ∙ sym (append_assoc xs h.0 (h.1 ∷ [])), h.3, lost_behind xs h.0 false p h.4)

behind_in : (l : ℕ) (e : PumpEnd) (xs ys : List Made) → lost_in xs ≡ false → LastIn l e ys → LastIn l e (xs ++ ys)
behind_in l pump_end.LinkEnded xs ys p h = tt
behind_in l pump_end.Lost xs ys p h = behind_lost l xs ys p h
behind_in l pump_end.Idle xs ys p h = h

behind_out : (l : ℕ) (e : PumpEnd) (xs ys : List Made) → lost_in xs ≡ false → LastOut l e ys → LastOut l e (xs ++ ys)
behind_out l pump_end.LinkEnded xs ys p h = tt
behind_out l pump_end.Lost xs ys p h = behind_lost l xs ys p h
behind_out l pump_end.Idle xs ys p h = (xs ++ h.0, h.1, ap (λ z. xs ++ z) h.2 ∙ sym (append_assoc xs h.0 (h.1 ∷ [])), h.3, h.4)

-- PUMPS IN

-- the rounds so far
abbrev pub SoFarIn : ℕ → End → End → Type 0
SoFarIn l s t = (more : List Made) × RanIn l s t more [] × (lost_in more ≡ false)

module _ (l : ℕ) (s t u : End) where
  pub in_ends : (r : Option PumpEnd) (e : PumpEnd) → r ≡ Some e → SoFarIn l s t → (more : List Made) × RanIn l t u more [] × MadeIn l r more → (more : List Made) × RanIn l s u more [] × (lost_in more ≡ is_loss e) × LastIn l e more
  in_ends r e is p q =
      let made : MadeIn l (Some e) q.0 = subst (λ (x : Option PumpEnd). MadeIn l x q.0) is q.2 in (
        p.0 ++ q.0,
        in_then l s t u p.0 q.0 [] p.1 q.1,
        lost_behind p.0 q.0 (is_loss e) p.2 (lost_of_in l e q.0 made),
        behind_in l e p.0 q.0 p.2 (last_of_in l e q.0 made),
      )

  pub in_goes_on : (r : Option PumpEnd) → r ≡ None → SoFarIn l s t → (more : List Made) × RanIn l t u more [] × MadeIn l r more → SoFarIn l s u
  in_goes_on r is p q =
      let made : MadeIn l None q.0 = subst (λ (x : Option PumpEnd). MadeIn l x q.0) is q.2 in
      (p.0 ++ q.0, in_then l s t u p.0 q.0 [] p.1 q.1, lost_behind p.0 q.0 false p.2 (lost_of_none l q.0 made))

  pub in_fails : SoFarIn l s t → (more : List Made) × (rest : List ℕ) × RanIn l t u more rest → (more : List Made) × (rest : List ℕ) × RanIn l s u more rest
  in_fails p q = (p.0 ++ q.0, q.1, in_then l s t u p.0 q.0 q.1 p.1 q.2)

-- what a round says of an ended link, said by the pump
pub still : (P : Type 0) (r : Option PumpEnd) (e : PumpEnd) → r ≡ Some e → (says_ended r ≡ true → P) → is_ended e ≡ true → P
still P r e is f h = f (ap says_ended is ∙ h)

-- PUMPS OUT

abbrev pub SoFarOut : ℕ → End → End → Type 0
SoFarOut l s t = (more : List Made) × RanOut l s t more [] × (lost_in more ≡ false)

left_at : (l : ℕ) (e : PumpEnd) (ms : List Made) (rest : List ℕ) → MadeOut l (Some e) ms rest → LeftAt e rest
left_at l pump_end.LinkEnded ms rest h = h.1
left_at l pump_end.Lost ms rest h = tt
left_at l pump_end.Idle ms rest h = h.4

-- a round as a turn
turn_same : (l : ℕ) (s t : End) (r : Option PumpEnd) → (more : List Made) × (rest : List ℕ) × RanOut l s t more rest × MadeOut l r more rest →
    (more : List Made) × (rest : List ℕ) × RanOut l s t more rest × (lost_in more ≡ says_loss r) × LeftAfter r rest × LastAfter l r more
turn_same l s t (Some e) h = (h.0, h.1, h.2, lost_of_out l e h.0 h.1 h.3, left_at l e h.0 h.1 h.3, last_of_out l e h.0 h.1 h.3)
turn_same l s t None h = (h.0, h.1, h.2, lost_of_out_none l h.0 h.1 h.3, h.3.4, tt)

pub turn_ends : (l : ℕ) (s t : End) (r q : Option PumpEnd) → r ≡ q → (more : List Made) × (rest : List ℕ) × RanOut l s t more rest × MadeOut l r more rest →
    (more : List Made) × (rest : List ℕ) × RanOut l s t more rest × (lost_in more ≡ says_loss q) × LeftAfter q rest × LastAfter l q more
turn_ends l s t r q is h =
    let there : MadeOut l q h.0 h.1 = subst (λ (x : Option PumpEnd). MadeOut l x h.0 h.1) is h.3 in
    turn_same l s t q (h.0, h.1, h.2, there)

-- nothing was written, and the submitter tells the same
pub turn_idle : (l : ℕ) (s : End) (made : List Made) (told told' : Option (List Made)) (bytes : Option (List ℕ)) (faults : ℕ) (r : Option PumpEnd) (e : PumpEnd) → r ≡ Some e → e ≡ pump_end.Idle → told' ≡ told →
    (more : List Made) × (rest : List ℕ) × RanOut l s (end made told bytes faults) more rest × MadeOut l r more rest →
    (more : List Made) × (rest : List ℕ) × RanOut l s (end made told' bytes faults) more rest × (lost_in more ≡ false) × (rest ≡ []) × EndsDry l more
turn_idle l s made told told' bytes faults r e is idle same h =
    let there : MadeOut l (Some pump_end.Idle) h.0 h.1 = subst (λ (x : Option PumpEnd). MadeOut l x h.0 h.1) (is ∙ ap Some idle) h.3 in
    let ran : RanOut l s (end made told' bytes faults) h.0 h.1 = subst (λ (x : Option (List Made)). RanOut l s (end made x bytes faults) h.0 h.1) (sym same) h.2 in
    (h.0, h.1, ran, lost_of_out l pump_end.Idle h.0 h.1 there, there.4, last_of_out l pump_end.Idle h.0 h.1 there)

-- then it goes on
pub turn_waited : (l : ℕ) (s t : End) → (more : List Made) × (rest : List ℕ) × RanOut l s t more rest × (lost_in more ≡ false) × (rest ≡ []) × EndsDry l more →
    (more : List Made) × (rest : List ℕ) × RanOut l s t more rest × (lost_in more ≡ false) × (rest ≡ []) × Unit {0}
turn_waited l s t h = (h.0, h.1, h.2, h.3, h.4, tt)

pub turn_fails : (l : ℕ) (s : End) (made : List Made) (told told' : Option (List Made)) (bytes : Option (List ℕ)) (faults : ℕ) (r : Option PumpEnd) → told' ≡ told →
    (more : List Made) × (rest : List ℕ) × RanOut l s (end made told bytes faults) more rest × MadeOut l r more rest →
    (more : List Made) × (rest : List ℕ) × RanOut l s (end made told' bytes faults) more rest
turn_fails l s made told told' bytes faults r same h =
    (h.0, h.1, subst (λ (x : Option (List Made)). RanOut l s (end made x bytes faults) h.0 h.1) (sym same) h.2)

module _ (l : ℕ) (s t u : End) where
  pub out_ends : (r : Option PumpEnd) (e : PumpEnd) → r ≡ Some e → SoFarOut l s t → (more : List Made) × (rest : List ℕ) × RanOut l t u more rest × (lost_in more ≡ says_loss r) × LeftAfter r rest × LastAfter l r more →
      (more : List Made) × (rest : List ℕ) × RanOut l s u more rest × (lost_in more ≡ is_loss e) × LeftAt e rest × LastOut l e more
  out_ends r e is p q = (
    p.0 ++ q.0,
    q.1,
    out_then l s t u p.0 q.0 q.1 p.1 q.2,
    lost_behind p.0 q.0 (is_loss e) p.2 (q.3 ∙ ap says_loss is),
    subst (λ (x : Option PumpEnd). LeftAfter x q.1) is q.4,
    behind_out l e p.0 q.0 p.2 (subst (λ (x : Option PumpEnd). LastAfter l x q.0) is q.5),
  )

  pub out_goes_on : (r : Option PumpEnd) → r ≡ None → SoFarOut l s t → (more : List Made) × (rest : List ℕ) × RanOut l t u more rest × (lost_in more ≡ says_loss r) × LeftAfter r rest × LastAfter l r more → SoFarOut l s u
  out_goes_on r is p q =
      let none : q.1 ≡ [] = subst (λ (x : Option PumpEnd). LeftAfter x q.1) is q.4 in
      let whole : RanOut l t u q.0 [] = subst (λ (x : List ℕ). RanOut l t u q.0 x) none q.2 in
      (p.0 ++ q.0, out_then l s t u p.0 q.0 [] p.1 whole, lost_behind p.0 q.0 false p.2 (q.3 ∙ ap says_loss is))

  pub out_fails : SoFarOut l s t → (more : List Made) × (rest : List ℕ) × RanOut l t u more rest → (more : List Made) × (rest : List ℕ) × RanOut l s u more rest
  out_fails p q = (p.0 ++ q.0, q.1, out_then l s t u p.0 q.0 q.1 p.1 q.2)
