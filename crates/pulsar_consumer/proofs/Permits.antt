-- Permits: what remains of them stays in its bounds, whatever an engine does.
use Rattle.std.proofs.Common.{◌≡◌, ◌∙◌, sym, ap, refl, subst, ℕ, ◌+◌, ◌-◌, ◌≤◌, nat_lt, Bool, true, false, cond, List, [], ◌∷◌, ◌++◌, Option, Some, None, arith}
use Rattle.std.proofs.lemmas.Bool.Decides.{nat_tests}
use Rattle.std.specs.Option.{is_some, option_map}
use Rattle.pulsar_consumer.specs.Items.{Item}
use Rattle.pulsar_consumer.specs.Frames.{Frame}
use Rattle.pulsar_consumer.proofs.Held.{next_of}
use Rattle.pulsar_consumer.specs.DeadLetters.{Letter, lost_letter}
use Rattle.pulsar_consumer.specs.Redelivery.{Id, Kept, forget_one}
use Rattle.pulsar_consumer.specs.Topic.{Engine, Live, acked_by, advances, asked, begins, behind, copied, copy_failed, finish, finishes, finishes_by, gives, gives_from, gives_up, goes_on, half, hears, is_finished, is_pending, places, stops, takes_copy, takes_copy_from}

-- WHAT AN ENGINE KEEPS

abbrev pub Keeps : Engine → Engine → Type 0
Keeps d e = (d.queue ≡ e.queue) × (d.batch ≡ e.batch)

pub goes_keeps : (fs : List Frame) (e : Engine) → Keeps (goes_on fs e) e
goes_keeps [] e = by (is_finished e)
  where
    by : (b : Bool) → Keeps (cond b (finish e) e) e
    by true = (refl, refl)
    by false = (refl, refl)
goes_keeps (f ∷ fs) e = by (is_finished e) (goes_keeps fs (next_of f fs e))
  where
    by : (b : Bool) → Keeps (goes_on fs (next_of f fs e)) e → Keeps (cond b (goes_on fs (next_of f fs e)) e) e
    by true all = all
    by false all = (refl, refl)

pub advances_keeps : (d e : Engine) → Keeps d e → Keeps (advances d) e
advances_keeps d e all = let two = goes_keeps d.waiting (places d) in (two.0 ∙ all.0, two.1 ∙ all.1)

-- WHAT EACH CHANGE OF AN ENGINE KEEPS that goes on: what says nothing of its frames and items it keeps where going on keeps it

module _ (P B : Engine → Type 0) (weak : (e : Engine) → P e → B e) (on : (e : Engine) → B e → P (advances e))
    (bare : (e : Engine) (u r : List Item) (ls : List Letter) (o : Option Id) (w : List Frame) (k : Kept) → B e →
    B (record e { unread = u; rest = r; letters = ls; copying = o; waiting = w; kept = k })) where
  pub hears_so : (f : Frame) (e : Engine) → P e → P (hears f e)
  hears_so f e p =
      on (record e { waiting = e.waiting ++ f ∷ [] }) (bare e e.unread e.rest e.letters e.copying (e.waiting ++ f ∷ []) e.kept (weak e p))

  gives_from_so : (us : List Item) (e : Engine) → P e → P (gives_from us e)
  gives_from_so [] e p = p
  gives_from_so (x ∷ xs) e p = on (record e { unread = xs }) (bare e xs e.rest e.letters e.copying e.waiting e.kept (weak e p))

  pub gives_so : (e : Engine) → P e → P (gives e)
  gives_so e p = gives_from_so e.unread e p

  pub copied_so : (e : Engine) → P e → P (copied e)
  copied_so e p = by (is_some e.copying)
    where
      by : (b : Bool) → P (cond b (advances (record e { copying = None; kept = forget_one (acked_by e) e.kept })) e)
      by true =
          on (record e { copying = None; kept = forget_one (acked_by e) e.kept })
          (bare e e.unread e.rest e.letters None e.waiting (forget_one (acked_by e) e.kept) (weak e p))
      by false = p

  pub gives_up_so : (e : Engine) → B e → P (gives_up e)
  gives_up_so e p =
      on (record e { rest = e.rest ++ lost_letter ∷ []; letters = []; copying = None })
      (bare e e.unread (e.rest ++ lost_letter ∷ []) [] None e.waiting e.kept p)

  pub failed_so : (e : Engine) → P e → P (copy_failed e)
  failed_so e p = by (is_some e.copying)
    where
      by : (b : Bool) → P (cond b (gives_up e) e)
      by true = gives_up_so e (weak e p)
      by false = p

  pub stops_so : (e : Engine) → P (record e { stopped = true }) → P (stops e)
  stops_so e p = by (is_pending e)
    where
      by : (b : Bool) → P (cond b (gives_up (record e { stopped = true })) (record e { stopped = true }))
      by true = gives_up_so (record e { stopped = true }) (weak (record e { stopped = true }) p)
      by false = p

  pub takes_so : (e : Engine) → P e → ((ls : List Letter) (id : Id) → P (record e { letters = ls; copying = Some id })) → P (takes_copy e)
  takes_so e p q = by (is_some e.copying) e.letters
    where
      by : (b : Bool) (ls : List Letter) → P (cond b e (takes_copy_from ls e))
      by true ls = p
      by false [] = p
      by false (l ∷ ls) = q ls l.0

-- A SUBSCRIPTION THAT IS LOST STAYS SO

pub goes_dead : (fs : List Frame) (e : Engine) → e.live ≡ None → (goes_on fs e).live ≡ None
goes_dead [] e dead = by (is_finished e)
  where
    by : (b : Bool) → (cond b (finish e) e).live ≡ None
    by true = ap (option_map (finishes e.batch)) dead
    by false = dead
goes_dead (f ∷ fs) e dead =
    by (is_finished e) (goes_dead fs (next_of f fs e) (ap (λ l. option_map (begins f.weight) (option_map (finishes e.batch) l)) dead))
  where
    by : (b : Bool) → (goes_on fs (next_of f fs e)).live ≡ None → (cond b (goes_on fs (next_of f fs e)) e).live ≡ None
    by true all = all
    by false all = dead

pub advances_dead : (e : Engine) → e.live ≡ None → (advances e).live ≡ None
advances_dead e dead = goes_dead e.waiting (places e) dead

pub gives_dead : (e : Engine) → e.live ≡ None → (gives e).live ≡ None
gives_dead e dead = by e.unread
  where
    by : (us : List Item) → (gives_from us e).live ≡ None
    by [] = dead
    by (x ∷ xs) = advances_dead (record e { unread = xs }) dead

-- BOUNDS

abbrev pub Bounded : ℕ → Option Live → Type 0
Bounded batch None = Unit {0}
Bounded batch (Some l) = (l.level ≤ batch) × (half batch ≤ l.level)

abbrev pub Weightless : Option Live → Type 0
Weightless None = Unit {0}
Weightless (Some l) = l.weight ≡ 0

-- and no frame costs any once each is finished
abbrev pub InBounds : ℕ → Engine → Type 0
InBounds batch e = Bounded batch e.live × (is_finished e ≡ true → Weightless e.live)

half_below : (batch : ℕ) → half batch ≤ batch
half_below batch = omega arith

finishes_by_bounded : (batch : ℕ) (l : Live) → l.level ≤ batch → half batch ≤ l.level →
    Bounded batch (Some (finishes_by batch l)) × ((finishes_by batch l).weight ≡ 0)
finishes_by_bounded batch l most least = by (nat_lt l.level (half batch + l.weight)) refl
  where
    more : Live
    more = record l { level = batch; weight = 0; due = l.due ++ (batch + l.weight - l.level) ∷ [] }

    less : Live
    less = record l { level = l.level - l.weight; weight = 0 }

    by : (c : Bool) → nat_lt l.level (half batch + l.weight) ≡ c → Bounded batch (Some (cond c more less)) × ((cond c more less).weight ≡ 0)
    by true low = ((omega arith, half_below batch), refl)
    by false enough =
        let above : half batch + l.weight ≤ l.level = grind (arith, nat_tests) in
        ((omega (arith, most), omega (arith, above)), refl)

pub finish_bounded : (o : Option ℕ) (batch : ℕ) (l : Option Live) → o ≡ Some batch → Bounded batch l →
    Bounded batch (option_map (finishes o) l) × Weightless (option_map (finishes o) l)
finish_bounded None batch l is all = absurd cc
finish_bounded (Some b) batch None is all = (tt, tt)
finish_bounded (Some b) batch (Some l) is all =
    let same : b ≡ batch = cc in
    subst (λ n. Bounded batch (Some (finishes_by n l)) × ((finishes_by n l).weight ≡ 0)) (sym same) (finishes_by_bounded batch l all.0 all.1)

pub begin_bounded : (batch weight : ℕ) (l : Option Live) → Bounded batch l → Bounded batch (option_map (begins weight) l)
begin_bounded batch weight None all = tt
begin_bounded batch weight (Some l) all = all

pub goes_bounded : (fs : List Frame) (e : Engine) (batch : ℕ) → e.batch ≡ Some batch → Bounded batch e.live → InBounds batch (goes_on fs e)
goes_bounded [] e batch is all = by (is_finished e) refl
  where
    by : (b : Bool) → is_finished e ≡ b → InBounds batch (cond b (finish e) e)
    by true none = let two = finish_bounded e.batch batch e.live is all in (two.0, λ x. two.1)
    by false more = (all, λ none. absurd (let nay : true ≡ false = sym none ∙ more in cc))
goes_bounded (f ∷ fs) e batch is all =
    by (is_finished e) refl
    (goes_bounded fs (next_of f fs e) batch is (begin_bounded batch f.weight (finish e).live (finish_bounded e.batch batch e.live is all).0))
  where
    by : (b : Bool) → is_finished e ≡ b → InBounds batch (goes_on fs (next_of f fs e)) → InBounds batch (cond b (goes_on fs (next_of f fs e)) e)
    by true none next = next
    by false more next = (all, λ none. absurd (let nay : true ≡ false = sym none ∙ more in cc))

pub advances_bounded : (e : Engine) (batch : ℕ) → e.batch ≡ Some batch → Bounded batch e.live → InBounds batch (advances e)
advances_bounded e batch is all = goes_bounded e.waiting (places e) batch is all

pub subscribed_bounded : (batch : ℕ) → half batch ≤ batch
subscribed_bounded batch = half_below batch

-- A RAW ONE ASKS FOR NOTHING

abbrev pub Quiet : Option Live → Type 0
Quiet None = Unit {0}
Quiet (Some l) = l.due ≡ []

finish_quiet : (o : Option ℕ) (l : Option Live) → o ≡ None → Quiet l → Quiet (option_map (finishes o) l)
finish_quiet None None is all = tt
finish_quiet None (Some l) is all = all
finish_quiet (Some b) l is all = absurd cc

begin_quiet : (weight : ℕ) (l : Option Live) → Quiet l → Quiet (option_map (begins weight) l)
begin_quiet weight None all = tt
begin_quiet weight (Some l) all = all

pub asked_quiet : (l : Option Live) → Quiet l → Quiet (option_map asked l)
asked_quiet None all = tt
asked_quiet (Some l) all = ap behind all

pub goes_quiet : (fs : List Frame) (e : Engine) → e.batch ≡ None → Quiet e.live → Quiet (goes_on fs e).live
goes_quiet [] e is all = by (is_finished e)
  where
    by : (b : Bool) → Quiet (cond b (finish e) e).live
    by true = finish_quiet e.batch e.live is all
    by false = all
goes_quiet (f ∷ fs) e is all =
    by (is_finished e) (goes_quiet fs (next_of f fs e) is (begin_quiet f.weight (finish e).live (finish_quiet e.batch e.live is all)))
  where
    by : (b : Bool) → Quiet (goes_on fs (next_of f fs e)).live → Quiet (cond b (goes_on fs (next_of f fs e)) e).live
    by true next = next
    by false next = all

pub advances_quiet : (e : Engine) → e.batch ≡ None → Quiet e.live → Quiet (advances e).live
advances_quiet e is all = goes_quiet e.waiting (places e) is all
