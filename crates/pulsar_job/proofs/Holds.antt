-- The links, one round or one event further.
use Rattle.std.proofs.Common.{◌≡◌, ◌∙◌, ◌≤◌, ◌++◌, ◌==◌, ◌||◌, ◌⊎◌, inl, inr, ℕ, Bool, true, false, sym, ap, refl, List, [], ◌∷◌, append-nil, append_assoc, arith, Option, Some, None}
use Rattle.std.specs.List.{AllByRecursion}
use Rattle.std.proofs.lemmas.Bool.{eq-eqb}
use Rattle.std.proofs.lemmas.Bool.Decides.{eqb_tells}
use Rattle.pulsar_calls.specs.Content.{Opened}
use Rattle.pulsar_calls.specs.Steps.{Step}
use Rattle.pulsar_pumps.specs.Made.{Made, lost_in, pieces, written}
use Rattle.pulsar_pumps.specs.Outside.{Grows, Rose}
use Rattle.pulsar_pumps.proofs.Ran.{rose_then, then_rose}
use Rattle.pulsar_job.specs.Links.{Apart, AreLinks, Carries, LinkSeen, has_lost, heard_on, is_one_of, is_used, opens, uses, was_opened, written_on}
use Rattle.pulsar_job.specs.Driven.{IsUpToDate, LinkNow, Serves, fresh, grown, seen_of}
use Rattle.pulsar_job.proofs.Steps.{Passes, grown-heard, grown-heard-past, grown-lost, grown-lost-past, grown-opened, grown-used, grown-written, grown-written-past, itself, past-heard, past-lost, past-written, still-opened, unused-heard, unused-lost, unused-written, used-either}

or-either : (a b : Bool) → (a || b) ≡ true → (a ≡ true) ⊎ (b ≡ true)
or-either true b h = inl refl
or-either false b h = inr h

or-left : (a b : Bool) → a ≡ true → (a || b) ≡ true
or-left true b h = refl
or-left false b h = absurd cc

or-right : (a b : Bool) → b ≡ true → (a || b) ≡ true
or-right true b h = refl
or-right false b h = h

or-no-left : (a b : Bool) → (a || b) ≡ false → a ≡ false
or-no-left true b h = h
or-no-left false b h = refl

or-no-right : (a b : Bool) → (a || b) ≡ false → b ≡ false
or-no-right true b h = absurd cc
or-no-right false b h = h

pub turned : (a b : ℕ) → (a == b) ≡ false → (b == a) ≡ false
turned a b h = elim (eqb_tells b a) as (λ v. (b == a) ≡ false) [
  | inl same ↦ let no : true ≡ false = sym (eq-eqb a b (sym same.1)) ∙ h in absurd cc
  | inr other ↦ other.0
]

-- ANOTHER LINK

-- nothing that a link carries changes
pub record Leaves (h h' : List Step) (k : ℕ) : Type 0 where
  pub opened : was_opened k h ≡ true → was_opened k h' ≡ true
  pub heard : heard_on k h' ≡ heard_on k h
  pub written : written_on k h' ≡ written_on k h
  pub lost : has_lost k h' ≡ has_lost k h

pub carries-past : (h h' : List Step) (k : LinkSeen) → Leaves h h' k.number → Carries h k → Carries h' k
carries-past h h' k l c =
    record {
      opened = l.opened c.opened;
      heard = λ bytes e. l.heard ∙ c.heard bytes e;
      written = λ bytes e. let at = c.written bytes e in (at.0, l.written ∙ at.1, at.2);
      lost = λ e. c.lost (sym l.lost ∙ e);
    }

pub date-past : (h h' : List Step) (k : LinkNow) → Leaves h h' k.seen.number → IsUpToDate h k → IsUpToDate h' k
date-past h h' k l d = λ writes bytes e. l.written ∙ d writes bytes e

pub leaves-step : (k : ℕ) (s : Step) (h : List Step) → Passes k s.event → Leaves h (s ∷ h) k
leaves-step k s h p = record { opened = still-opened k s h; heard = past-heard k s h p; written = past-written k s h p; lost = past-lost k s h p }

leaves-grown : (l k : ℕ) (ms : List Made) (h : List Step) → Serves l ms → (l == k) ≡ false → Leaves h (grown ms h) k
leaves-grown l k ms h s not = record {
  opened = grown-opened k ms h;
  heard = grown-heard-past l k ms h s not;
  written = grown-written-past l k ms h s not;
  lost = grown-lost-past l k ms h s not;
}

-- ALL LINKS, WHERE ONE HAS CHANGED

module _ (h h' : List Step) (v v' : LinkNow) (same : v'.seen.number ≡ v.seen.number) (past : (k : ℕ) → (v.seen.number == k) ≡ false → Leaves h h' k) where
  all-past : (ls : List LinkNow) → is_one_of (seen_of ls) v.seen.number ≡ false → AllByRecursion (Carries h) (seen_of ls) → AllByRecursion (Carries h') (seen_of ls)
  all-past [] not all = tt
  all-past (k ∷ ls) not all = (
    carries-past h h' k.seen
        (past k.seen.number (turned k.seen.number v.seen.number (or-no-left (k.seen.number == v.seen.number) (is_one_of (seen_of ls) v.seen.number) not))) all.0,
    all-past ls (or-no-right (k.seen.number == v.seen.number) (is_one_of (seen_of ls) v.seen.number) not) all.1,
  )

  dates-past : (ls : List LinkNow) → is_one_of (seen_of ls) v.seen.number ≡ false → AllByRecursion (IsUpToDate h) ls → AllByRecursion (IsUpToDate h') ls
  dates-past [] not all = tt
  dates-past (k ∷ ls) not all = (
    date-past h h' k
        (past k.seen.number (turned k.seen.number v.seen.number (or-no-left (k.seen.number == v.seen.number) (is_one_of (seen_of ls) v.seen.number) not))) all.0,
    dates-past ls (or-no-right (k.seen.number == v.seen.number) (is_one_of (seen_of ls) v.seen.number) not) all.1,
  )

  -- the link is among them
  at-place : (before behind : List LinkNow) (k : ℕ) → (v.seen.number == k) ≡ true → is_one_of (seen_of (before ++ v ∷ behind)) k ≡ true
  at-place [] behind k is = or-left (v.seen.number == k) (is_one_of (seen_of behind) k) is
  at-place (a ∷ before) behind k is = or-right (a.seen.number == k) (is_one_of (seen_of (before ++ v ∷ behind)) k) (at-place before behind k is)

  not-first : (a : LinkNow) (before behind : List LinkNow) → is_one_of (seen_of (before ++ v ∷ behind)) a.seen.number ≡ false → (v.seen.number == a.seen.number) ≡ false
  not-first a [] behind not = or-no-left (v.seen.number == a.seen.number) (is_one_of (seen_of behind) a.seen.number) not
  not-first a (b ∷ before) behind not = not-first a before behind (or-no-right (b.seen.number == a.seen.number) (is_one_of (seen_of (before ++ v ∷ behind)) a.seen.number) not)

  pub all-changed : (before behind : List LinkNow) → Apart (seen_of (before ++ v ∷ behind)) → (Carries h v.seen → Carries h' v'.seen)
      → AllByRecursion (Carries h) (seen_of (before ++ v ∷ behind)) → AllByRecursion (Carries h') (seen_of (before ++ v' ∷ behind))
  all-changed [] behind once f all = (f all.0, all-past behind once.0 all.1)
  all-changed (a ∷ before) behind once f all =
      (carries-past h h' a.seen (past a.seen.number (not-first a before behind once.0)) all.0, all-changed before behind once.1 f all.1)

  pub dates-changed : (before behind : List LinkNow) → Apart (seen_of (before ++ v ∷ behind)) → (IsUpToDate h v → IsUpToDate h' v')
      → AllByRecursion (IsUpToDate h) (before ++ v ∷ behind) → AllByRecursion (IsUpToDate h') (before ++ v' ∷ behind)
  dates-changed [] behind once f all = (f all.0, dates-past behind once.0 all.1)
  dates-changed (a ∷ before) behind once f all =
      (date-past h h' a (past a.seen.number (not-first a before behind once.0)) all.0, dates-changed before behind once.1 f all.1)

  -- their numbers are the same
  pub same-numbers : (before behind : List LinkNow) (k : ℕ) → is_one_of (seen_of (before ++ v' ∷ behind)) k ≡ is_one_of (seen_of (before ++ v ∷ behind)) k
  same-numbers [] behind k = ap (λ n. (n == k) || is_one_of (seen_of behind) k) same
  same-numbers (a ∷ before) behind k = ap (λ b. (a.seen.number == k) || b) (same-numbers before behind k)

  pub apart-changed : (before behind : List LinkNow) → Apart (seen_of (before ++ v ∷ behind)) → Apart (seen_of (before ++ v' ∷ behind))
  apart-changed [] behind once = (ap (is_one_of (seen_of behind)) same ∙ once.0, once.1)
  apart-changed (a ∷ before) behind once = (same-numbers before behind a.seen.number ∙ once.0, apart-changed before behind once.1)

  pub links-changed : (before behind : List LinkNow) → (Carries h v.seen → Carries h' v'.seen)
      → ((k : ℕ) → is_used k h' ≡ true → ((v.seen.number == k) ≡ true) ⊎ (is_used k h ≡ true)) → AreLinks h (seen_of (before ++ v ∷ behind)) → AreLinks h' (seen_of (before ++ v' ∷ behind))
  links-changed before behind f used ls =
      record {
        all = all-changed before behind ls.once f ls.all;
        once = apart-changed before behind ls.once;
        others = λ k u. same-numbers before behind k ∙ elim (used k u) as (λ w. is_one_of (seen_of (before ++ v ∷ behind)) k ≡ true) [
          | inl this ↦ at-place before behind k this
          | inr old ↦ ls.others k old
        ];
      }

-- A ROUND

module _ (ms : List Made) (h : List Step) (v v' : LinkNow) (same : v'.seen.number ≡ v.seen.number) (serves : Serves v.seen.number ms) where
  pub round-links : (before behind : List LinkNow) → (Carries h v.seen → Carries (grown ms h) v'.seen) → AreLinks h (seen_of (before ++ v ∷ behind)) → AreLinks (grown ms h) (seen_of (before ++ v' ∷ behind))
  round-links before behind f ls =
      links-changed h (grown ms h) v v' same (λ k not. leaves-grown v.seen.number k ms h serves not) before behind f (λ k u. grown-used v.seen.number k ms h serves u) ls

  pub round-dates : (before behind : List LinkNow) → Apart (seen_of (before ++ v ∷ behind)) → (IsUpToDate h v → IsUpToDate (grown ms h) v')
      → AllByRecursion (IsUpToDate h) (before ++ v ∷ behind) → AllByRecursion (IsUpToDate (grown ms h)) (before ++ v' ∷ behind)
  round-dates before behind once f all =
      dates-changed h (grown ms h) v v' same (λ k not. leaves-grown v.seen.number k ms h serves not) before behind once f all

-- what is told now was told before
pub was-told : {A : Type 0} (old new : Option (List A)) (more bytes : List A) → Grows old new more → new ≡ Some bytes → (xs : List A) × (old ≡ Some xs) × (bytes ≡ xs ++ more)
was-told None new more bytes g is = let none : new ≡ None = g.1 refl in absurd cc
was-told (Some xs) new more bytes g is =
    let grown : new ≡ Some (xs ++ more) = g.0 xs refl in
    let same : bytes ≡ xs ++ more = cc in (xs, refl, same)

lost-either : (k : ℕ) (ms : List Made) (h : List Step) → Serves k ms → has_lost k (grown ms h) ≡ true → (has_lost k h ≡ true) ⊎ (lost_in ms ≡ true)
lost-either k ms h s e = or-either (has_lost k h) (lost_in ms) (sym (grown-lost k ms h s) ∙ e)

no-writes : (k : ℕ) (ms : List Made) (h : List Step) → Serves k ms → written ms ≡ [] → written_on k (grown ms h) ≡ written_on k h
no-writes k ms h s none = grown-written k ms h s ∙ ap (λ x. written_on k h ++ x) none ∙ append-nil (written_on k h)

no-pieces : (k : ℕ) (ms : List Made) (h : List Step) → Serves k ms → pieces ms ≡ [] → heard_on k (grown ms h) ≡ heard_on k h
no-pieces k ms h s none = grown-heard k ms h s ∙ ap (λ x. heard_on k h ++ x) none ∙ append-nil (heard_on k h)

-- the link of a round in
module _ (ms : List Made) (h : List Step) (v : LinkSeen) (given : Option (List ℕ)) (faults : ℕ) (s : Serves v.number ms) (none : written ms ≡ []) where
  pub carries-in : Grows v.given given (pieces ms ++ []) → v.input_faults ≤ faults → (lost_in ms ≡ true → Rose v.input_faults faults) → Carries h v → Carries (grown ms h) (record v { given = given; input_faults = faults })
  carries-in grows more lost c =
      record {
        opened = grown-opened v.number ms h c.opened;
        heard = λ bytes e. let at = was-told v.given given (pieces ms ++ []) bytes grows e in
            grown-heard v.number ms h s ∙ ap (λ x. x ++ pieces ms) (c.heard at.0 at.1) ∙ ap (λ x. at.0 ++ x) (sym (append-nil (pieces ms))) ∙ sym at.2;
        written = λ bytes e. let at = c.written bytes e in (at.0, no-writes v.number ms h s none ∙ at.1, at.2);
        lost = λ e. elim (lost-either v.number ms h s e) as (λ w. Rose 0 faults ⊎ Rose 0 v.output_faults) [
          | inl old ↦ elim (c.lost old) as (λ w. Rose 0 faults ⊎ Rose 0 v.output_faults) [
            | inl this ↦ inl (rose_then 0 v.input_faults faults (omega arith) this more)
            | inr other ↦ inr other
          ]
          | inr now ↦ inl (then_rose 0 v.input_faults faults (omega arith) (lost now))
        ];
      }

  pub date-in : (writes : Bool) → IsUpToDate h (record { seen = v; writes = writes }) → IsUpToDate (grown ms h) (record { seen = record v { given = given; input_faults = faults }; writes = writes })
  date-in writes d = λ is bytes e. no-writes v.number ms h s none ∙ d is bytes e

rest-rose : (rest : List ℕ) (f f' : ℕ) → (rest ≡ []) ⊎ Rose f f' → (rest ≡ []) ⊎ Rose 0 f'
rest-rose rest f f' (inl none) = inl none
rest-rose rest f f' (inr rose) = inr (then_rose 0 f f' (omega arith) rose)

-- the link of a round out
module _ (ms : List Made) (h : List Step) (v : LinkSeen) (taken : Option (List ℕ)) (faults : ℕ) (put rest : List ℕ) (s : Serves v.number ms) (none : pieces ms ≡ [])
    (writes : written ms ≡ put ++ rest) (grows : Grows v.taken taken put) (date : (bytes : List ℕ) → v.taken ≡ Some bytes → written_on v.number h ≡ bytes) where
  written-now : (bytes : List ℕ) → taken ≡ Some bytes → written_on v.number (grown ms h) ≡ bytes ++ rest
  written-now bytes e =
      let at = was-told v.taken taken put bytes grows e in
      grown-written v.number ms h s ∙ ap (λ x. x ++ written ms) (date at.0 at.1) ∙ ap (λ x. at.0 ++ x) writes ∙ sym (append_assoc at.0 put rest) ∙ ap (λ x. x ++ rest) (sym at.2)

  pub carries-out : v.output_faults ≤ faults → (rest ≡ []) ⊎ Rose v.output_faults faults → (lost_in ms ≡ true → Rose v.output_faults faults) → Carries h v
      → Carries (grown ms h) (record v { taken = taken; output_faults = faults })
  carries-out more cut lost c =
      record {
        opened = grown-opened v.number ms h c.opened;
        heard = λ bytes e. no-pieces v.number ms h s none ∙ c.heard bytes e;
        written = λ bytes e. (rest, written-now bytes e, rest-rose rest v.output_faults faults cut);
        lost = λ e. elim (lost-either v.number ms h s e) as (λ w. Rose 0 v.input_faults ⊎ Rose 0 faults) [
          | inl old ↦ elim (c.lost old) as (λ w. Rose 0 v.input_faults ⊎ Rose 0 faults) [
            | inl other ↦ inl other
            | inr this ↦ inr (rose_then 0 v.output_faults faults (omega arith) this more)
          ]
          | inr now ↦ inr (then_rose 0 v.output_faults faults (omega arith) (lost now))
        ];
      }

  pub date-out : (now : Bool) → (now ≡ true → rest ≡ []) → IsUpToDate (grown ms h) (record { seen = record v { taken = taken; output_faults = faults }; writes = now })
  date-out now all = λ is bytes e. written-now bytes e ∙ ap (λ x. bytes ++ x) (all is) ∙ append-nil bytes

-- AN EVENT OF NO ROUND

carries-step : (s : Step) (h : List Step) → ((k : ℕ) → Passes k s.event) → (ls : List LinkNow) → AllByRecursion (Carries h) (seen_of ls) → AllByRecursion (Carries (s ∷ h)) (seen_of ls)
carries-step s h past [] all = tt
carries-step s h past (k ∷ ls) all = (carries-past h (s ∷ h) k.seen (leaves-step k.seen.number s h (past k.seen.number)) all.0, carries-step s h past ls all.1)

pub dates-step : (s : Step) (h : List Step) → ((k : ℕ) → Passes k s.event) → (ls : List LinkNow) → AllByRecursion (IsUpToDate h) ls → AllByRecursion (IsUpToDate (s ∷ h)) ls
dates-step s h past [] all = tt
dates-step s h past (k ∷ ls) all = (date-past h (s ∷ h) k (leaves-step k.seen.number s h (past k.seen.number)) all.0, dates-step s h past ls all.1)

-- one that uses no link
pub links-step : (s : Step) (h : List Step) → ((k : ℕ) → Passes k s.event) → ((k : ℕ) → uses k s.event ≡ false) → (ls : List LinkNow) → AreLinks h (seen_of ls) → AreLinks (s ∷ h) (seen_of ls)
links-step s h past free ls links =
    record {
      all = carries-step s h past ls links.all;
      once = links.once;
      others = λ k u. elim (used-either k s h u) as (λ w. is_one_of (seen_of ls) k ≡ true) [
        | inl this ↦ let no : false ≡ true = sym (free k) ∙ this in absurd cc
        | inr old ↦ links.others k old
      ];
    }

-- a link is opened
one-more : (ls : List LinkNow) (v : LinkNow) (k : ℕ) → is_one_of (seen_of (ls ++ v ∷ [])) k ≡ (is_one_of (seen_of ls) k || ((v.seen.number == k) || false))
one-more [] v k = refl
one-more (a ∷ ls) v k = ap (λ b. (a.seen.number == k) || b) (one-more ls v k) ∙ or-assoc (a.seen.number == k) (is_one_of (seen_of ls) k) ((v.seen.number == k) || false)
  where
    or-assoc : (a b c : Bool) → (a || (b || c)) ≡ ((a || b) || c)
    or-assoc true b c = refl
    or-assoc false b c = refl

apart-more : (ls : List LinkNow) (v : LinkNow) → is_one_of (seen_of ls) v.seen.number ≡ false → Apart (seen_of ls) → Apart (seen_of (ls ++ v ∷ []))
apart-more [] v not once = (refl, tt)
apart-more (a ∷ ls) v not once = (
  one-more ls v a.seen.number
      ∙ ap (λ b. b || ((v.seen.number == a.seen.number) || false)) once.0
      ∙ ap (λ b. b || false) (turned a.seen.number v.seen.number (or-no-left (a.seen.number == v.seen.number) (is_one_of (seen_of ls) v.seen.number) not)),
  apart-more ls v (or-no-right (a.seen.number == v.seen.number) (is_one_of (seen_of ls) v.seen.number) not) once.1,
)

all-more : (h : List Step) (ls : List LinkNow) (v : LinkNow) → AllByRecursion (Carries h) (seen_of ls) → Carries h v.seen → AllByRecursion (Carries h) (seen_of (ls ++ v ∷ []))
all-more h [] v all c = (c, tt)
all-more h (a ∷ ls) v all c = (all.0, all-more h ls v all.1 c)

dates-more : (h : List Step) (ls : List LinkNow) (v : LinkNow) → AllByRecursion (IsUpToDate h) ls → IsUpToDate h v → AllByRecursion (IsUpToDate h) (ls ++ v ∷ [])
dates-more h [] v all c = (c, tt)
dates-more h (a ∷ ls) v all c = (all.0, dates-more h ls v all.1 c)

-- a half that has given or taken nothing
abbrev pub IsNew : Option (List ℕ) → Type 0
IsNew content = (bytes : List ℕ) → content ≡ Some bytes → bytes ≡ []

module _ (h : List Step) (s : Step) (ls : List LinkNow) (v : LinkSeen) (is : s.event ≡ Opened v.number) (past : (k : ℕ) → Passes k s.event)
    (free : is_one_of (seen_of ls) v.number ≡ false) (links : AreLinks h (seen_of ls)) (given : IsNew v.given) (taken : IsNew v.taken) where
  unused : (b : Bool) → is_used v.number h ≡ b → b ≡ false
  unused false e = refl
  unused true e = let no : true ≡ false = sym (links.others v.number e) ∙ free in absurd cc

  not-used : is_used v.number h ≡ false
  not-used = unused (is_used v.number h) refl

  opens-it : was_opened v.number (s ∷ h) ≡ true
  opens-it = or-left (opens v.number s.event) (was_opened v.number h) (ap (opens v.number) is ∙ itself v.number)

  new-written : (bytes : List ℕ) → v.taken ≡ Some bytes → written_on v.number (s ∷ h) ≡ bytes
  new-written bytes e = past-written v.number s h (past v.number) ∙ unused-written v.number h not-used ∙ sym (taken bytes e)

  new-carries : Carries (s ∷ h) v
  new-carries =
      record {
        opened = opens-it;
        heard = λ bytes e. past-heard v.number s h (past v.number) ∙ unused-heard v.number h not-used ∙ sym (given bytes e);
        written = λ bytes e. ([], new-written bytes e ∙ sym (append-nil bytes), inl refl);
        lost = λ e. let no : false ≡ true = sym (past-lost v.number s h (past v.number) ∙ unused-lost v.number h not-used) ∙ e in absurd cc;
      }

  pub links-opened : AreLinks (s ∷ h) (seen_of (ls ++ fresh v ∷ []))
  links-opened =
      record {
        all = all-more (s ∷ h) ls (fresh v) (carries-step s h past ls links.all) new-carries;
        once = apart-more ls (fresh v) free links.once;
        others = λ k u. one-more ls (fresh v) k ∙ elim (used-either k s h u) as (λ w. (is_one_of (seen_of ls) k || ((v.number == k) || false)) ≡ true) [
          | inl this ↦ or-right (is_one_of (seen_of ls) k) ((v.number == k) || false) (or-left (v.number == k) false (sym (ap (uses k) is) ∙ this))
          | inr old ↦ or-left (is_one_of (seen_of ls) k) ((v.number == k) || false) (links.others k old)
        ];
      }

  pub dates-opened : AllByRecursion (IsUpToDate h) ls → AllByRecursion (IsUpToDate (s ∷ h)) (ls ++ fresh v ∷ [])
  dates-opened all = dates-more (s ∷ h) ls (fresh v) (dates-step s h past ls all) (λ w bytes e. new-written bytes e)
