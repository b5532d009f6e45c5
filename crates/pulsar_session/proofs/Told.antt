-- A place is told once at most.
use Rattle.std.proofs.Common.{◌≡◌, ◌∙◌, sym, ap, subst, refl, ℕ, ◌≤◌, ◌<◌, Bool, true, false, not, cond, List, [], ◌∷◌, ◌++◌, length, Option, Some, None, inl, inr, arith, append-nil}
use Rattle.std.proofs.lemmas.Bool.{cases_lt}
use Rattle.std.specs.Option.{is_some, option_to_list}
use Rattle.pulsar_session.specs.Link.{Act, Seen, Setup, after, seen}
use Rattle.pulsar_requests.specs.Waits.{Pending, request_at}
use Rattle.pulsar_session.specs.Laws.{NobodyIsTold, RequestOutcome, ToldOnce, settles, told_in, told_of}
use Rattle.pulsar_session.proofs.Settled.{at_after, grows, passes, rising}
use Rattle.pulsar_session.proofs.Steps.{Rises, absent_filter, found_filter, place_below}

record Silent (s : Setup) (place : ℕ) (later h : List Act) : Type 0 where
  told : told_of s place later h ≡ []
  absent : request_at place (seen s (later ++ h)).waits.waiting ≡ None
  below : place < (seen s (later ++ h)).waits.queued

silent : (s : Setup) (later h : List Act) (place : ℕ) → place < (seen s h).waits.queued → request_at place (seen s h).waits.waiting ≡ None → Silent s place later h
silent s [] h place lt none = record { told = refl; absent = none; below = lt }
silent s (act ∷ later) h place lt none =
    let x = silent s later h place lt none in
    let v = seen s (later ++ h) in
    let p = passes act v in
    let more = grows act v in
    record {
      told = ap (λ t. t ++ option_to_list (told_in act v place)) x.told ∙ ap option_to_list (p.silent place x.absent);
      absent = at_after act v place x.below ∙ absent_filter p.kept place v.waits.waiting x.absent;
      below = omega (arith, more, x.below);
    }

pub nobody_is_told : NobodyIsTold
nobody_is_told s later h place lt none = (silent s later h place lt none).told

-- what was told of a place so far
record Once (told : List RequestOutcome) (v : Seen) (place : ℕ) : Type 0 where
  once : length told ≤ 1
  waits : is_some (request_at place v.waits.waiting) ≡ true → told ≡ []
  comes : v.waits.queued ≤ place → told ≡ []

at_most_one : (o : Option RequestOutcome) → length (option_to_list o) ≤ 1
at_most_one None = omega arith
at_most_one (Some x) = omega arith

one_of : (told : List RequestOutcome) (o : Option RequestOutcome) → told ≡ [] → length (told ++ option_to_list o) ≤ 1
one_of told o e = let le = at_most_one o in subst (λ t. length (t ++ option_to_list o) ≤ 1) (sym e) le

none_of : (o : Option RequestOutcome) → is_some o ≡ false → o ≡ None
none_of None h = refl
none_of (Some x) h = absurd cc

not_not : (b : Bool) → b ≡ true → not b ≡ false
not_not true h = refl
not_not false h = absurd cc

kept_is : (b : Bool) (r : Pending) → is_some (cond b (Some r) None) ≡ true → b ≡ true
kept_is true r h = refl
kept_is false r h = absurd cc

next : (told : List RequestOutcome) (act : Act) (v : Seen) (place : ℕ) → Rises 0 v.waits.waiting v.waits.queued → Once told v place → Once (told ++ option_to_list (told_in act v place)) (after act v) place
next told act v place rise x = by (request_at place v.waits.waiting) refl
  where
    w : Seen
    w = after act v

    by : (o : Option Pending) → request_at place v.waits.waiting ≡ o → Once (told ++ option_to_list (told_in act v place)) w place
    by (Some r) at =
        let p = passes act v in
        let t = p.tells place r at rise in
        let empty = x.waits (ap is_some at) in
        let lt = place_below place 0 v.waits.waiting v.waits.queued r rise at in
        let more = grows act v in
        record {
          once = one_of told (told_in act v place) empty;
          waits = λ h.
              let found = at_after act v place lt ∙ found_filter p.kept place 0 v.waits.waiting v.waits.queued r rise at in
              let kept = kept_is (p.kept r) r (sym (ap is_some found) ∙ h) in
              let quiet = none_of (settles act v r) (t.1 ∙ not_not (p.kept r) kept) in
              ap (λ y. y ++ option_to_list (told_in act v place)) empty ∙ ap option_to_list (t.0 ∙ quiet);
          comes = λ le. absurd (omega (arith, le, lt, more));
        }
    by None at =
        let p = passes act v in
        let quiet = p.silent place at in
        let same : told ++ option_to_list (told_in act v place) ≡ told = ap (λ y. told ++ option_to_list y) quiet ∙ append-nil told in
        let more = grows act v in
        record {
          once = subst (λ t. length t ≤ 1) (sym same) x.once;
          waits = λ h. same ∙ x.comes (late h);
          comes = λ le. same ∙ x.comes (omega (arith, le, more));
        }
      where
        late : is_some (request_at place w.waits.waiting) ≡ true → v.waits.queued ≤ place
        late h = elim (cases_lt place v.waits.queued) [
          | inl lt ↦ absurd (let gone = at_after act v place lt ∙ absent_filter (passes act v).kept place v.waits.waiting at in let no = sym (ap is_some gone) ∙ h in cc)
          | inr le ↦ le
        ]

at_all : (s : Setup) (h : List Act) (place : ℕ) → Once (told_of s place h []) (seen s (h ++ [])) place
at_all s [] place = record { once = omega arith; waits = λ h. refl; comes = λ le. refl }
at_all s (act ∷ h) place = next (told_of s place h []) act (seen s (h ++ [])) place (rising s (h ++ [])) (at_all s h place)

pub told_once : ToldOnce
told_once s h place = (at_all s h place).once
