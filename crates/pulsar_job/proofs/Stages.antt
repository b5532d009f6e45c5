-- The calls of a job, one step further, and how it came out.
use Rattle.std.proofs.Common.{◌≡◌, ◌∙◌, ◌≤◌, ◌+◌, ◌-◌, ◌++◌, inl, inr, ℕ, zero, suc, Bool, true, false, sym, ap, subst, refl, List, [], ◌∷◌, length, length-append, append-nil, append_assoc, take, arith, Some, None}
use Rattle.std.specs.Prelude.{slice_get}
use Rattle.std.specs.List.{flat_map}
use Rattle.std.proofs.lemmas.List.{length-map, take-append-le, take_all}
use Rattle.pulsar_messages.specs.Message.{bare}
use Rattle.pulsar_calls.specs.Content.{Asked, Build, Stop, Send, Consumer, Called, Heard, Shown}
use Rattle.pulsar_calls.specs.Steps.{Step}
use Rattle.pulsar_pumps.specs.Made.{Made}
use Rattle.pulsar_work.specs.Asking.{IsAllAsked, IsTaking, Stops, call_at}
use Rattle.pulsar_work.specs.Calls.{Work, Sends, Takes, HasError, IsWhole, NotBuilt, Stopped, ack_of, call_of, calls, consumer_of, has_ended_well, work}
use Rattle.pulsar_work.specs.Progress.{Knows, is_empty, owed_ack}
use Rattle.pulsar_work.specs.Report.{effects_of, errors_of}
use Rattle.pulsar_work.specs.declared.progress.Progress.{Progress}
use Rattle.pulsar_job.specs.Driven.{AreAcks, AreFirst, Asks, Calling, ComesOut, HasStopped, IsComplete, Learns, Serves, Submits, Works, effects_made, grown, plan, step_made}
use Rattle.pulsar_job.proofs.Steps.{grown-effects, quiet-calls, serves-call}

-- NO CALL

module _ (w : Work) (acked : List Asked) (n : ℕ) (failed : Bool) (s : Step) (h : List Step) (none : call_of s.event ≡ []) where
  pub calling-step : (stopped : Bool) → Calling w h acked n stopped failed → Calling w (s ∷ h) acked n stopped failed
  calling-step false c = subst (AreFirst w acked n) (sym (quiet-calls s h none)) c
  calling-step true c =
      record {
        before = c.before;
        after = s ∷ c.after;
        last = c.last;
        apart = ap (λ t. s ∷ t) c.apart;
        stops = c.stops;
        none = quiet-calls s c.after none ∙ c.none;
        others = c.others;
        one = c.one;
        first = c.first;
        built = c.built;
        bad = c.bad;
        good = c.good;
      }

pub calling-grown : (w : Work) (acked : List Asked) (n : ℕ) (failed stopped : Bool) (l : ℕ) (ms : List Made) (h : List Step) → Serves l ms → Calling w h acked n stopped failed → Calling w (grown ms h) acked n stopped failed
calling-grown w acked n failed stopped l [] h s c = c
calling-grown w acked n failed stopped l (m ∷ ms) h s c =
    calling-grown w acked n failed stopped l ms (step_made m ∷ h) s.1 (calling-step w acked n failed (step_made m) h (serves-call l m.event s.0) stopped c)

-- the same, where the progress tells the same of the calls
pub calling-same : (w : Work) (h : List Step) (acked : List Asked) (p q : Progress) → length q.ended.items ≡ length p.ended.items → q.stopped ≡ p.stopped → q.failed_before ≡ p.failed_before
    → Calling w h acked (length p.ended.items) p.stopped p.failed_before → Calling w h acked (length q.ended.items) q.stopped q.failed_before
calling-same w h acked p q n stopped before c =
    let one : Calling w h acked (length q.ended.items) p.stopped p.failed_before = subst (λ k. Calling w h acked k p.stopped p.failed_before) (sym n) c in
    let two : Calling w h acked (length q.ended.items) q.stopped p.failed_before = subst (λ b. Calling w h acked (length q.ended.items) b p.failed_before) (sym stopped) one in
    subst (λ b. Calling w h acked (length q.ended.items) q.stopped b) (sym before) two

pub works-grown : (w : Work) (l : ℕ) (ms : List Made) (h : List Step) (p q : Progress) → Serves l ms → Learns (effects_made ms) p q → Works w h p → Works w (grown ms h) q
works-grown w l ms h p q s learns works =
    record {
      acked = works.acked;
      knows = subst (λ es. Knows q es works.acked) (sym (grown-effects ms h)) (learns.knows (effects_of h) works.acked works.knows);
      calling = calling-same w (grown ms h) works.acked p q learns.calls learns.stopped learns.before
          (calling-grown w works.acked (length p.ended.items) p.failed_before p.stopped l ms h s works.calling);
    }

pub works-step : (w : Work) (e : Heard) (h h' : List Step) (p q : Progress) → call_of e ≡ [] → Submits e h h' p q → Works w h p → Works w h' q
works-step w e h h' p q none submits works =
    let s : Step = record { event = e; effects = submits.out } in
    subst (λ t. Works w t q) (sym submits.step)
    (record {
      acked = works.acked;
      knows = submits.learns.knows (effects_of h) works.acked works.knows;
      calling = calling-same w (s ∷ h) works.acked p q submits.learns.calls submits.learns.stopped submits.learns.before
          (calling-step w works.acked (length p.ended.items) p.failed_before s h none p.stopped works.calling);
    })

-- another progress, of which the same is known
pub works-same : (w : Work) (h : List Step) (p q : Progress) → ((es : List Shown) (acked : List Asked) → Knows p es acked → Knows q es acked)
    → length q.ended.items ≡ length p.ended.items → q.stopped ≡ p.stopped → q.failed_before ≡ p.failed_before → Works w h p → Works w h q
works-same w h p q knows n stopped before works =
    record {
      acked = works.acked;
      knows = knows (effects_of h) works.acked works.knows;
      calling = calling-same w h works.acked p q n stopped before works.calling;
    }

-- A CALL

-- while no last call was made
pub still : (w : Work) (h : List Step) (acked : List Asked) (n : ℕ) (stopped failed : Bool) → stopped ≡ false → Calling w h acked n stopped failed → AreFirst w acked n (calls h)
still w h acked n false failed e c = c
still w h acked n true failed e c = absurd cc

pub once-stopped : (w : Work) (h : List Step) (acked : List Asked) (n : ℕ) (stopped failed : Bool) → stopped ≡ true → Calling w h acked n stopped failed → HasStopped w h acked n failed
once-stopped w h acked n true failed e c = c
once-stopped w h acked n false failed e c = absurd cc

pub begun : (w : Work) (h : List Step) (acked : List Asked) (n : ℕ) (stopped failed : Bool) → stopped ≡ false → AreFirst w acked n (calls h) → Calling w h acked n stopped failed
begun w h acked n false failed e c = c
begun w h acked n true failed e c = absurd cc

take-next : (xs : List Asked) (n : ℕ) (x : Asked) → slice_get xs n ≡ Some x → take (suc n) xs ≡ take n xs ++ x ∷ []
take-next [] n x h = absurd cc
take-next (y ∷ xs) zero x h = let same : y ≡ x = cc in ap (λ z. z ∷ []) same
take-next (y ∷ xs) (suc n) x h = ap (λ z. y ∷ z) (take-next xs n x h)

plan-next : (w : Work) (acked : List Asked) (n : ℕ) (c : Asked) → call_at w n ≡ Some c → slice_get (plan w acked) n ≡ Some c
plan-next (Sends topic lines) acked zero c h = h
plan-next (Sends topic lines) acked (suc zero) c h = h
plan-next (Sends topic lines) acked (suc (suc n)) c h = h
plan-next (Takes topic subscription count) acked zero c h = h
plan-next (Takes topic subscription count) acked (suc zero) c h = h
plan-next (Takes topic subscription count) acked (suc (suc n)) c h = absurd cc

acks-next : (w : Work) (acked : List Asked) (n : ℕ) (c : Asked) → call_at w n ≡ Some c → AreAcks w acked n → AreAcks w acked (n + 1)
acks-next (Sends topic lines) acked n c h a = a
acks-next (Takes topic subscription count) acked zero c h a = omega (arith, a)
acks-next (Takes topic subscription count) acked (suc zero) c h a = omega (arith, a)
acks-next (Takes topic subscription count) acked (suc (suc n)) c h a = absurd cc

up : (n : ℕ) → n + 1 ≡ suc n
up n = omega arith

pub first-called : (w : Work) (acked : List Asked) (n : ℕ) (cs : List Asked) (c : Asked) → call_at w n ≡ Some c → AreFirst w acked n cs → AreFirst w acked (n + 1) (cs ++ c ∷ [])
first-called w acked n cs c at f =
    record {
      front = ap (λ xs. xs ++ c ∷ []) f.front ∙ sym (ap (λ k. take k (plan w acked)) (up n) ∙ take-next (plan w acked) n c (plan-next w acked n c at));
      size = length-append cs (c ∷ []) ∙ ap (λ k. k + 1) f.size;
      acks = acks-next w acked n c at f.acks;
    }

-- all acknowledgements so far were made
whole-plan : (topic subscription : List ℕ) (count : ℕ) (acked : List Asked) (n : ℕ) → 2 ≤ n → length acked ≡ n - 2
    → take n (plan (Takes topic subscription count) acked) ≡ plan (Takes topic subscription count) acked
whole-plan topic subscription count acked n two a = take_all n (plan (Takes topic subscription count) acked) (omega (arith, two, a))

pub first-acked : (w : Work) (acked : List Asked) (n : ℕ) (cs : List Asked) (c : Asked) → IsTaking w → 2 ≤ n → AreFirst w acked n cs → AreFirst w (acked ++ c ∷ []) (n + 1) (cs ++ c ∷ [])
first-acked (Sends topic lines) acked n cs c taking two f = absurd taking
first-acked (Takes topic subscription count) acked n cs c taking two f =
    let size = length-append acked (c ∷ []) in
    let acks : length acked ≡ n - 2 = f.acks in
    let more : length (acked ++ c ∷ []) ≡ n + 1 - 2 = omega (arith, size, acks, two) in
    record {
      front = ap (λ xs. xs ++ c ∷ []) (f.front ∙ whole-plan topic subscription count acked n two acks) ∙ sym (whole-plan topic subscription count (acked ++ c ∷ []) (n + 1) (omega (arith, two)) more);
      size = length-append cs (c ∷ []) ∙ ap (λ k. k + 1) f.size;
      acks = more;
    }

-- a call was made, by which these are acknowledged
works-asked : (w : Work) (h h' : List Step) (p p' q : Progress) (acked acked' : List Asked) (c : Asked) → Asks c h h' p' q → p.stopped ≡ false → p'.stopped ≡ p.stopped
    → length p'.ended.items ≡ length p.ended.items → Knows p' (effects_of h) acked' → AreFirst w acked' (length p.ended.items + 1) (calls h ++ c ∷ []) → Works w h' q
works-asked w h h' p p' q acked acked' c asks going stopped size knows first =
    let s : Step = record { event = Called c; effects = asks.out } in
    subst (λ t. Works w t q) (sym asks.step)
    (record {
      acked = acked';
      knows = asks.knows (effects_of h) acked' knows;
      calling = begun w (s ∷ h) acked' (length q.ended.items) q.stopped q.failed_before (asks.stopped ∙ stopped ∙ going)
          (subst (λ k. AreFirst w acked' k (calls h ++ c ∷ [])) (sym (asks.one ∙ ap (λ k. k + 1) size)) first);
    })

pub works-called : (w : Work) (h h' : List Step) (p q : Progress) (c : Asked) → call_at w (length p.ended.items) ≡ Some c → p.stopped ≡ false → Asks c h h' p q → Works w h p → Works w h' q
works-called w h h' p q c at going asks works =
    works-asked w h h' p p q works.acked works.acked c asks going refl refl works.knows
    (first-called w works.acked (length p.ended.items) (calls h) c at (still w h works.acked (length p.ended.items) p.stopped p.failed_before going works.calling))

pub works-acked : (w : Work) (h h' : List Step) (p p' q : Progress) (c : Asked) → c ∷ [] ≡ owed_ack p.owed → 2 ≤ length p.ended.items → IsTaking w → p.stopped ≡ false
    → ((es : List Shown) (acked : List Asked) → Knows p es acked → Knows p' es (acked ++ owed_ack p.owed)) → p'.stopped ≡ p.stopped → length p'.ended.items ≡ length p.ended.items
    → Asks c h h' p' q → Works w h p → Works w h' q
works-acked w h h' p p' q c owed two taking going knows stopped size asks works =
    works-asked w h h' p p' q works.acked (works.acked ++ c ∷ []) c asks going stopped size
    (subst (λ o. Knows p' (effects_of h) (works.acked ++ o)) (sym owed) (knows (effects_of h) works.acked works.knows))
    (first-acked w works.acked (length p.ended.items) (calls h) c taking two (still w h works.acked (length p.ended.items) p.stopped p.failed_before going works.calling))

-- THE LAST CALL

pub has-error : (h : List Step) → is_empty (errors_of (effects_of h)) ≡ false → HasError h
has-error h full none = let no : true ≡ false = sym (ap is_empty none) ∙ full in absurd cc

whole-of : (w : Work) (p : Progress) (es : List Shown) (acked : List Asked) → Knows p es acked → IsAllAsked w p → IsWhole w es × IsComplete w (length p.ended.items)
whole-of (Sends topic lines) p es acked k a = (tt, a)
whole-of (Takes topic subscription count) p es acked k a = (
  elim a.1 as (λ v. IsWhole (Takes topic subscription count) es) [ inl given ↦ inl (sym k.given ∙ given) | inr over ↦ inr (k.over over) ],
  tt,
)

good-of : (w : Work) (p : Progress) (es : List Shown) (acked : List Asked) → Knows p es acked → Stops w p → p.failed ≡ false → IsWhole w es × IsComplete w (length p.ended.items) × (2 ≤ length p.ended.items)
good-of w p es acked k stops ok = elim stops.1 as (λ v. IsWhole w es × IsComplete w (length p.ended.items) × (2 ≤ length p.ended.items)) [
  | inl failed ↦ let no : true ≡ false = sym failed ∙ ok in absurd cc
  | inr done ↦ let at = whole-of w p es acked k done.1 in (at.0, at.1, done.2)
]

has-stopped : (w : Work) (h : List Step) (acked : List Asked) (n : ℕ) (stopped failed : Bool) → stopped ≡ true → HasStopped w h acked n failed → Calling w h acked n stopped failed
has-stopped w h acked n true failed e c = c
has-stopped w h acked n false failed e c = absurd cc

pub works-stopped : (w : Work) (h h' : List Step) (p q : Progress) → Stops w p → p.stopped ≡ false → Asks Stop h h' (record p { stopped = true; failed_before = p.failed }) q
    → ((es : List Shown) (acked : List Asked) → Knows p es acked → Knows (record p { stopped = true; failed_before = p.failed }) es acked) → Works w h p → Works w h' q
works-stopped w h h' p q stops going asks same works =
    let s : Step = record { event = Called Stop; effects = asks.out } in
    let k = works.knows in
    subst (λ t. Works w t q) (sym asks.step)
    (record {
      acked = works.acked;
      knows = asks.knows (effects_of h) works.acked (same (effects_of h) works.acked k);
      calling = has-stopped w (s ∷ h) works.acked (length q.ended.items) q.stopped q.failed_before asks.stopped
          (record {
            before = h;
            after = [];
            last = s;
            apart = refl;
            stops = refl;
            none = refl;
            others = length p.ended.items;
            one = asks.one;
            first = still w h works.acked (length p.ended.items) p.stopped p.failed_before going works.calling;
            built = k.ended 0 stops.0;
            bad = λ failed. has-error h (k.bad (sym asks.before ∙ failed));
            good = λ ok. good-of w p (effects_of h) works.acked k stops (sym asks.before ∙ ok);
          });
    })

-- HOW IT CAME OUT

front-of : (w : Work) (acked : List Asked) (n : ℕ) (cs owed : List Asked) (es : List Shown) → AreFirst w acked n cs → flat_map ack_of es ≡ acked ++ owed → cs ≡ take n (work w es)
front-of (Sends topic lines) acked n cs owed es f acks = f.front
front-of (Takes topic subscription count) acked n cs owed es f acks =
    let size : length acked ≡ n - 2 = f.acks in
    f.front ∙ sym (take-append-le n (Build ∷ Consumer (consumer_of topic subscription) ∷ acked) owed (omega (arith, size)))
    ∙ ap (λ xs. take n (Build ∷ Consumer (consumer_of topic subscription) ∷ xs)) (sym acks)

-- nothing is left to be called
whole-work : (w : Work) (acked : List Asked) (n : ℕ) (cs : List Asked) (es : List Shown) → AreFirst w acked n cs → flat_map ack_of es ≡ acked → IsComplete w n → 2 ≤ n → cs ≡ work w es
whole-work (Sends topic lines) acked n cs es f acks complete two =
    let size = length-map lines (λ line. Send 1 (bare line)) in
    f.front ∙ take_all n (work (Sends topic lines) es) (omega (arith, size, complete, two))
whole-work (Takes topic subscription count) acked n cs es f acks complete two =
    let size : length acked ≡ n - 2 = f.acks in
    f.front ∙ whole-plan topic subscription count acked n two size ∙ ap (λ xs. Build ∷ Consumer (consumer_of topic subscription) ∷ xs) (sym acks)

calls-append : (xs ys : List Step) → calls (xs ++ ys) ≡ calls ys ++ calls xs
calls-append [] ys = sym (append-nil (calls ys))
calls-append (x ∷ xs) ys = ap (λ t. t ++ call_of x.event) (calls-append xs ys) ∙ append_assoc (calls ys) (calls xs) (call_of x.event)

calls-to-stop : (w : Work) (h : List Step) (acked : List Asked) (n : ℕ) (failed : Bool) (c : HasStopped w h acked n failed) → calls h ≡ calls c.before ++ Stop ∷ []
calls-to-stop w h acked n failed c =
    ap calls c.apart ∙ calls-append c.after (c.last ∷ c.before) ∙ ap (λ t. calls (c.last ∷ c.before) ++ t) c.none ∙ append-nil (calls (c.last ∷ c.before))
    ∙ ap (λ e. calls c.before ++ call_of e) c.stops

pub out-not-built : (w : Work) (h : List Step) (p : Progress) → p.stopped ≡ false → p.failed ≡ true → (slice_get p.ended.items 0 ≡ Some true → ⊥) → Works w h p → ComesOut w h false
out-not-built w h p going failed not works =
    let k = works.knows in
    record {
      done = λ e. absurd cc;
      failed = λ e. NotBuilt (length p.ended.items)
          (front-of w works.acked (length p.ended.items) (calls h) (owed_ack p.owed) (effects_of h) (still w h works.acked (length p.ended.items) p.stopped p.failed_before going works.calling) k.acks)
          (has-error h (k.bad failed)) (not-well (has_ended_well 0 (effects_of h)) (λ is. not (k.marked 0 is)));
    }
  where
    not-well : (b : Bool) → (b ≡ true → ⊥) → b ≡ false
    not-well true never = absurd (never refl)
    not-well false never = refl

pub out-failed : (w : Work) (h : List Step) (p : Progress) → p.stopped ≡ true → p.failed_before ≡ true → Works w h p → ComesOut w h false
out-failed w h p stopped failed works =
    let k = works.knows in
    let c = once-stopped w h works.acked (length p.ended.items) p.stopped p.failed_before stopped works.calling in
    record {
      done = λ e. absurd cc;
      failed = λ e. Stopped c.before c.after c.last c.others c.apart c.stops c.none
          (front-of w works.acked c.others (calls c.before) (owed_ack p.owed) (effects_of h) c.first k.acks) (c.bad failed) c.built;
    }

pub out-done : (w : Work) (h : List Step) (p : Progress) → p.stopped ≡ true → p.failed_before ≡ false → p.failed ≡ false → length p.ended.items ≤ p.first_open → p.owed ≡ None → Works w h p → ComesOut w h true
out-done w h p stopped before ok all owed works =
    let k = works.knows in
    let c = once-stopped w h works.acked (length p.ended.items) p.stopped p.failed_before stopped works.calling in
    let good = c.good before in
    let acks : flat_map ack_of (effects_of h) ≡ works.acked = k.acks ∙ ap (λ o. works.acked ++ owed_ack o) owed ∙ append-nil works.acked in
    let cs = calls-to-stop w h works.acked (length p.ended.items) p.failed_before c in
    let size = ap length cs ∙ length-append (calls c.before) (Stop ∷ []) in
    record {
      done = λ e. record {
        asked = cs ∙ ap (λ t. t ++ Stop ∷ []) (whole-work w works.acked c.others (calls c.before) (effects_of h) c.first acks good.1 good.2);
        ended = λ t lt. k.all t (omega (arith, lt, size, c.first.size, c.one, all));
        no_error = k.good ok;
        before = c.before;
        after = c.after;
        last = c.last;
        apart = c.apart;
        stops = c.stops;
        whole = good.0;
      };
      failed = λ e. absurd cc;
    }
