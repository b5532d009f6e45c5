-- What remains of permits is what was granted, less what was begun.
use Rattle.std.proofs.Common.{◌≡◌, ◌∙◌, sym, ap, refl, subst, ℕ, ◌+◌, ◌-◌, ◌≤◌, nat_lt, ◌==◌, Bool, true, false, cond, List, [], ◌∷◌, ◌++◌, Option, Some, None, unwrap_or, arith}
use Rattle.std.proofs.lemmas.Bool.Decides.{nat_tests}
use Rattle.std.proofs.lemmas.List.{append-nil}
use Rattle.std.proofs.lemmas.List.Sums.{sum_by-append, sum_by-cons, sum_by_push}
use Rattle.std.specs.List.{sum}
use Rattle.std.specs.Option.{is_some, option_map}
use Rattle.url.specs.Parts.{Parts}
use Rattle.pulsar_consumer.specs.Items.{Item}
use Rattle.pulsar_consumer.specs.Frames.{Frame, failed}
use Rattle.pulsar_consumer.specs.Laws.{PermitsAreCounted, arrivals, asked_since, begun, weighed_before, weights}
use Rattle.pulsar_consumer.specs.DeadLetters.{Letter, lost_letter}
use Rattle.pulsar_consumer.specs.Redelivery.{due_before, forget, forget_all, forget_one}
use Rattle.pulsar_consumer.specs.Topic.{Act, Lives, Hears, Loses, Fails, Ends, Polls, Asks, IsAt, TakesCopy, IsCopied, FailsCopy, Stops, Forgets, Checks, Engine, Live, Seen, Setup, acked_by, advances, asked, batch_size, begins, behind, clocked, copied, copy_failed, ends, finish, finishes, finishes_by, first_due, first_in, first_of, frame_for, gives, gives_from, gives_up, goes_on, half, heard as hears_message, hears, is_ended, is_finished, is_pending, lives_on, places, seen, stops, subscribed, takes_copy, takes_copy_from, told}
use Rattle.pulsar_incoming.specs.declared.polled.Ending.TheVariants.{LinkLost, NotSubscribed}
use Rattle.pulsar_consumer.proofs.Granting.{grants}
use Rattle.pulsar_consumer.proofs.Held.{next_of}
use Rattle.pulsar_consumer.proofs.Histories.{counted_same, frames_begin_in_turn, lost, polls_at, refused, subscribed_again}
use Rattle.pulsar_consumer.proofs.Permits.{Bounded, begin_bounded, finish_bounded}

-- Of frames that weigh so much in all, those that wait have no part in what remains. These flows were asked for or stood before.
abbrev Counted : (all flows : ℕ) → List Frame → Option Live → Type 0
Counted all flows waiting None = Unit {0}
Counted all flows waiting (Some l) = l.level + all ≡ l.weight + (flows + sum l.due) + weights waiting

finishes_counted : (all flows batch : ℕ) (waiting : List Frame) (l : Live) → l.level ≤ batch → Counted all flows waiting (Some l) →
    Counted all flows waiting (Some (finishes_by batch l)) × ((finishes_by batch l).weight ≡ 0)
finishes_counted all flows batch waiting l most is = by (nat_lt l.level (half batch + l.weight)) refl
  where
    more : Live
    more = record l { level = batch; weight = 0; due = l.due ++ (batch + l.weight - l.level) ∷ [] }

    less : Live
    less = record l { level = l.level - l.weight; weight = 0 }

    by : (c : Bool) → nat_lt l.level (half batch + l.weight) ≡ c → Counted all flows waiting (Some (cond c more less)) × ((cond c more less).weight ≡ 0)
    by true low =
        let due = sum_by_push (λ n. n) l.due (batch + l.weight - l.level) in
        (omega (arith, due, is, most), refl)
    by false enough =
        let above : half batch + l.weight ≤ l.level = grind (arith, nat_tests) in
        (omega (arith, above, is), refl)

abbrev Lightened : (all flows : ℕ) → List Frame → Option Live → Type 0
Lightened all flows waiting None = Unit {0}
Lightened all flows waiting (Some l) = Counted all flows waiting (Some l) × (l.weight ≡ 0)

finish_counted : (all flows : ℕ) (o : Option ℕ) (batch : ℕ) (waiting : List Frame) (l : Option Live) → o ≡ Some batch → Bounded batch l →
    Counted all flows waiting l →
    Lightened all flows waiting (option_map (finishes o) l)
finish_counted all flows None batch waiting l same bounds is = absurd cc
finish_counted all flows (Some b) batch waiting None same bounds is = tt
finish_counted all flows (Some b) batch waiting (Some l) same bounds is =
    let e : b ≡ batch = cc in
    subst (λ n. Counted all flows waiting (Some (finishes_by n l)) × ((finishes_by n l).weight ≡ 0)) (sym e)
    (finishes_counted all flows batch waiting l bounds.0 is)

begin_counted : (all flows : ℕ) (f : Frame) (fs : List Frame) (l : Option Live) → Lightened all flows (f ∷ fs) l →
    Counted all flows fs (option_map (begins f.weight) l)
begin_counted all flows f fs None is = tt
begin_counted all flows f fs (Some l) is =
    let one = sum_by-cons (λ f. f.weight) f fs in
    let zero = is.1 in
    let old = is.0 in
    omega (arith, one, zero, old)

counted_light : (all flows : ℕ) (waiting : List Frame) (l : Option Live) → Lightened all flows waiting l → Counted all flows waiting l
counted_light all flows waiting None is = tt
counted_light all flows waiting (Some l) is = is.0

goes_counted : (all flows batch : ℕ) (fs : List Frame) (e : Engine) → e.waiting ≡ fs → e.batch ≡ Some batch → Bounded batch e.live →
    Counted all flows fs e.live →
    Counted all flows (goes_on fs e).waiting (goes_on fs e).live
goes_counted all flows batch [] e w size bounds is = by (is_finished e)
  where
    same : Counted all flows e.waiting e.live
    same = subst (λ fs. Counted all flows fs e.live) (sym w) is

    by : (b : Bool) → Counted all flows (cond b (finish e) e).waiting (cond b (finish e) e).live
    by true = counted_light all flows e.waiting (finish e).live (finish_counted all flows e.batch batch e.waiting e.live size bounds same)
    by false = same
goes_counted all flows batch (f ∷ fs) e w size bounds is =
    by (is_finished e)
    (goes_counted all flows batch fs (next_of f fs e) refl size
    (begin_bounded batch f.weight (finish e).live (finish_bounded e.batch batch e.live size bounds).0)
    (begin_counted all flows f fs (finish e).live (finish_counted all flows e.batch batch (f ∷ fs) e.live size bounds is)))
  where
    by : (b : Bool) → Counted all flows (goes_on fs (next_of f fs e)).waiting (goes_on fs (next_of f fs e)).live →
        Counted all flows (cond b (goes_on fs (next_of f fs e)) e).waiting (cond b (goes_on fs (next_of f fs e)) e).live
    by true next = next
    by false next = subst (λ fs. Counted all flows fs e.live) (sym w) is

-- one more frame that waits
waits_counted : (all flows : ℕ) (waiting : List Frame) (f : Frame) (l : Option Live) → Counted all flows waiting l →
    Counted (all + f.weight) flows (waiting ++ f ∷ []) l
waits_counted all flows waiting f None is = tt
waits_counted all flows waiting f (Some l) is =
    let more = sum_by_push (λ f. f.weight) waiting f in
    omega (arith, more, is)

-- a flow that is asked for is due no longer
asked_counted : (all flows : ℕ) (waiting : List Frame) (l : Option Live) → Counted all flows waiting l →
    Counted all (flows + unwrap_or (first_due l) 0) waiting (option_map asked l)
asked_counted all flows waiting None is = tt
asked_counted all flows waiting (Some l) is = by l.due is
  where
    by : (due : List ℕ) → l.level + all ≡ l.weight + (flows + sum due) + weights waiting →
        l.level + all ≡ l.weight + (flows + unwrap_or (first_in due) 0 + sum (behind due)) + weights waiting
    by [] old = omega (arith, old)
    by (n ∷ ns) old = let one = sum_by-cons (λ n. n) n ns in omega (arith, one, old)

-- the same number of all, and of flows
recounted : (all all' flows flows' : ℕ) (waiting : List Frame) (l : Option Live) → all ≡ all' → flows ≡ flows' → Counted all flows waiting l →
    Counted all' flows' waiting l
recounted all all' flows flows' waiting l same also is = subst (λ n. Counted all' n waiting l) also (subst (λ n. Counted n flows waiting l) same is)

-- AN ENGINE THAT GOES ON

heard_counted : (all flows batch : ℕ) (f : Frame) (e : Engine) → e.batch ≡ Some batch → Bounded batch e.live → Counted all flows e.waiting e.live →
    Counted (all + f.weight) flows (hears f e).waiting (hears f e).live
heard_counted all flows batch f e size bounds is =
    goes_counted (all + f.weight) flows batch (e.waiting ++ f ∷ []) (places (record e { waiting = e.waiting ++ f ∷ [] })) refl size bounds
    (waits_counted all flows e.waiting f e.live is)

advances_counted : (all flows batch : ℕ) (e : Engine) → e.batch ≡ Some batch → Bounded batch e.live → Counted all flows e.waiting e.live →
    Counted all flows (advances e).waiting (advances e).live
advances_counted all flows batch e size bounds is = goes_counted all flows batch e.waiting (places e) refl size bounds is

gave_counted : (all flows batch : ℕ) (us : List Item) (e : Engine) → e.batch ≡ Some batch → Bounded batch e.live → Counted all flows e.waiting e.live →
    Counted all flows (gives_from us e).waiting (gives_from us e).live
gave_counted all flows batch [] e size bounds is = is
gave_counted all flows batch (x ∷ xs) e size bounds is = advances_counted all flows batch (record e { unread = xs }) size bounds is

takes_counted : (all flows : ℕ) (e : Engine) → Counted all flows e.waiting e.live → Counted all flows (takes_copy e).waiting (takes_copy e).live
takes_counted all flows e is = by (is_some e.copying) e.letters
  where
    by : (b : Bool) (ls : List Letter) → Counted all flows (cond b e (takes_copy_from ls e)).waiting (cond b e (takes_copy_from ls e)).live
    by true ls = is
    by false [] = is
    by false (l ∷ ls) = is

copied_counted : (all flows batch : ℕ) (e : Engine) → e.batch ≡ Some batch → Bounded batch e.live → Counted all flows e.waiting e.live →
    Counted all flows (copied e).waiting (copied e).live
copied_counted all flows batch e size bounds is = by (is_some e.copying)
  where
    by : (b : Bool) →
        Counted all flows (cond b (advances (record e { copying = None; kept = forget_one (acked_by e) e.kept })) e).waiting
        (cond b (advances (record e { copying = None; kept = forget_one (acked_by e) e.kept })) e).live
    by true = advances_counted all flows batch (record e { copying = None; kept = forget_one (acked_by e) e.kept }) size bounds is
    by false = is

failed_counted : (all flows batch : ℕ) (e : Engine) → e.batch ≡ Some batch → Bounded batch e.live → Counted all flows e.waiting e.live →
    Counted all flows (copy_failed e).waiting (copy_failed e).live
failed_counted all flows batch e size bounds is = by (is_some e.copying)
  where
    by : (b : Bool) → Counted all flows (cond b (gives_up e) e).waiting (cond b (gives_up e) e).live
    by true = advances_counted all flows batch (record e { rest = e.rest ++ lost_letter ∷ []; letters = []; copying = None }) size bounds is
    by false = is

stops_counted : (all flows batch : ℕ) (e : Engine) → e.batch ≡ Some batch → Bounded batch e.live → Counted all flows e.waiting e.live →
    Counted all flows (stops e).waiting (stops e).live
stops_counted all flows batch e size bounds is = by (is_pending e)
  where
    e' : Engine
    e' = record e { stopped = true }

    by : (b : Bool) → Counted all flows (cond b (gives_up e') e').waiting (cond b (gives_up e') e').live
    by true = advances_counted all flows batch (record e' { rest = e.rest ++ lost_letter ∷ []; letters = []; copying = None }) size bounds is
    by false = is

lives_counted : (flows batch link : ℕ) (url : Parts) (o : Option ℕ) (fs waiting : List Frame) → o ≡ Some batch → flows ≡ 0 + weights fs →
    Counted (weights (fs ++ waiting)) flows waiting (Some (subscribed o link url))
lives_counted flows batch link url None fs waiting size same = absurd cc
lives_counted flows batch link url (Some b) fs waiting size same =
    let both = sum_by-append (λ f. f.weight) fs waiting in
    omega (arith, both, same)

-- HISTORIES

-- of these arrivals some are begun, and the others wait
module _ (s : Setup) (raw : s.is_raw ≡ false) where
  abbrev Holds : List Frame → (flows : ℕ) → Engine → Type 0
  Holds fs flows e = Counted (weights fs) flows e.waiting e.live

  -- no frame came
  as_before : (fs : List Frame) (flows flows' : ℕ) (e : Engine) → flows ≡ flows' → Holds fs flows e → Holds (fs ++ []) flows' e
  as_before fs flows flows' e same is = recounted (weights fs) (weights (fs ++ [])) flows flows' e.waiting e.live (ap weights (sym (append-nil fs))) same is

  -- a frame came
  heard : (h : List Act) (f : Frame) (flows : ℕ) → Holds (arrivals s h) flows (seen s h).engine →
      Holds (arrivals s h ++ f ∷ []) flows (hears f (seen s h).engine)
  heard h f flows is =
      let e = (seen s h).engine in
      let all = grants s h raw in
      recounted (weights (arrivals s h) + f.weight) (weights (arrivals s h ++ f ∷ [])) flows flows (hears f e).waiting (hears f e).live
      (sym (sum_by_push (λ f. f.weight) (arrivals s h) f)) refl
      (heard_counted (weights (arrivals s h)) flows (batch_size s.config) f e all.0 all.1.0 is)

  -- an outcome came, for this consumer or for another
  told_so : (h : List Act) (key : ℕ) (e : Engine) → Holds (arrivals s h) (asked_since s h + weighed_before s h) e →
      Holds (arrivals s h) (asked_since s h + weighed_before s h) (seen s h).engine →
      Holds (arrivals s h ++ []) (asked_since s h + weighed_before s h) (told key e (seen s h)).engine
  told_so h key e is was = by ((seen s h).key == key)
    where
      by : (b : Bool) → Holds (arrivals s h ++ []) (asked_since s h + weighed_before s h) (cond b (record (seen s h) { engine = e }) (seen s h)).engine
      by true = as_before (arrivals s h) _ _ e refl is
      by false = as_before (arrivals s h) _ _ (seen s h).engine refl was

  counted : (h : List Act) → Holds (arrivals s h) (asked_since s h + weighed_before s h) (seen s h).engine
  counted [] = tt
  counted (Lives link url ∷ h) = by (is_ended v) (counted h)
    where
      v : Seen
      v = seen s h

      lived : Holds (arrivals s h ++ []) (0 + weights (begun s h)) (record v.engine { live = Some (subscribed v.engine.batch link url) })
      lived =
          subst (λ fs. Holds fs (0 + weights (begun s h)) (record v.engine { live = Some (subscribed v.engine.batch link url) }))
          (sym (frames_begin_in_turn s h) ∙ sym (append-nil (arrivals s h)))
          (lives_counted (0 + weights (begun s h)) (batch_size s.config) link url v.engine.batch (begun s h) v.engine.waiting (grants s h raw).0 refl)

      by : (b : Bool) → Holds (arrivals s h) (asked_since s h + weighed_before s h) v.engine →
          Holds (arrivals s h ++ []) (cond b (asked_since s h) 0 + cond b (weighed_before s h) (weights (begun s h)))
          (cond b v (subscribed_again link url v)).engine
      by true is = as_before (arrivals s h) _ _ v.engine refl is
      by false is = lived
  counted (Hears link f ∷ h) = by (lives_on link v) (counted h)
    where
      v : Seen
      v = seen s h

      flows : ℕ
      flows = asked_since s h + weighed_before s h

      by : (b : Bool) → Holds (arrivals s h) flows v.engine →
          Holds (arrivals s h ++ cond b (frame_for v f ∷ []) []) flows (cond b (hears_message f v) v).engine
      by true is = heard h (frame_for v f) flows is
      by false is = as_before (arrivals s h) flows flows v.engine refl is
  counted (Loses link ∷ h) = by (lives_on link v) v.is_raw (counted h)
    where
      v : Seen
      v = seen s h

      flows : ℕ
      flows = asked_since s h + weighed_before s h

      by : (b c : Bool) → Holds (arrivals s h) flows v.engine → Holds (arrivals s h ++ []) flows (cond b (cond c (ends LinkLost v) (lost v)) v).engine
      by true true is = tt
      by true false is = tt
      by false c is = as_before (arrivals s h) flows flows v.engine refl is
  counted (Fails f ∷ h) = by (is_ended v) (counted h)
    where
      v : Seen
      v = seen s h

      flows : ℕ
      flows = asked_since s h + weighed_before s h

      by : (b : Bool) → Holds (arrivals s h) flows v.engine →
          Holds (arrivals s h ++ cond b [] (failed f ∷ [])) flows (cond b v (ends NotSubscribed (refused (failed f) v))).engine
      by true is = as_before (arrivals s h) flows flows v.engine refl is
      by false is = tt
  counted (Ends why ∷ h) = tt
  counted (Polls clock ∷ h) =
      let v = seen s h in
      let all = grants s h raw in
      let flows = asked_since s h + weighed_before s h in
      subst (Holds (arrivals s h ++ []) flows) (sym (counted_same (first_of v.engine.unread) clock (polls_at clock v)).0)
      (as_before (arrivals s h) flows flows (gives (clocked clock v.engine)) refl
      (gave_counted (weights (arrivals s h)) flows (batch_size s.config) v.engine.unread (clocked clock v.engine) all.0 all.1.0 (counted h)))
  counted (Asks ∷ h) =
      let v = seen s h in
      let first = unwrap_or (first_due v.engine.live) 0 in
      as_before (arrivals s h) (asked_since s h + weighed_before s h + first) (asked_since s h + first + weighed_before s h)
      (record v.engine { live = option_map asked v.engine.live }) (omega arith)
      (asked_counted (weights (arrivals s h)) (asked_since s h + weighed_before s h) v.engine.waiting v.engine.live (counted h))
  counted (IsAt clock ∷ h) =
      let flows = asked_since s h + weighed_before s h in as_before (arrivals s h) flows flows (clocked clock (seen s h).engine) refl (counted h)
  counted (TakesCopy ∷ h) =
      let flows = asked_since s h + weighed_before s h in
      as_before (arrivals s h) flows flows (takes_copy (seen s h).engine) refl (takes_counted (weights (arrivals s h)) flows (seen s h).engine (counted h))
  counted (IsCopied key clock ∷ h) =
      let v = seen s h in
      let all = grants s h raw in
      let flows = asked_since s h + weighed_before s h in
      told_so h key (copied (clocked clock v.engine))
      (copied_counted (weights (arrivals s h)) flows (batch_size s.config) (clocked clock v.engine) all.0 all.1.0 (counted h)) (counted h)
  counted (FailsCopy key clock ∷ h) =
      let v = seen s h in
      let all = grants s h raw in
      let flows = asked_since s h + weighed_before s h in
      told_so h key (copy_failed (clocked clock v.engine))
      (failed_counted (weights (arrivals s h)) flows (batch_size s.config) (clocked clock v.engine) all.0 all.1.0 (counted h)) (counted h)
  counted (Stops ∷ h) =
      let v = seen s h in
      let all = grants s h raw in
      let flows = asked_since s h + weighed_before s h in
      as_before (arrivals s h) flows flows (stops v.engine) refl
      (stops_counted (weights (arrivals s h)) flows (batch_size s.config) v.engine all.0 all.1.0 (counted h))
  counted (Forgets id ∷ h) =
      let flows = asked_since s h + weighed_before s h in
      as_before (arrivals s h) flows flows (record (seen s h).engine { kept = forget id (seen s h).engine.kept }) refl (counted h)
  counted (Checks clock ∷ h) = by (is_some e.live) (counted h)
    where
      e : Engine
      e = (seen s h).engine

      flows : ℕ
      flows = asked_since s h + weighed_before s h

      by : (b : Bool) → Holds (arrivals s h) flows e →
          Holds (arrivals s h ++ []) flows (cond b (record e { kept = forget_all (due_before clock e.kept) e.kept }) e)
      by true is = as_before (arrivals s h) flows flows (record e { kept = forget_all (due_before clock e.kept) e.kept }) refl is
      by false is = as_before (arrivals s h) flows flows e refl is

pub permits_are_counted : PermitsAreCounted
permits_are_counted s h l raw is =
    let e = (seen s h).engine in
    let all : Counted (weights (arrivals s h)) (asked_since s h + weighed_before s h) e.waiting (Some l) =
    subst (Counted (weights (arrivals s h)) (asked_since s h + weighed_before s h) e.waiting) is (counted s raw h) in
    let both : weights (arrivals s h) ≡ weights (begun s h) + weights e.waiting =
    ap weights (frames_begin_in_turn s h) ∙ sum_by-append (λ f. f.weight) (begun s h) e.waiting in
    omega (arith, all, both)
