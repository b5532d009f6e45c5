-- The numbers of the frames of a topic producer rise.
use Rattle.std.proofs.Common.{◌≡◌, inl, inr, ◌∙◌, sym, ap, subst, ℕ, ◌+◌, ◌<◌, ◌≤◌, arith, List, [], ◌∷◌, ◌++◌, refl, Bool, true, false, Some}
use Rattle.pulsar_laws.proofs.ActWords.{Ask, Call, Does, Draw, Notice, OfTopic, Producer, Told, Who}
use Rattle.pulsar_laws.proofs.RunWords.{Begins, begun_same, Entry, IsRun, Options, rules, Then, view}
use Rattle.pulsar_messages.specs.Words as words
use Rattle.pulsar_producer.specs.Topic.{Act as Deed}
use Rattle.pulsar_producer.proofs.Numbers.{next_rises}
use Rattle.pulsar_producer_table.specs.Producers.{topic_after}
use Rattle.pulsar_producer_table.specs.declared.table.Topic.{Topic}
use Rattle.pulsar_run.specs.Things.{along}
use Rattle.pulsar_run.proofs.Things.{along_holds}
use Rattle.pulsar_acts.specs.Things.{topics}
use Rattle.pulsar_laws.specs.BatchLaws.{AsksFrame, NumbersOfAllFramesRise}
use Rattle.pulsar_laws.specs.ProducerLaws.{NumbersOfFramesRise, topic_acts}
use Rattle.pulsar_laws.proofs.plans.Standing.{run_older}
use Rattle.pulsar_laws.proofs.producers.BatchFrames.{drawn_for, frames_of_batches_lem}
use Rattle.pulsar_laws.proofs.producers.Drawing.{drawn_run, topics_keep}
use Rattle.pulsar_laws.proofs.producers.Frames.{IsFramed, frames_are_of_their_sends_lem, framed, it}
use Rattle.pulsar_laws.proofs.links.Receipts.{run_behind}
use Rattle.pulsar_laws.proofs.producers.Topics.{row_along}

-- THE NEXT NUMBER IS NOT LESS

-- a row that is there stays there, and its next number is not less
record IsLater (o : Options) (log : List Entry) (n : ℕ) (row : Topic) : Type 0 where
  now : Topic
  is_it : (view o log).producers.topics n ≡ Some now
  more : row.seen.next ≤ now.seen.next

later : (o : Options) (newer older : List Entry) (n : ℕ) (row : Topic) → IsRun o (newer ++ older) → (view o older).producers.topics n ≡ Some row →
    IsLater o (newer ++ older) n row
later o [] older n row run h = record { now = row; is_it = h; more = omega arith }
later o (Begins e ∷ newer) older n row run h =
    let k = later o newer older n row run.0 h in
    record { now = k.now; is_it = begun_same (λ v. v.producers.topics n) e (view o (newer ++ older)) refl ∙ k.is_it; more = k.more }
later o (Then a ∷ newer) older n row run h =
    let k = later o newer older n row run.0 h in
    let ds : List Deed = topic_acts (view o (newer ++ older)) n a in
    record {
      now = along topic_after ds k.now;
      is_it = row_along o (newer ++ older) (drawn_run o (newer ++ older) run.0) n k.now k.is_it a run;
      more =
          along_holds rules topics topics_keep o (λ t. row.seen.next ≤ t.seen.next) ds k.now
          (λ d t m. let r = next_rises d t.seen in omega (arith, m, r)) k.more;
    }

-- WHAT STANDS BEFORE A DRAW

abbrev is_ask : Entry → Bool
is_ask (Then (Does who (Ask l request))) = true
is_ask _ = false

-- behind both there is all that was there before
record Behind (x : Entry) (older behind : List Entry) : Type 0 where
  newer : List Entry
  is_it : behind ≡ newer ++ x ∷ older

behind_two : (x y z : Entry) (newer older behind : List Entry) → is_ask x ≡ true → is_ask y ≡ false → is_ask z ≡ false →
    newer ++ x ∷ older ≡ y ∷ z ∷ behind → Behind x older behind
behind_two x y z [] older behind a b c h = let e : x ≡ y = cc in let f : true ≡ false = sym a ∙ ap is_ask e ∙ b in absurd cc
behind_two x y z (u ∷ []) older behind a b c h = let e : x ≡ z = cc in let f : true ≡ false = sym a ∙ ap is_ask e ∙ c in absurd cc
behind_two x y z (u ∷ w ∷ newer) older behind a b c h = record { newer = newer; is_it = (let e : newer ++ x ∷ older ≡ behind = cc in sym e) }

-- the row that stood before the draw is the later one
row_now : (o : Options) (there behind : List Entry) (n producer : ℕ) (now before : Topic) → behind ≡ there → n ≡ producer →
    (view o there).producers.topics n ≡ Some now → (view o behind).producers.topics producer ≡ Some before → now ≡ before
row_now o there behind n producer now before same named is was =
    let x : (view o behind).producers.topics n ≡ Some now = subst (λ y. (view o y).producers.topics n ≡ Some now) (sym same) is in
    let y : (view o behind).producers.topics n ≡ Some before = subst (λ m. (view o behind).producers.topics m ≡ Some before) (sym named) was in
    let z : Some now ≡ Some before = sym x ∙ y in
    cc

rises : (one now before : Topic) (r s : ℕ) → now ≡ before → one.seen.next ≡ r + 1 → s ≡ before.seen.next → one.seen.next ≤ now.seen.next → r < s
rises one now before r s same first number more =
    let next : now.seen.next ≡ s = ap (λ y. y.seen.next) same ∙ sym number in
    omega (arith, next, first, more)

-- a send whose frame stands before the draw of another has a smaller number
rise_from : (o : Options) (x : Entry) (older behind : List Entry) (n producer : ℕ) (one before : Topic) (r s : ℕ) → IsRun o behind →
    Behind x older behind → (view o (x ∷ older)).producers.topics n ≡ Some one → one.seen.next ≡ r + 1 → n ≡ producer →
    (view o behind).producers.topics producer ≡ Some before → s ≡ before.seen.next → r < s
rise_from o x older behind n producer one before r s run b is first named was number =
    let z : IsLater o (b.newer ++ x ∷ older) n one = later o b.newer (x ∷ older) n one (subst (IsRun o) b.is_it run) is in
    rises one z.now before r s (row_now o (b.newer ++ x ∷ older) behind n producer z.now before b.is_it named z.is_it was) first number z.more

pub numbers_of_frames_rise_lem : NumbersOfFramesRise
numbers_of_frames_rise_lem o newer older t u l k n s r name alias m other block waits w v e f share part given told run h g =
    let x : Entry = Then (Does (Call u) (Ask k (words.Send n alias r other waits))) in
    let log : List Entry = newer ++ x ∷ older in
    let run2 : IsRun o (x ∷ older) = run_behind o newer (x ∷ older) run.0 in
    let first = frames_are_of_their_sends_lem o older u k n r alias other waits v f part told run2 g in
    let a : IsFramed o log t l n s name m block w e share given run h =
    framed o log t l n s name m block w e share given run h (it o log t l n s name m block w e share given run h) in
    let b = behind_two x (Then (Told a.told)) (Then (Does (Call t) (OfTopic a.drawn Draw))) newer older a.behind refl refl refl a.there in
    let run3 : IsRun o (Then (Told a.told) ∷ Then (Does (Call t) (OfTopic a.drawn Draw)) ∷ a.behind) = subst (IsRun o) a.there run.0 in
    rise_from o x older a.behind n e.producer first.0 a.before r s run3.0.0 b first.2 first.8 a.producer a.was a.number

-- OF SENDS AND OF BATCHES

-- the draw that stands before a frame
record IsDrawnBefore (o : Options) (log : List Entry) (n s : ℕ) : Type 0 where
  told : Notice
  who : Who
  drawn : ℕ
  behind : List Entry
  there : log ≡ Then (Told told) ∷ Then (Does who (OfTopic drawn Draw)) ∷ behind
  before : Topic
  was : (view o behind).producers.topics n ≡ Some before
  number : s ≡ before.seen.next

drawn_before : (o : Options) (log : List Entry) (y : Entry) (n s : ℕ) → IsRun o (y ∷ log) → AsksFrame n s y log → IsDrawnBefore o log n s
drawn_before o log y n s run (l, name, m, block, inl (t, w, f, share, given, is, h)) =
    let r : IsRun o (Then (Does (Call t) (Ask l (words.Send n name s m block))) ∷ log) = subst (λ z. IsRun o (z ∷ log)) is run in
    let a : IsFramed o log t l n s name m block w f share given r h =
    framed o log t l n s name m block w f share given r h (it o log t l n s name m block w f share given r h) in
    record {
      told = a.told;
      who = Call t;
      drawn = a.drawn;
      behind = a.behind;
      there = a.there;
      before = a.before;
      was = ap (view o a.behind).producers.topics a.producer ∙ a.was;
      number = a.number;
    }
drawn_before o log y n s run (l, name, m, block, inr (k, is)) =
    let r : IsRun o (Then (Does (Producer k) (Ask l (words.Send n name s m block))) ∷ log) = subst (λ z. IsRun o (z ∷ log)) is run in
    let a = drawn_for o log k l n s name m block r in
    record {
      told = a.told;
      who = Producer k;
      drawn = k;
      behind = a.behind;
      there = a.there;
      before = a.before;
      was = ap (view o a.behind).producers.topics a.own ∙ a.was;
      number = a.number;
    }

-- and the number behind it
record IsNextBehind (o : Options) (log : List Entry) (n r : ℕ) : Type 0 where
  row : Topic
  is_it : (view o log).producers.topics n ≡ Some row
  next : row.seen.next ≡ r + 1

next_behind : (o : Options) (older : List Entry) (x : Entry) (n r : ℕ) → IsRun o (x ∷ older) → AsksFrame n r x older → IsNextBehind o (x ∷ older) n r
next_behind o older x n r run (l, name, m, block, inl (t, w, f, share, given, is, h)) =
    let k = frames_are_of_their_sends_lem o older t l n r name m block w f share given (subst (λ z. IsRun o (z ∷ older)) is run) h in
    subst (λ z. IsNextBehind o (z ∷ older) n r) (sym is) (record { row = k.0; is_it = k.2; next = k.8 })
next_behind o older x n r run (l, name, m, block, inr (j, is)) =
    let k = frames_of_batches_lem o older j l n r name m block (subst (λ z. IsRun o (z ∷ older)) is run) in
    subst (λ z. IsNextBehind o (z ∷ older) n r) (sym is) (record { row = k.3; is_it = ap (view o older).producers.topics k.7 ∙ k.8; next = k.12 })

asks_frame : (x : Entry) (older : List Entry) (n r : ℕ) → AsksFrame n r x older → is_ask x ≡ true
asks_frame x older n r (l, name, m, block, inl (t, w, f, share, given, is, h)) = ap is_ask is
asks_frame x older n r (l, name, m, block, inr (k, is)) = ap is_ask is

pub numbers_of_all_frames_rise_lem : NumbersOfAllFramesRise
numbers_of_all_frames_rise_lem o newer older x y n r s run first second =
    let log : List Entry = newer ++ x ∷ older in
    let run1 : IsRun o log = run_older o y log run in
    let one : IsNextBehind o (x ∷ older) n r = next_behind o older x n r (run_behind o newer (x ∷ older) run1) first in
    let a : IsDrawnBefore o log n s = drawn_before o log y n s run second in
    let b = behind_two x (Then (Told a.told)) (Then (Does a.who (OfTopic a.drawn Draw))) newer older a.behind
    (asks_frame x older n r first) refl refl a.there in
    let run3 : IsRun o (Then (Told a.told) ∷ Then (Does a.who (OfTopic a.drawn Draw)) ∷ a.behind) = subst (IsRun o) a.there run1 in
    rise_from o x older a.behind n n one.row a.before r s run3.0.0 b one.is_it one.next refl a.was a.number
