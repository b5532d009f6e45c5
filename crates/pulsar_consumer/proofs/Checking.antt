-- What every history keeps of moments: the one that was told last, and the one at which the next check is due. And whose outcomes count.
use Rattle.std.proofs.Common.{◌≡◌, ◌∙◌, sym, ap, refl, ℕ, ◌+◌, ◌==◌, Bool, true, false, cond, List, [], ◌∷◌, Option, Some, None}
use Rattle.std.specs.Option.{is_some, option_or}
use Rattle.pulsar_wire.specs.Sink.{capped}
use Rattle.pulsar_consumer.specs.Items.{Item, is_message}
use Rattle.pulsar_consumer.specs.DeadLetters.{Letter}
use Rattle.pulsar_consumer.specs.Frames.{Frame, failed}
use Rattle.pulsar_consumer.specs.Redelivery.{Id, Kept as KeptList, due_before, first_check, forget_all, next_check}
use Rattle.pulsar_consumer.specs.Topic.{Act, Lives, Hears, Loses, Fails, Ends, Polls, Asks, IsAt, TakesCopy, IsCopied, FailsCopy, Stops, Forgets, Checks, Engine, Seen, Setup, acked_by, advances, after, clocked, copied, copy_failed, counts_first, ends, finish, first_of, frame_for, gives, goes_on, heard, hears, is_ended, is_finished, lives_on, only_if, places, seen, stops, takes_copy, told}
use Rattle.pulsar_consumer.specs.Laws.{ChecksComeInTime, MomentsAreTold, OutcomesAreOwn, check_by, check_of, moment}
use Rattle.pulsar_incoming.specs.declared.polled.Ending.{Ending}
use Rattle.pulsar_incoming.specs.declared.polled.Ending.TheVariants.{LinkLost, NotSubscribed}
use Rattle.pulsar_consumer.proofs.Held.{next_of}
use Rattle.pulsar_consumer.proofs.Histories.{counted_same, lost, polls_at, refused, subscribed_again}
use Rattle.pulsar_consumer.proofs.Named.{copied_more, delays, ended_some, failed_more, gives_more, hears_more, stops_more, takes_more}
use Rattle.pulsar_consumer.proofs.Permits.{copied_so, failed_so, gives_so, hears_so, stops_so, takes_so}

-- HOW IT WAS MADE: that stays

abbrev pub setup_of : Seen → Setup
setup_of v = record { key = v.key; topic = v.topic; number = v.number; config = v.config; is_raw = v.is_raw }

same_if : (b : Bool) (v w : Seen) → setup_of w ≡ setup_of v → setup_of (cond b w v) ≡ setup_of v
same_if true v w k = k
same_if false v w k = refl

same_but : (b : Bool) (v w : Seen) → setup_of w ≡ setup_of v → setup_of (cond b v w) ≡ setup_of v
same_but true v w k = refl
same_but false v w k = k

counts_setup : (clock : ℕ) (o : Option Item) (v : Seen) → setup_of (counts_first clock o v) ≡ setup_of v
counts_setup clock None v = refl
counts_setup clock (Some item) v = same_if (is_message item) v (record v { received = capped (v.received + 1); last = Some clock }) refl

pub same_after : (act : Act) (v : Seen) → setup_of (after act v) ≡ setup_of v
same_after (Lives link url) v = same_but (is_ended v) v (subscribed_again link url v) refl
same_after (Hears link f) v = same_if (lives_on link v) v (heard f v) refl
same_after (Loses link) v = by (lives_on link v) v.is_raw
  where
    by : (b c : Bool) → setup_of (cond b (cond c (ends LinkLost v) (lost v)) v) ≡ setup_of v
    by true true = refl
    by true false = refl
    by false c = refl
same_after (Fails f) v = same_but (is_ended v) v (ends NotSubscribed (refused (failed f) v)) refl
same_after (Ends why) v = refl
same_after (Polls clock) v = counts_setup clock (first_of v.engine.unread) (polls_at clock v)
same_after Asks v = refl
same_after (IsAt clock) v = refl
same_after TakesCopy v = refl
same_after (IsCopied key clock) v = same_if (v.key == key) v (record v { engine = copied (clocked clock v.engine) }) refl
same_after (FailsCopy key clock) v = same_if (v.key == key) v (record v { engine = copy_failed (clocked clock v.engine) }) refl
same_after Stops v = refl
same_after (Forgets id) v = refl
same_after (Checks clock) v = refl

pub setup_is : (s : Setup) (h : List Act) → setup_of (seen s h) ≡ s
setup_is s [] = refl
setup_is s (act ∷ h) = same_after act (seen s h) ∙ setup_is s h

pub key_is : (s : Setup) (h : List Act) → (seen s h).key ≡ s.key
key_is s h = ap (λ x. x.key) (setup_is s h)

pub config_is : (s : Setup) (h : List Act) → (seen s h).config ≡ s.config
config_is s h = ap (λ x. x.config) (setup_is s h)

pub outcomes_are_own : OutcomesAreOwn
outcomes_are_own s h key clock other = (
  ap (λ b. cond b (record v { engine = copied (clocked clock v.engine) }) v) not_own,
  ap (λ b. cond b (record v { engine = copy_failed (clocked clock v.engine) }) v) not_own,
  ap (λ b. only_if b (acked_by v.engine)) not_own,
)
  where
    v : Seen
    v = seen s h

    not_own : (v.key == key) ≡ false
    not_own = ap (λ k. k == key) (key_is s h) ∙ other

-- THE MOMENT THAT WAS TOLD LAST

module _ (s : Setup) (h : List Act) where
  abbrev one : Seen
  one = seen s h

  told_at : (key clock : ℕ) (e : Engine) → e.clock ≡ clock → one.engine.clock ≡ moment s h →
      (told key e one).engine.clock ≡ cond (s.key == key) clock (moment s h)
  told_at key clock e at was = by (one.key == key) ∙ ap (λ k. cond (k == key) clock (moment s h)) (key_is s h)
    where
      by : (b : Bool) → (cond b (record one { engine = e }) one).engine.clock ≡ cond b clock (moment s h)
      by true = at
      by false = was

  moment_after : (act : Act) → one.engine.clock ≡ moment s h → (after act one).engine.clock ≡ moment s (act ∷ h)
  moment_after (Lives link url) p = by (is_ended one)
    where
      by : (b : Bool) → (cond b one (subscribed_again link url one)).engine.clock ≡ moment s h
      by true = p
      by false = p
  moment_after (Hears link f) p = by (lives_on link one)
    where
      by : (b : Bool) → (cond b (heard f one) one).engine.clock ≡ moment s h
      by true = (hears_more (frame_for one f) one.engine).clock ∙ p
      by false = p
  moment_after (Loses link) p = by (lives_on link one) one.is_raw
    where
      by : (b c : Bool) → (cond b (cond c (ends LinkLost one) (lost one)) one).engine.clock ≡ moment s h
      by true true = p
      by true false = p
      by false c = p
  moment_after (Fails f) p = by (is_ended one)
    where
      by : (b : Bool) → (cond b one (ends NotSubscribed (refused (failed f) one))).engine.clock ≡ moment s h
      by true = p
      by false = (hears_more (failed f) one.engine).clock ∙ p
  moment_after (Ends why) p = p
  moment_after (Polls clock) p =
      ap (λ e. e.clock) (counted_same (first_of one.engine.unread) clock (polls_at clock one)).0
      ∙ (gives_more one.engine.unread (clocked clock one.engine) refl).clock
  moment_after Asks p = p
  moment_after (IsAt clock) p = refl
  moment_after TakesCopy p = (takes_more one.engine).clock ∙ p
  moment_after (IsCopied key clock) p = told_at key clock (copied (clocked clock one.engine)) (copied_more (clocked clock one.engine)).clock p
  moment_after (FailsCopy key clock) p = told_at key clock (copy_failed (clocked clock one.engine)) (failed_more (clocked clock one.engine)).clock p
  moment_after Stops p = (stops_more one.engine).clock ∙ p
  moment_after (Forgets id) p = p
  moment_after (Checks clock) p = by (is_some one.engine.live)
    where
      by : (b : Bool) → (cond b (record one.engine { kept = forget_all (due_before clock one.engine.kept) one.engine.kept }) one.engine).clock ≡ moment s h
      by true = p
      by false = p

pub moments_are_told : MomentsAreTold
moments_are_told s [] = refl
moments_are_told s (act ∷ h) = moment_after s h act (moments_are_told s h)

-- THE NEXT CHECK

goes_check : (fs : List Frame) (e : Engine) → (goes_on fs e).check ≡ e.check
goes_check [] e = by (is_finished e)
  where
    by : (b : Bool) → (cond b (finish e) e).check ≡ e.check
    by true = refl
    by false = refl
goes_check (f ∷ fs) e = by (is_finished e) (goes_check fs (next_of f fs e))
  where
    by : (b : Bool) → (goes_on fs (next_of f fs e)).check ≡ e.check → (cond b (goes_on fs (next_of f fs e)) e).check ≡ e.check
    by true all = all
    by false all = refl

-- what says nothing of checks leaves the next one
module _ (due : Option ℕ) where
  abbrev Due : Engine → Type 0
  Due e = e.check ≡ due

  due_weak : (e : Engine) → Due e → Due e
  due_weak e p = p

  due_on : (e : Engine) → Due e → Due (advances e)
  due_on e p = goes_check e.waiting (places e) ∙ p

  due_bare : (e : Engine) (u r : List Item) (ls : List Letter) (o : Option Id) (w : List Frame) (k : KeptList) → Due e →
      Due (record e { unread = u; rest = r; letters = ls; copying = o; waiting = w; kept = k })
  due_bare e u r ls o w k p = p

  hears_due : (f : Frame) (e : Engine) → Due e → Due (hears f e)
  hears_due = hears_so Due Due due_weak due_on due_bare

  gives_due : (e : Engine) → Due e → Due (gives e)
  gives_due = gives_so Due Due due_weak due_on due_bare

  takes_due : (e : Engine) → Due e → Due (takes_copy e)
  takes_due e p = takes_so Due Due due_weak due_on due_bare e p (λ ls id. p)

  copied_due : (e : Engine) → Due e → Due (copied e)
  copied_due = copied_so Due Due due_weak due_on due_bare

  failed_due : (e : Engine) → Due e → Due (copy_failed e)
  failed_due = failed_so Due Due due_weak due_on due_bare

  stops_due : (e : Engine) → Due e → Due (stops e)
  stops_due e p = stops_so Due Due due_weak due_on due_bare e p

-- there is none once it has ended
ended_none : (s : Setup) (h : List Act) → is_ended (seen s h) ≡ true → check_of s h ≡ None
ended_none s [] aye = refl
ended_none s (act ∷ h) aye = ap (λ b. cond b None (check_by s act h (check_of s h))) aye

module _ (s : Setup) (h : List Act) (is : (seen s h).engine.check ≡ check_of s h) where
  abbrev v : Seen
  v = seen s h

  as_before : v.engine.check ≡ cond (is_ended v) None (check_of s h)
  as_before = by (is_ended v) refl
    where
      by : (b : Bool) → is_ended v ≡ b → v.engine.check ≡ cond b None (check_of s h)
      by true aye = is ∙ ended_none s h aye
      by false nay = is

  -- another that has the same check, and has ended where that one has
  so_too : (w : Seen) → w.ended ≡ v.ended → w.engine.check ≡ v.engine.check → w.engine.check ≡ cond (is_ended w) None (check_of s h)
  so_too w e c = c ∙ as_before ∙ ap (λ o. cond (is_some o) None (check_of s h)) (sym e)

  over_so : (o : Option Ending) (why : Ending) (x : Option ℕ) → None ≡ cond (is_some (option_or o (Some why))) None x
  over_so o why x = sym (ap (λ b. cond b None x) (ended_some o why))

  told_so : (key : ℕ) (e : Engine) → e.check ≡ v.engine.check → (told key e v).engine.check ≡ cond (is_ended (told key e v)) None (check_of s h)
  told_so key e c = by (v.key == key)
    where
      by : (b : Bool) → (cond b (record v { engine = e }) v).engine.check ≡ cond (is_ended (cond b (record v { engine = e }) v)) None (check_of s h)
      by true = so_too (record v { engine = e }) refl c
      by false = as_before

  first_so : is_ended v ≡ false → option_or v.engine.check (first_check v.engine.delay v.engine.clock)
      ≡ option_or (check_of s h) (first_check s.config.unacked_message_redelivery_delay (moment s h))
  first_so nay =
      ap (λ c. option_or c (first_check v.engine.delay v.engine.clock)) is
      ∙ ap (λ d. option_or (check_of s h) (first_check d v.engine.clock))
      (delays s h ∙ ap (λ b. cond b None s.config.unacked_message_redelivery_delay) nay)
      ∙ ap (λ c. option_or (check_of s h) (first_check s.config.unacked_message_redelivery_delay c)) (moments_are_told s h)

  check_after : (act : Act) → (after act v).engine.check ≡ cond (is_ended (after act v)) None (check_by s act h (check_of s h))
  check_after (Lives link url) = by (is_ended v) refl
    where
      x : Option ℕ
      x = option_or (check_of s h) (first_check s.config.unacked_message_redelivery_delay (moment s h))

      by : (b : Bool) → is_ended v ≡ b →
          (cond b v (subscribed_again link url v)).engine.check ≡ cond (is_ended (cond b v (subscribed_again link url v))) None x
      by true aye = is ∙ ended_none s h aye ∙ sym (ap (λ b. cond b None x) aye)
      by false nay = first_so nay ∙ sym (ap (λ b. cond b None x) nay)
  check_after (Hears link f) = by (lives_on link v)
    where
      by : (b : Bool) → (cond b (heard f v) v).engine.check ≡ cond (is_ended (cond b (heard f v) v)) None (check_of s h)
      by true = so_too (heard f v) refl (hears_due v.engine.check (frame_for v f) v.engine refl)
      by false = as_before
  check_after (Loses link) = by (lives_on link v) v.is_raw
    where
      by : (b c : Bool) → (cond b (cond c (ends LinkLost v) (lost v)) v).engine.check
          ≡ cond (is_ended (cond b (cond c (ends LinkLost v) (lost v)) v)) None (check_of s h)
      by true true = over_so v.ended LinkLost (check_of s h)
      by true false = so_too (lost v) refl refl
      by false c = as_before
  check_after (Fails f) = by (is_ended v)
    where
      by : (b : Bool) → (cond b v (ends NotSubscribed (refused (failed f) v))).engine.check
          ≡ cond (is_ended (cond b v (ends NotSubscribed (refused (failed f) v)))) None (check_of s h)
      by true = as_before
      by false = over_so v.ended NotSubscribed (check_of s h)
  check_after (Ends why) = over_so v.ended why (check_of s h)
  check_after (Polls clock) =
      let same = counted_same (first_of v.engine.unread) clock (polls_at clock v) in
      so_too (counts_first clock (first_of v.engine.unread) (polls_at clock v)) same.1
      (ap (λ e. e.check) same.0 ∙ gives_due v.engine.check (clocked clock v.engine) refl)
  check_after Asks = so_too (after Asks v) refl refl
  check_after (IsAt clock) = so_too (after (IsAt clock) v) refl refl
  check_after TakesCopy = so_too (after TakesCopy v) refl (takes_due v.engine.check v.engine refl)
  check_after (IsCopied key clock) = told_so key (copied (clocked clock v.engine)) (copied_due v.engine.check (clocked clock v.engine) refl)
  check_after (FailsCopy key clock) = told_so key (copy_failed (clocked clock v.engine)) (failed_due v.engine.check (clocked clock v.engine) refl)
  check_after Stops = so_too (after Stops v) refl (stops_due v.engine.check v.engine refl)
  check_after (Forgets id) = so_too (after (Forgets id) v) refl refl
  check_after (Checks clock) = by (is_ended v) refl
    where
      by : (b : Bool) → is_ended v ≡ b → next_check clock v.engine.check ≡ cond b None (next_check clock (check_of s h))
      by true aye = ap (next_check clock) (is ∙ ended_none s h aye)
      by false nay = ap (next_check clock) is

pub checks_come_in_time : ChecksComeInTime
checks_come_in_time s [] = refl
checks_come_in_time s (act ∷ h) = check_after s h (checks_come_in_time s h) act
