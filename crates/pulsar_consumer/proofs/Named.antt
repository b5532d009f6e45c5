-- What every history keeps of the ids: those that are placed are kept until they are due.
use Rattle.std.proofs.Common.{◌≡◌, ◌∙◌, sym, ap, refl, subst, ℕ, suc, ◌+◌, ◌==◌, ◌&&◌, Bool, true, false, cond, List, [], ◌∷◌, ◌++◌, length, take, Option, Some, None, arith}
use Rattle.std.proofs.lemmas.List.{append-nil, append_assoc}
use Rattle.std.specs.List.Sorted.{IsStrictlySortedBy}
use Rattle.std.specs.Map.{lookup}
use Rattle.std.specs.Option.{is_some, option_map, option_or}
use Rattle.pulsar_consumer.specs.Items.{Item}
use Rattle.pulsar_consumer.specs.DeadLetters.{Letter, lost_letter}
use Rattle.pulsar_consumer.specs.Frames.{Frame, failed}
use Rattle.pulsar_consumer.specs.Redelivery.{Id, Kept, due_at, due_before, forget, forget_all, forget_one, is_early, is_same_id, keep_all, next_check}
use Rattle.pulsar_consumer.specs.Topic.{Act, Lives, Hears, Loses, Fails, Ends, Polls, Asks, IsAt, TakesCopy, IsCopied, FailsCopy, Stops, Forgets, Checks, Engine, Live, Seen, Setup, acked_by, advances, after, clocked, copied, copy_failed, counts_first, ends, finish, first_of, frame_for, gives, gives_from, gives_up, goes_on, heard, hears, is_ended, is_finished, is_pending, lives_on, only_if, placing, places, seen, stops, takes_copy, takes_copy_from, told}
use Rattle.pulsar_consumer.specs.Laws.{given, given_by, is_acked, is_forgotten_by, left, placed, queue}
use Rattle.pulsar_incoming.specs.declared.polled.Ending.{Ending}
use Rattle.pulsar_incoming.specs.declared.polled.Ending.TheVariants.{LinkLost, NotSubscribed}
use Rattle.pulsar_consumer.proofs.Due.{AreOrdered, forget_all_ordered, forget_none, forget_ordered, found_left, found_left_all, keep_more, kept_none, placed_ordered}
use Rattle.pulsar_consumer.proofs.Held.{bare_of, next_of, one_of}
use Rattle.pulsar_consumer.proofs.Histories.{Kept as Keeping, counted_same, kept as always, lost, polls_at, queue_is_kept, polls_give_arrivals, refused, subscribed_again}
use Rattle.pulsar_consumer.proofs.Keeping.{due_is}

-- AN ENGINE THAT GOES ON places some items, and keeps their ids

pub record Places (d e : Engine) : Type 0 where
  pub more : List Item
  pub unread : d.unread ≡ e.unread ++ more
  pub kept : d.kept ≡ keep_all (due_at e.delay e.clock) more e.kept
  pub delay : d.delay ≡ e.delay
  pub clock : d.clock ≡ e.clock

no_more : (e : Engine) → Places e e
no_more e = record { more = []; unread = sym (append-nil e.unread); kept = refl; delay = refl; clock = refl }

both_more : (c d e : Engine) → Places c d → Places d e → Places c e
both_more c d e p q =
    record {
      more = q.more ++ p.more;
      unread = p.unread ∙ ap (λ u. u ++ p.more) q.unread ∙ append_assoc e.unread q.more p.more;
      kept =
          p.kept ∙ ap (λ x. keep_all (due_at x d.clock) p.more d.kept) q.delay ∙ ap (λ x. keep_all (due_at e.delay x) p.more d.kept) q.clock
          ∙ ap (λ x. keep_all (due_at e.delay e.clock) p.more x) q.kept
          ∙ sym (keep_more (due_at e.delay e.clock) q.more p.more e.kept);
      delay = p.delay ∙ q.delay;
      clock = p.clock ∙ q.clock;
    }

places_more : (e : Engine) → Places (places e) e
places_more e = record { more = placing e; unread = refl; kept = refl; delay = refl; clock = refl }

goes_more : (fs : List Frame) (e : Engine) → Places (goes_on fs e) e
goes_more [] e = by (is_finished e)
  where
    by : (b : Bool) → Places (cond b (finish e) e) e
    by true = record { more = []; unread = sym (append-nil e.unread); kept = refl; delay = refl; clock = refl }
    by false = no_more e
goes_more (f ∷ fs) e = by (is_finished e) (goes_more fs (next_of f fs e))
  where
    begun : Places (next_of f fs e) e
    begun = record { more = placing (bare_of f fs e); unread = refl; kept = refl; delay = refl; clock = refl }

    by : (b : Bool) → Places (goes_on fs (next_of f fs e)) (next_of f fs e) → Places (cond b (goes_on fs (next_of f fs e)) e) e
    by true p = both_more (goes_on fs (next_of f fs e)) (next_of f fs e) e p begun
    by false p = no_more e

advances_more : (e : Engine) → Places (advances e) e
advances_more e = both_more (advances e) (places e) e (goes_more e.waiting (places e)) (places_more e)

-- what goes on from an engine with the same items and ids
as_from : (d b e : Engine) → b.unread ≡ e.unread → b.kept ≡ e.kept → b.delay ≡ e.delay → b.clock ≡ e.clock → Places d b → Places d e
as_from d b e u k l c p =
    record {
      more = p.more;
      unread = p.unread ∙ ap (λ x. x ++ p.more) u;
      kept =
          p.kept ∙ ap (λ x. keep_all (due_at x b.clock) p.more b.kept) l ∙ ap (λ x. keep_all (due_at e.delay x) p.more b.kept) c
          ∙ ap (keep_all (due_at e.delay e.clock) p.more) k;
      delay = p.delay ∙ l;
      clock = p.clock ∙ c;
    }

pub hears_more : (f : Frame) (e : Engine) → Places (hears f e) e
hears_more f e =
    as_from (hears f e) (record e { waiting = e.waiting ++ f ∷ [] }) e refl refl refl refl (advances_more (record e { waiting = e.waiting ++ f ∷ [] }))

pub takes_more : (e : Engine) → Places (takes_copy e) e
takes_more e = by (is_some e.copying) e.letters
  where
    by : (b : Bool) (ls : List Letter) → Places (cond b e (takes_copy_from ls e)) e
    by true ls = no_more e
    by false [] = no_more e
    by false (l ∷ ls) = record { more = []; unread = sym (append-nil e.unread); kept = refl; delay = refl; clock = refl }

-- the entry that is acknowledged is forgotten before
abbrev forgot : Engine → Engine
forgot e = record e { kept = forget_one (acked_by e) e.kept }

none_acked : (b : Bool) (old : Kept) → forget_one (only_if b None) old ≡ old
none_acked true old = refl
none_acked false old = refl

pub copied_more : (e : Engine) → Places (copied e) (forgot e)
copied_more e = by e.copying refl
  where
    by : (o : Option Id) → e.copying ≡ o →
        Places (cond (is_some o) (advances (record e { copying = None; kept = forget_one (acked_by e) e.kept })) e) (forgot e)
    by (Some id) c =
        as_from (advances (record e { copying = None; kept = forget_one (acked_by e) e.kept }))
        (record e { copying = None; kept = forget_one (acked_by e) e.kept }) (forgot e) refl refl refl refl
        (advances_more (record e { copying = None; kept = forget_one (acked_by e) e.kept }))
    by None c =
        record {
          more = [];
          unread = sym (append-nil e.unread);
          kept = sym (ap (λ o. forget_one (only_if (is_some e.live) o) e.kept) c ∙ none_acked (is_some e.live) e.kept);
          delay = refl;
          clock = refl;
        }

forgot_ordered : (o : Option Id) (old : Kept) → AreOrdered old → AreOrdered (forget_one o old)
forgot_ordered None old all = all
forgot_ordered (Some id) old all = forget_ordered id old all

forgot_none : (o : Option Id) (old : Kept) → old ≡ [] → forget_one o old ≡ []
forgot_none None old none = none
forgot_none (Some id) old none = ap (forget id) none

forgot_left : (q : Id) (o : Option Id) (old : Kept) → lookup (is_same_id q) (forget_one o old) ≡ cond (is_acked o q) None (lookup (is_same_id q) old)
forgot_left q None old = refl
forgot_left q (Some id) old = found_left q id old

gives_up_more : (e : Engine) → Places (gives_up e) e
gives_up_more e =
    as_from (gives_up e) (record e { rest = e.rest ++ lost_letter ∷ []; letters = []; copying = None }) e refl refl refl refl
    (advances_more (record e { rest = e.rest ++ lost_letter ∷ []; letters = []; copying = None }))

pub failed_more : (e : Engine) → Places (copy_failed e) e
failed_more e = by (is_some e.copying)
  where
    by : (b : Bool) → Places (cond b (gives_up e) e) e
    by true = gives_up_more e
    by false = no_more e

pub stops_more : (e : Engine) → Places (stops e) e
stops_more e = by (is_pending e)
  where
    by : (b : Bool) → Places (cond b (gives_up (record e { stopped = true })) (record e { stopped = true })) e
    by true = as_from (gives_up (record e { stopped = true })) (record e { stopped = true }) e refl refl refl refl (gives_up_more (record e { stopped = true }))
    by false = record { more = []; unread = sym (append-nil e.unread); kept = refl; delay = refl; clock = refl }

-- an item is given, and others are placed behind those that are left
pub record Gives (d e : Engine) : Type 0 where
  pub more : List Item
  pub items : one_of (first_of e.unread) ++ d.unread ≡ e.unread ++ more
  pub kept : d.kept ≡ keep_all (due_at e.delay e.clock) more e.kept
  pub delay : d.delay ≡ e.delay
  pub clock : d.clock ≡ e.clock

pub gives_more : (us : List Item) (e : Engine) → e.unread ≡ us → Gives (gives_from us e) e
gives_more [] e w =
    record { more = []; items = ap (λ u. one_of (first_of u) ++ e.unread) w ∙ sym (append-nil e.unread); kept = refl; delay = refl; clock = refl }
gives_more (x ∷ xs) e w =
    let p = advances_more (record e { unread = xs }) in
    record {
      more = p.more;
      items = ap (λ u. one_of (first_of u) ++ (advances (record e { unread = xs })).unread) w ∙ ap (λ u. x ∷ u) p.unread ∙ sym (ap (λ u. u ++ p.more) w);
      kept = p.kept;
      delay = p.delay;
      clock = p.clock;
    }

-- WHAT WAS PLACED

take_behind : (xs ys : List Item) (n : ℕ) → take (length xs + n) (xs ++ ys) ≡ xs ++ take n ys
take_behind [] ys n = ap (λ m. take m ys) (let e : 0 + n ≡ n = omega arith in e)
take_behind (x ∷ xs) ys n =
    ap (λ m. take m (x ∷ (xs ++ ys))) (let e : suc (length xs) + n ≡ suc (length xs + n) = omega arith in e) ∙ ap (λ zs. x ∷ zs) (take_behind xs ys n)

-- it was given or is unread
pub placed_is : (s : Setup) (h : List Act) → placed s h ≡ given s h ++ (seen s h).engine.unread
placed_is s h =
    ap (λ xs. take (length (given s h) + queue s) xs) (sym (polls_give_arrivals s h))
    ∙ take_behind (given s h) (left s h) (queue s)
    ∙ ap (λ xs. given s h ++ xs) (sym (queue_is_kept s h))

-- THE IDS THAT ARE KEPT

-- they are in order
ordered_by : (d e : Engine) → Places d e → AreOrdered e.kept → AreOrdered d.kept
ordered_by d e p all = subst AreOrdered (sym p.kept) (placed_ordered (due_at e.delay e.clock) p.more e.kept all)

ordered_gives : (e : Engine) → AreOrdered e.kept → AreOrdered (gives e).kept
ordered_gives e all =
    let p = gives_more e.unread e refl in subst AreOrdered (sym p.kept) (placed_ordered (due_at e.delay e.clock) p.more e.kept all)

pub none_ordered : AreOrdered []
unfolding IsStrictlySortedBy
none_ordered = tt

ordered_kept : Keeping (λ e. AreOrdered e.kept)
ordered_kept =
    record {
      at_lives = λ e link url p. p;
      at_clock = λ clock e p. p;
      at_cut = λ e p. p;
      at_shut = λ e p. none_ordered;
      at_hears = λ f e p. ordered_by (hears f e) e (hears_more f e) p;
      at_gives = ordered_gives;
      at_asks = λ e p. p;
      at_takes = λ e p. ordered_by (takes_copy e) e (takes_more e) p;
      at_copied = λ e p. ordered_by (copied e) (forgot e) (copied_more e) (forgot_ordered (acked_by e) e.kept p);
      at_failed = λ e p. ordered_by (copy_failed e) e (failed_more e) p;
      at_stops = λ e p. ordered_by (stops e) e (stops_more e) p;
      at_forgets = λ e id p. forget_ordered id e.kept p;
      at_names = λ e clock p. forget_all_ordered (due_before clock e.kept) e.kept p;
      at_check = λ e due p. p;
    }

pub ordered : (s : Setup) (h : List Act) → AreOrdered (seen s h).engine.kept
ordered s h = always (λ e. AreOrdered e.kept) ordered_kept s h none_ordered

-- there are none where there is no delay
abbrev KeepsNone : Engine → Type 0
KeepsNone e = e.delay ≡ None → e.kept ≡ []

still_none : (delay : Option ℕ) (clock : ℕ) (more : List Item) (old : Kept) → delay ≡ None → old ≡ [] → keep_all (due_at delay clock) more old ≡ []
still_none delay clock more old nay none =
    ap (λ d. keep_all (due_at d clock) more old) nay ∙ kept_none more old ∙ none

none_by : (d e : Engine) → Places d e → KeepsNone e → KeepsNone d
none_by d e p all nay = let old = sym p.delay ∙ nay in p.kept ∙ still_none e.delay e.clock p.more e.kept old (all old)

none_gives : (e : Engine) → KeepsNone e → KeepsNone (gives e)
none_gives e all nay =
    let p = gives_more e.unread e refl in let old = sym p.delay ∙ nay in p.kept ∙ still_none e.delay e.clock p.more e.kept old (all old)

none_kept : Keeping KeepsNone
none_kept =
    record {
      at_lives = λ e link url p. p;
      at_clock = λ clock e p. p;
      at_cut = λ e p. p;
      at_shut = λ e p nay. refl;
      at_hears = λ f e p. none_by (hears f e) e (hears_more f e) p;
      at_gives = none_gives;
      at_asks = λ e p. p;
      at_takes = λ e p. none_by (takes_copy e) e (takes_more e) p;
      at_copied = λ e p. none_by (copied e) (forgot e) (copied_more e) (λ nay. forgot_none (acked_by e) e.kept (p nay));
      at_failed = λ e p. none_by (copy_failed e) e (failed_more e) p;
      at_stops = λ e p. none_by (stops e) e (stops_more e) p;
      at_forgets = λ e id p nay. ap (forget id) (p nay);
      at_names = λ e clock p nay. ap (λ k. forget_all (due_before clock e.kept) k) (p nay) ∙ forget_none (due_before clock e.kept);
      at_check = λ e due p. p;
    }

pub keeps_none : (s : Setup) (h : List Act) → KeepsNone (seen s h).engine
keeps_none s h = always KeepsNone none_kept s h (λ nay. refl)

-- and there is none once it has ended
abbrev Delays : Setup → Seen → Type 0
Delays s v = v.engine.delay ≡ cond (is_ended v) None s.config.unacked_message_redelivery_delay

pub ended_some : (o : Option Ending) (why : Ending) → is_some (option_or o (Some why)) ≡ true
ended_some None why = refl
ended_some (Some other) why = refl

module _ (s : Setup) where
  is_over : (v w : Seen) → is_ended w ≡ true → w.engine.delay ≡ None → Delays s w
  is_over v w aye none = none ∙ sym (ap (λ b. cond b None s.config.unacked_message_redelivery_delay) aye)

  same_delay : (v w : Seen) → w.ended ≡ v.ended → w.engine.delay ≡ v.engine.delay → Delays s v → Delays s w
  same_delay v w e d p = d ∙ p ∙ ap (λ o. cond (is_some o) None s.config.unacked_message_redelivery_delay) (sym e)

  told_delay : (key : ℕ) (e : Engine) (v : Seen) → e.delay ≡ v.engine.delay → Delays s v → Delays s (told key e v)
  told_delay key e v d p = by (v.key == key)
    where
      by : (b : Bool) → Delays s (cond b (record v { engine = e }) v)
      by true = same_delay v (record v { engine = e }) refl d p
      by false = p

  delays_after : (act : Act) (v : Seen) → Delays s v → Delays s (after act v)
  delays_after (Lives link url) v p = by (is_ended v)
    where
      by : (b : Bool) → Delays s (cond b v (subscribed_again link url v))
      by true = p
      by false = p
  delays_after (Hears link f) v p = by (lives_on link v)
    where
      by : (b : Bool) → Delays s (cond b (heard f v) v)
      by true = same_delay v (heard f v) refl (hears_more (frame_for v f) v.engine).delay p
      by false = p
  delays_after (Loses link) v p = by (lives_on link v) v.is_raw
    where
      by : (b c : Bool) → Delays s (cond b (cond c (ends LinkLost v) (lost v)) v)
      by true true = is_over v (ends LinkLost v) (ended_some v.ended LinkLost) refl
      by true false = p
      by false c = p
  delays_after (Fails f) v p = by (is_ended v)
    where
      by : (b : Bool) → Delays s (cond b v (ends NotSubscribed (refused (failed f) v)))
      by true = p
      by false = is_over v (ends NotSubscribed (refused (failed f) v)) (ended_some v.ended NotSubscribed) refl
  delays_after (Ends why) v p = is_over v (ends why v) (ended_some v.ended why) refl
  delays_after (Polls clock) v p =
      let same = counted_same (first_of v.engine.unread) clock (polls_at clock v) in
      same_delay v (counts_first clock (first_of v.engine.unread) (polls_at clock v)) same.1
      (ap (λ e. e.delay) same.0 ∙ (gives_more v.engine.unread (clocked clock v.engine) refl).delay) p
  delays_after Asks v p = p
  delays_after (IsAt clock) v p = p
  delays_after TakesCopy v p = same_delay v (after TakesCopy v) refl (takes_more v.engine).delay p
  delays_after (IsCopied key clock) v p = told_delay key (copied (clocked clock v.engine)) v (copied_more (clocked clock v.engine)).delay p
  delays_after (FailsCopy key clock) v p = told_delay key (copy_failed (clocked clock v.engine)) v (failed_more (clocked clock v.engine)).delay p
  delays_after Stops v p = same_delay v (after Stops v) refl (stops_more v.engine).delay p
  delays_after (Forgets id) v p = p
  delays_after (Checks clock) v p = by (is_some v.engine.live)
    where
      by : (b : Bool) → Delays s (record v { engine = cond b (record v.engine { kept = forget_all (due_before clock v.engine.kept) v.engine.kept }) v.engine })
      by true = p
      by false = p

  pub delays : (h : List Act) → Delays s (seen s h)
  delays [] = refl
  delays (act ∷ h) = delays_after act (seen s h) (delays h)

-- WHAT AN ACT MAKES OF THEM, where it has not ended behind it: it forgets some, and keeps those that it places

pub record Moves (act : Act) (v w : Seen) : Type 0 where
  pub more : List Item
  pub items : given_by act v ++ w.engine.unread ≡ v.engine.unread ++ more
  pub base : Kept
  pub kept : w.engine.kept ≡ keep_all (due_at w.engine.delay w.engine.clock) more base
  pub others : (id : Id) →
      lookup (is_same_id id) base ≡ cond (is_forgotten_by act v id (lookup (is_same_id id) v.engine.kept)) None (lookup (is_same_id id) v.engine.kept)

-- nothing is placed, and nothing forgotten
stays_so : (act : Act) (v w : Seen) → given_by act v ≡ [] → w.engine.unread ≡ v.engine.unread → w.engine.kept ≡ v.engine.kept →
    ((id : Id) (due : Option ℕ) → is_forgotten_by act v id due ≡ false) → Moves act v w
stays_so act v w none u k not_so =
    record {
      more = [];
      items = ap (λ g. g ++ w.engine.unread) none ∙ u ∙ sym (append-nil v.engine.unread);
      base = v.engine.kept;
      kept = k;
      others = λ id. sym (ap (λ b. cond b None (lookup (is_same_id id) v.engine.kept)) (not_so id (lookup (is_same_id id) v.engine.kept)));
    }

-- items are placed
moves_so : (act : Act) (v w : Seen) (clock : ℕ) → given_by act v ≡ [] → Places w.engine (clocked clock v.engine) →
    ((id : Id) (due : Option ℕ) → is_forgotten_by act v id due ≡ false) → Moves act v w
moves_so act v w clock none p not_so =
    record {
      more = p.more;
      items = ap (λ g. g ++ w.engine.unread) none ∙ p.unread;
      base = v.engine.kept;
      kept =
          p.kept
          ∙ ap (λ d. keep_all (due_at d clock) p.more v.engine.kept) (sym p.delay)
          ∙ ap (λ c. keep_all (due_at w.engine.delay c) p.more v.engine.kept) (sym p.clock);
      others = λ id. sym (ap (λ b. cond b None (lookup (is_same_id id) v.engine.kept)) (not_so id (lookup (is_same_id id) v.engine.kept)));
    }

no_end : (o : Option Ending) (why : Ending) → is_some (option_or o (Some why)) ≡ false → ⊥
no_end o why not_so = absurd (let nay : true ≡ false = sym (ended_some o why) ∙ not_so in cc)

live_link : (l : Option Live) → is_some (option_map (λ l. l.link) l) ≡ is_some l
live_link None = refl
live_link (Some l) = refl

pub moves_after : (act : Act) (v : Seen) → AreOrdered v.engine.kept → is_ended (after act v) ≡ false → Moves act v (after act v)
moves_after (Lives link url) v in_order not_so = by (is_ended v)
  where
    by : (b : Bool) → Moves (Lives link url) v (cond b v (subscribed_again link url v))
    by true = stays_so (Lives link url) v v refl refl refl (λ id due. refl)
    by false = stays_so (Lives link url) v (subscribed_again link url v) refl refl refl (λ id due. refl)
moves_after (Hears link f) v in_order not_so = by (lives_on link v)
  where
    by : (b : Bool) → Moves (Hears link f) v (cond b (heard f v) v)
    by true = moves_so (Hears link f) v (heard f v) v.engine.clock refl (hears_more (frame_for v f) v.engine) (λ id due. refl)
    by false = stays_so (Hears link f) v v refl refl refl (λ id due. refl)
moves_after (Loses link) v in_order not_so = by (lives_on link v) v.is_raw not_so
  where
    by : (b c : Bool) → is_ended (cond b (cond c (ends LinkLost v) (lost v)) v) ≡ false → Moves (Loses link) v (cond b (cond c (ends LinkLost v) (lost v)) v)
    by true true nay = absurd (no_end v.ended LinkLost nay)
    by true false nay = stays_so (Loses link) v (lost v) refl refl refl (λ id due. refl)
    by false c nay = stays_so (Loses link) v v refl refl refl (λ id due. refl)
moves_after (Fails f) v in_order not_so = by (is_ended v) refl not_so
  where
    by : (b : Bool) → is_ended v ≡ b → is_ended (cond b v (ends NotSubscribed (refused (failed f) v))) ≡ false →
        Moves (Fails f) v (cond b v (ends NotSubscribed (refused (failed f) v)))
    by true aye nay = absurd (let bad : true ≡ false = sym aye ∙ nay in cc)
    by false aye nay = absurd (no_end v.ended NotSubscribed nay)
moves_after (Ends why) v in_order not_so = absurd (no_end v.ended why not_so)
moves_after (Polls clock) v in_order not_so =
    let p = gives_more v.engine.unread (clocked clock v.engine) refl in
    let e = gives (clocked clock v.engine) in
    let same : (counts_first clock (first_of v.engine.unread) (polls_at clock v)).engine ≡ e =
    (counted_same (first_of v.engine.unread) clock (polls_at clock v)).0 in
    record {
      more = p.more;
      items =
          ap (λ d. given_by (Polls clock) v ++ d.unread) same ∙ p.items;
      base = v.engine.kept;
      kept =
          ap (λ d. d.kept) same
          ∙ p.kept
          ∙ ap (λ d. keep_all (due_at d clock) p.more v.engine.kept) (sym p.delay)
          ∙ ap (λ c. keep_all (due_at e.delay c) p.more v.engine.kept) (sym p.clock)
          ∙ ap (λ d. keep_all (due_at d.delay d.clock) p.more v.engine.kept) (sym same);
      others = λ id. refl;
    }
moves_after Asks v in_order not_so = stays_so Asks v (after Asks v) refl refl refl (λ id due. refl)
moves_after (IsAt clock) v in_order not_so = stays_so (IsAt clock) v (after (IsAt clock) v) refl refl refl (λ id due. refl)
moves_after TakesCopy v in_order not_so = moves_so TakesCopy v (after TakesCopy v) v.engine.clock refl (takes_more v.engine) (λ id due. refl)
moves_after (IsCopied key clock) v in_order not_so = by (v.key == key) refl
  where
    e : Engine
    e = copied (clocked clock v.engine)

    own : (v.key == key) ≡ true → Moves (IsCopied key clock) v (record v { engine = e })
    own aye =
        let p = copied_more (clocked clock v.engine) in
        record {
          more = p.more;
          items = p.unread;
          base = forget_one (acked_by v.engine) v.engine.kept;
          kept =
              p.kept
              ∙ ap (λ d. keep_all (due_at d clock) p.more (forget_one (acked_by v.engine) v.engine.kept)) (sym p.delay)
              ∙ ap (λ c. keep_all (due_at e.delay c) p.more (forget_one (acked_by v.engine) v.engine.kept)) (sym p.clock);
          others = λ id.
              forgot_left id (acked_by v.engine) v.engine.kept
              ∙ ap (λ b. cond (is_acked (only_if b (acked_by v.engine)) id) None (lookup (is_same_id id) v.engine.kept)) (sym aye);
        }

    by : (b : Bool) → (v.key == key) ≡ b → Moves (IsCopied key clock) v (cond b (record v { engine = e }) v)
    by true aye = own aye
    by false nay = stays_so (IsCopied key clock) v v refl refl refl (λ id due. ap (λ b. is_acked (only_if b (acked_by v.engine)) id) nay)
moves_after (FailsCopy key clock) v in_order not_so = by (v.key == key)
  where
    e : Engine
    e = copy_failed (clocked clock v.engine)

    by : (b : Bool) → Moves (FailsCopy key clock) v (cond b (record v { engine = e }) v)
    by true = moves_so (FailsCopy key clock) v (record v { engine = e }) clock refl (failed_more (clocked clock v.engine)) (λ id due. refl)
    by false = stays_so (FailsCopy key clock) v v refl refl refl (λ id due. refl)
moves_after Stops v in_order not_so = moves_so Stops v (after Stops v) v.engine.clock refl (stops_more v.engine) (λ id due. refl)
moves_after (Forgets other) v in_order not_so =
    record {
      more = [];
      items = sym (append-nil v.engine.unread);
      base = forget other v.engine.kept;
      kept = refl;
      others = λ id. found_left id other v.engine.kept;
    }
moves_after (Checks clock) v in_order not_so = by (is_some v.engine.live) refl
  where
    by : (b : Bool) → is_some v.engine.live ≡ b →
        Moves (Checks clock) v (record v {
          engine = record (cond b (record v.engine { kept = forget_all (due_before clock v.engine.kept) v.engine.kept }) v.engine) {
            check = next_check clock v.engine.check;
          };
        })
    by true aye =
        record {
          more = [];
          items = sym (append-nil v.engine.unread);
          base = forget_all (due_before clock v.engine.kept) v.engine.kept;
          kept = refl;
          others = λ id.
              found_left_all id (due_before clock v.engine.kept) v.engine.kept
              ∙ ap (λ b. cond b None (lookup (is_same_id id) v.engine.kept)) (due_is clock v.engine.kept in_order id)
              ∙ ap (λ b. cond (b && is_early clock (lookup (is_same_id id) v.engine.kept)) None (lookup (is_same_id id) v.engine.kept))
              (sym (live_link v.engine.live ∙ aye));
        }
    by false nay =
        stays_so (Checks clock) v _ refl refl refl (λ id due. ap (λ b. b && is_early clock due) (live_link v.engine.live ∙ nay))
