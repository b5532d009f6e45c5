-- What an act keeps, and so every history.
use Rattle.std.proofs.Common.{◌≡◌, ◌∙◌, sym, ap, refl, subst, ℕ, ◌+◌, ◌-◌, ◌<◌, ◌≤◌, nat_lt, ◌==◌, ◌&&◌, not, Bool, true, false, cond, List, [], ◌∷◌, ◌++◌, length, take, drop, Option, Some, None, arith}
use Rattle.std.proofs.lemmas.Bool.Decides.{nat_tests}
use Rattle.std.proofs.lemmas.List.{append-nil, drop_at, take-append-le, take_all}
use Rattle.std.specs.Option.{is_some, option_map, option_or}
use Rattle.url.specs.Parts.{Parts}
use Rattle.pulsar_wire.specs.Sink.{capped}
use Rattle.pulsar_consumer.specs.Items.{Item, is_message}
use Rattle.pulsar_consumer.specs.DeadLetters.{Letter}
use Rattle.pulsar_consumer.specs.Frames.{Frame, failed}
use Rattle.pulsar_consumer.specs.Redelivery.{Id, Kept as KeptList, due_before, forget, forget_all, next_check}
use Rattle.pulsar_consumer.specs.Topic.{Act, Lives, Hears, Loses, Fails, Ends, Polls, Asks, IsAt, TakesCopy, IsCopied, FailsCopy, Stops, Forgets, Checks, Engine, Live, Seen, Setup, advances, after, asked, checks, clocked, copied, copy_failed, counts_first, cut_off, ends, finish, first_of, frame_for, gives, goes_on, heard, hears, idle, is_ended, is_finished, is_on, is_pending, lives, lives_on, loses, names_due, no_items, over, places, polled_from, queue_of, seen, shut, stops, subscribed, takes_copy, told}
use Rattle.pulsar_consumer.specs.Laws.{EndIsFinal, Fate, Pending, Settled, FramesBeginInTurn, PollsGiveArrivals, PollsGiveTheNext, QueueIsKept, arrivals, arrives_by, begun, begun_behind, begun_in, behind_fate, fate, given, given_by, is_pending_in, is_stopped, left, outcome_by, outcome_if, outcomes, pending_behind, pending_in, queue, ready, ready_in}
use Rattle.pulsar_incoming.specs.declared.polled.Ending.{Ending}
use Rattle.pulsar_incoming.specs.declared.polled.Ending.TheVariants.{LinkLost, NotSubscribed}
use Rattle.pulsar_consumer.proofs.Following.{Allowed, Follows, copied_follows, failed_follows, gives_follows, hears_follows, holding, open_of, renewed, size, stops_follows, takes_follows}
use Rattle.pulsar_consumer.proofs.Held.{IsSettled, copied_settled, failed_settled, gives_settled, hears_settled, is_idle, next_of, none_left, nothing_open, one_of, some_in, stops_settled, takes_settled}
use Rattle.pulsar_consumer.proofs.Permits.{Keeps, advances_dead, advances_keeps, copied_so, failed_so, gives_so, hears_so, stops_so, takes_so}

-- counting a message leaves the engine as it is, and why it has ended
counted_by : (b : Bool) (v w : Seen) → w.engine ≡ v.engine → w.ended ≡ v.ended → ((cond b w v).engine ≡ v.engine) × ((cond b w v).ended ≡ v.ended)
counted_by true v w e f = (e, f)
counted_by false v w e f = (refl, refl)

pub counted_same : (o : Option Item) (clock : ℕ) (v : Seen) → ((counts_first clock o v).engine ≡ v.engine) × ((counts_first clock o v).ended ≡ v.ended)
counted_same None clock v = (refl, refl)
counted_same (Some item) clock v = counted_by (is_message item) v (record v { received = capped (v.received + 1); last = Some clock }) refl refl

-- what an act makes of it, where it makes anything
abbrev pub subscribed_again : (link : ℕ) → Parts → Seen → Seen
subscribed_again link url v = record v { engine = lives link url v.engine }

abbrev pub refused : Frame → Seen → Seen
refused f v = record v { engine = hears f v.engine }

abbrev pub lost : Seen → Seen
lost v = record v { engine = cut_off v.engine }

abbrev pub polls_at : (clock : ℕ) → Seen → Seen
polls_at clock v = record v { engine = gives (clocked clock v.engine) }

-- A PROPERTY OF THE ENGINE that each of its changes keeps, every act keeps

pub record Kept (P : Engine → Type 0) : Type 0 where
  pub at_lives : (e : Engine) (link : ℕ) (url : Parts) → P e → P (record e { live = Some (subscribed e.batch link url) })
  pub at_clock : (clock : ℕ) (e : Engine) → P e → P (clocked clock e)
  pub at_cut : (e : Engine) → P e → P (cut_off e)
  pub at_shut : (e : Engine) → P e → P (shut e)
  pub at_hears : (f : Frame) (e : Engine) → P e → P (hears f e)
  pub at_gives : (e : Engine) → P e → P (gives e)
  pub at_asks : (e : Engine) → P e → P (record e { live = option_map asked e.live })
  pub at_takes : (e : Engine) → P e → P (takes_copy e)
  pub at_copied : (e : Engine) → P e → P (copied e)
  pub at_failed : (e : Engine) → P e → P (copy_failed e)
  pub at_stops : (e : Engine) → P e → P (stops e)
  pub at_forgets : (e : Engine) (id : Id) → P e → P (record e { kept = forget id e.kept })
  pub at_names : (e : Engine) (clock : ℕ) → P e → P (record e { kept = forget_all (due_before clock e.kept) e.kept })
  pub at_check : (e : Engine) (due : Option ℕ) → P e → P (record e { check = due })

module _ (P : Engine → Type 0) (k : Kept P) where
  loses_kept : (b : Bool) (v : Seen) → P v.engine → P (cond b (ends LinkLost v) (lost v)).engine
  loses_kept true v p = k.at_shut v.engine p
  loses_kept false v p = k.at_cut v.engine p

  lives_kept : (b : Bool) (v w : Seen) → P v.engine → P w.engine → P (cond b v w).engine
  lives_kept true v w p q = p
  lives_kept false v w p q = q

  told_kept : (key : ℕ) (e : Engine) (v : Seen) → P v.engine → P e → P (told key e v).engine
  told_kept key e v p q = lives_kept (v.key == key) (record v { engine = e }) v q p

  names_kept : (clock : ℕ) (e : Engine) → P e → P (names_due clock e)
  names_kept clock e p = by (is_some e.live)
    where
      by : (b : Bool) → P (cond b (record e { kept = forget_all (due_before clock e.kept) e.kept }) e)
      by true = k.at_names e clock p
      by false = p

  kept_after : (act : Act) (v : Seen) → P v.engine → P (after act v).engine
  kept_after (Lives link url) v p =
      lives_kept (is_ended v) v (subscribed_again link url v) p
      (k.at_check (record v.engine { live = Some (subscribed v.engine.batch link url) }) (lives link url v.engine).check (k.at_lives v.engine link url p))
  kept_after (Hears link f) v p = lives_kept (lives_on link v) (heard f v) v (k.at_hears (frame_for v f) v.engine p) p
  kept_after (Loses link) v p = lives_kept (lives_on link v) (loses v) v (loses_kept v.is_raw v p) p
  kept_after (Fails f) v p =
      lives_kept (is_ended v) v (ends NotSubscribed (refused (failed f) v)) p (k.at_shut (hears (failed f) v.engine) (k.at_hears (failed f) v.engine p))
  kept_after (Ends why) v p = k.at_shut v.engine p
  kept_after (Polls clock) v p =
      subst P (sym (counted_same (first_of v.engine.unread) clock (polls_at clock v)).0) (k.at_gives (clocked clock v.engine) (k.at_clock clock v.engine p))
  kept_after Asks v p = k.at_asks v.engine p
  kept_after (IsAt clock) v p = k.at_clock clock v.engine p
  kept_after TakesCopy v p = k.at_takes v.engine p
  kept_after (IsCopied key clock) v p =
      told_kept key (copied (clocked clock v.engine)) v p (k.at_copied (clocked clock v.engine) (k.at_clock clock v.engine p))
  kept_after (FailsCopy key clock) v p =
      told_kept key (copy_failed (clocked clock v.engine)) v p (k.at_failed (clocked clock v.engine) (k.at_clock clock v.engine p))
  kept_after Stops v p = k.at_stops v.engine p
  kept_after (Forgets id) v p = k.at_forgets v.engine id p
  kept_after (Checks clock) v p = k.at_check (names_due clock v.engine) (checks clock v.engine).check (names_kept clock v.engine p)

  pub kept : (s : Setup) (h : List Act) → P (idle s.is_raw s.config) → P (seen s h).engine
  kept s [] p = p
  kept s (act ∷ h) p = kept_after act (seen s h) (kept s h p)

-- SIZES

sizes_kept : (e : Engine) → Kept (λ d. Keeps d e)
sizes_kept e =
    record {
      at_lives = λ d link url p. p;
      at_clock = λ clock d p. p;
      at_cut = λ d p. p;
      at_shut = λ d p. p;
      at_hears = hears_so P P weak on bare;
      at_gives = gives_so P P weak on bare;
      at_asks = λ d p. p;
      at_takes = λ d p. takes_so P P weak on bare d p (λ ls id. p);
      at_copied = copied_so P P weak on bare;
      at_failed = failed_so P P weak on bare;
      at_stops = λ d p. stops_so P P weak on bare d p;
      at_forgets = λ d id p. p;
      at_names = λ d clock p. p;
      at_check = λ d due p. p;
    }
  where
    P : Engine → Type 0
    P d = Keeps d e

    weak : (d : Engine) → P d → P d
    weak d p = p

    on : (d : Engine) → P d → P (advances d)
    on d p = advances_keeps d e p

    bare : (d : Engine) (u r : List Item) (ls : List Letter) (o : Option Id) (w : List Frame) (k : KeptList) → P d →
        P (record d { unread = u; rest = r; letters = ls; copying = o; waiting = w; kept = k })
    bare d u r ls o w k p = p

pub sizes : (s : Setup) (h : List Act) → Keeps (seen s h).engine (idle s.is_raw s.config)
sizes s h = kept (λ d. Keeps d (idle s.is_raw s.config)) (sizes_kept (idle s.is_raw s.config)) s h (refl, refl)

queue_some : (o : Option ℕ) → 0 < queue_of o
queue_some None = omega arith
queue_some (Some n) = by (n == 0) refl
  where
    by : (b : Bool) → (n == 0) ≡ b → 0 < cond b 1 n
    by true e = omega arith
    by false e = grind (arith, nat_tests)

-- WHAT IS PLACED

settled_kept : Kept IsSettled
settled_kept =
    record {
      at_lives = λ d link url p. p;
      at_clock = λ clock d p. p;
      at_cut = λ d p. p;
      at_shut = λ d p. p;
      at_hears = hears_settled;
      at_gives = gives_settled;
      at_asks = λ d p. p;
      at_takes = takes_settled;
      at_copied = copied_settled;
      at_failed = failed_settled;
      at_stops = stops_settled;
      at_forgets = λ d id p. p;
      at_names = λ d clock p. p;
      at_check = λ d due p. p;
    }

pub settled : (s : Setup) (h : List Act) → IsSettled (seen s h).engine
settled s h = kept IsSettled settled_kept s h ((omega arith, λ none. absurd cc), λ none. refl)

-- THE CLIENT IS STOPPED, and no copy is made from then on

goes_stopped : (fs : List Frame) (e : Engine) → (goes_on fs e).stopped ≡ e.stopped
goes_stopped [] e = by (is_finished e)
  where
    by : (b : Bool) → (cond b (finish e) e).stopped ≡ e.stopped
    by true = refl
    by false = refl
goes_stopped (f ∷ fs) e = by (is_finished e) (goes_stopped fs (next_of f fs e))
  where
    by : (b : Bool) → (goes_on fs (next_of f fs e)).stopped ≡ e.stopped → (cond b (goes_on fs (next_of f fs e)) e).stopped ≡ e.stopped
    by true all = all
    by false all = refl

module _ (is : Bool) where
  abbrev Halts : Engine → Type 0
  Halts e = e.stopped ≡ is

  halts_weak : (e : Engine) → Halts e → Halts e
  halts_weak e p = p

  halts_on : (e : Engine) → Halts e → Halts (advances e)
  halts_on e p = goes_stopped e.waiting (places e) ∙ p

  halts_bare : (e : Engine) (u r : List Item) (ls : List Letter) (o : Option Id) (w : List Frame) (k : KeptList) → Halts e →
      Halts (record e { unread = u; rest = r; letters = ls; copying = o; waiting = w; kept = k })
  halts_bare e u r ls o w k p = p

  hears_halts : (f : Frame) (e : Engine) → Halts e → Halts (hears f e)
  hears_halts = hears_so Halts Halts halts_weak halts_on halts_bare

  gives_halts : (e : Engine) → Halts e → Halts (gives e)
  gives_halts = gives_so Halts Halts halts_weak halts_on halts_bare

  copied_halts : (e : Engine) → Halts e → Halts (copied e)
  copied_halts = copied_so Halts Halts halts_weak halts_on halts_bare

  failed_halts : (e : Engine) → Halts e → Halts (copy_failed e)
  failed_halts = failed_so Halts Halts halts_weak halts_on halts_bare

  takes_halts : (e : Engine) → Halts e → Halts (takes_copy e)
  takes_halts e p = takes_so Halts Halts halts_weak halts_on halts_bare e p (λ ls id. p)

stops_halts : (e : Engine) → (stops e).stopped ≡ true
stops_halts e = stops_so (Halts true) (Halts true) (halts_weak true) (halts_on true) (halts_bare true) e refl

stopped_after : (act : Act) (h : List Act) (v : Seen) → v.engine.stopped ≡ is_stopped h → (after act v).engine.stopped ≡ is_stopped (act ∷ h)
stopped_after (Lives link url) h v p = by (is_ended v)
  where
    by : (b : Bool) → (cond b v (subscribed_again link url v)).engine.stopped ≡ is_stopped h
    by true = p
    by false = p
stopped_after (Hears link f) h v p = by (lives_on link v)
  where
    by : (b : Bool) → (cond b (heard f v) v).engine.stopped ≡ is_stopped h
    by true = hears_halts (is_stopped h) (frame_for v f) v.engine p
    by false = p
stopped_after (Loses link) h v p = by (lives_on link v) v.is_raw
  where
    by : (b c : Bool) → (cond b (cond c (ends LinkLost v) (lost v)) v).engine.stopped ≡ is_stopped h
    by true true = p
    by true false = p
    by false c = p
stopped_after (Fails f) h v p = by (is_ended v)
  where
    by : (b : Bool) → (cond b v (ends NotSubscribed (refused (failed f) v))).engine.stopped ≡ is_stopped h
    by true = p
    by false = hears_halts (is_stopped h) (failed f) v.engine p
stopped_after (Ends why) h v p = p
stopped_after (Polls clock) h v p =
    subst (λ e. e.stopped ≡ is_stopped h) (sym (counted_same (first_of v.engine.unread) clock (polls_at clock v)).0)
    (gives_halts (is_stopped h) (clocked clock v.engine) p)
stopped_after Asks h v p = p
stopped_after (IsAt clock) h v p = p
stopped_after TakesCopy h v p = takes_halts (is_stopped h) v.engine p
stopped_after (IsCopied key clock) h v p = by (v.key == key)
  where
    by : (b : Bool) → (cond b (record v { engine = copied (clocked clock v.engine) }) v).engine.stopped ≡ is_stopped h
    by true = copied_halts (is_stopped h) (clocked clock v.engine) p
    by false = p
stopped_after (FailsCopy key clock) h v p = by (v.key == key)
  where
    by : (b : Bool) → (cond b (record v { engine = copy_failed (clocked clock v.engine) }) v).engine.stopped ≡ is_stopped h
    by true = failed_halts (is_stopped h) (clocked clock v.engine) p
    by false = p
stopped_after Stops h v p = stops_halts v.engine
stopped_after (Forgets id) h v p = p
stopped_after (Checks clock) h v p = by (is_some v.engine.live)
  where
    by : (b : Bool) → (cond b (record v.engine { kept = forget_all (due_before clock v.engine.kept) v.engine.kept }) v.engine).stopped ≡ is_stopped h
    by true = p
    by false = p

pub halted : (s : Setup) (h : List Act) → (seen s h).engine.stopped ≡ is_stopped h
halted s [] = refl
halted s (act ∷ h) = stopped_after act h (seen s h) (halted s h)

-- ITEMS

-- nothing came
unchanged : {all : List Frame} {os : List Bool} {gave : List Item} (e : Engine) → Follows all os gave e → Follows (all ++ []) (os ++ []) (gave ++ []) e
unchanged {all} {os} {gave} e s =
    subst (λ xs. Follows xs (os ++ []) (gave ++ []) e) (sym (append-nil all))
    (subst (λ xs. Follows all xs (gave ++ []) e) (sym (append-nil os))
    (subst (λ xs. Follows all os xs e) (sym (append-nil gave)) s))

-- a frame came
came : (all : List Frame) (os : List Bool) (gave : List Item) (f : Frame) (e : Engine) → Follows (all ++ f ∷ []) os gave e →
    Follows (all ++ f ∷ []) (os ++ []) (gave ++ []) e
came all os gave f e s =
    subst (λ xs. Follows (all ++ f ∷ []) xs (gave ++ []) e) (sym (append-nil os))
    (subst (λ xs. Follows (all ++ f ∷ []) os xs e) (sym (append-nil gave)) s)

-- an outcome came
settled_one : (all : List Frame) (os : List Bool) (gave : List Item) (more : List Bool) (e : Engine) → Follows all (os ++ more) gave e →
    Follows (all ++ []) (os ++ more) (gave ++ []) e
settled_one all os gave more e s =
    subst (λ xs. Follows xs (os ++ more) (gave ++ []) e) (sym (append-nil all))
    (subst (λ xs. Follows all (os ++ more) xs e) (sym (append-nil gave)) s)

module _ (all : List Frame) (os : List Bool) (gave : List Item) where
  shut_follows : (e : Engine) → Follows all os gave e → Follows all os gave (shut e)
  shut_follows e s = renewed e None None e.clock [] None s

  clocked_follows : (clock : ℕ) (e : Engine) → Follows all os gave e → Follows all os gave (clocked clock e)
  clocked_follows clock e s = renewed e e.live e.delay clock e.kept e.check s

  follows_after : (act : Act) (v : Seen) → length v.engine.unread ≤ v.engine.queue → Follows all os gave v.engine →
      Follows (all ++ arrives_by act v) (os ++ outcome_by act v) (gave ++ given_by act v) (after act v).engine
  follows_after (Lives link url) v le s = by (is_ended v)
    where
      by : (b : Bool) → Follows (all ++ []) (os ++ []) (gave ++ []) (cond b v (subscribed_again link url v)).engine
      by true = unchanged v.engine s
      by false =
          unchanged _
          (renewed v.engine (Some (subscribed v.engine.batch link url)) v.engine.delay v.engine.clock v.engine.kept (lives link url v.engine).check s)
  follows_after (Hears link f) v le s = by (lives_on link v)
    where
      by : (b : Bool) → Follows (all ++ cond b (frame_for v f ∷ []) []) (os ++ []) (gave ++ []) (cond b (heard f v) v).engine
      by true = came all os gave (frame_for v f) _ (hears_follows all os gave (frame_for v f) v.engine le s)
      by false = unchanged v.engine s
  follows_after (Loses link) v le s = by (lives_on link v) v.is_raw
    where
      by : (b c : Bool) → Follows (all ++ []) (os ++ []) (gave ++ []) (cond b (cond c (ends LinkLost v) (lost v)) v).engine
      by true true = unchanged _ (shut_follows v.engine s)
      by true false = unchanged _ (renewed v.engine None v.engine.delay v.engine.clock v.engine.kept v.engine.check s)
      by false c = unchanged v.engine s
  follows_after (Fails f) v le s = by (is_ended v)
    where
      by : (b : Bool) → Follows (all ++ cond b [] (failed f ∷ [])) (os ++ []) (gave ++ []) (cond b v (ends NotSubscribed (refused (failed f) v))).engine
      by true = unchanged v.engine s
      by false =
          let heard_one = hears_follows all os gave (failed f) v.engine le s in
          came all os gave (failed f) _ (renewed (hears (failed f) v.engine) None None (hears (failed f) v.engine).clock [] None heard_one)
  follows_after (Ends why) v le s = unchanged _ (shut_follows v.engine s)
  follows_after (Polls clock) v le s =
      subst (λ e. Follows (all ++ []) (os ++ []) (gave ++ one_of (first_of v.engine.unread)) e)
      (sym (counted_same (first_of v.engine.unread) clock (polls_at clock v)).0)
      (subst (λ xs. Follows xs (os ++ []) (gave ++ one_of (first_of v.engine.unread)) (gives (clocked clock v.engine))) (sym (append-nil all))
      (subst (λ xs. Follows all xs (gave ++ one_of (first_of v.engine.unread)) (gives (clocked clock v.engine))) (sym (append-nil os))
      (gives_follows all os gave (clocked clock v.engine) le (clocked_follows clock v.engine s))))
  follows_after Asks v le s = unchanged _ (renewed v.engine (option_map asked v.engine.live) v.engine.delay v.engine.clock v.engine.kept v.engine.check s)
  follows_after (IsAt clock) v le s = unchanged _ (clocked_follows clock v.engine s)
  follows_after TakesCopy v le s = unchanged _ (takes_follows all os gave v.engine s)
  follows_after (IsCopied key clock) v le s = by (v.key == key)
    where
      by : (b : Bool) → Follows (all ++ []) (os ++ outcome_if (b && is_some v.engine.copying) true) (gave ++ [])
          (cond b (record v { engine = copied (clocked clock v.engine) }) v).engine
      by true =
          settled_one all os gave (outcome_if (is_some v.engine.copying) true) _
          (copied_follows all os gave (clocked clock v.engine) le (clocked_follows clock v.engine s))
      by false = unchanged v.engine s
  follows_after (FailsCopy key clock) v le s = by (v.key == key)
    where
      by : (b : Bool) → Follows (all ++ []) (os ++ outcome_if (b && is_some v.engine.copying) false) (gave ++ [])
          (cond b (record v { engine = copy_failed (clocked clock v.engine) }) v).engine
      by true =
          settled_one all os gave (outcome_if (is_some v.engine.copying) false) _
          (failed_follows all os gave (clocked clock v.engine) le (clocked_follows clock v.engine s))
      by false = unchanged v.engine s
  follows_after Stops v le s = unchanged _ (stops_follows all os gave v.engine le s)
  follows_after (Forgets id) v le s = unchanged _ (renewed v.engine v.engine.live v.engine.delay v.engine.clock (forget id v.engine.kept) v.engine.check s)
  follows_after (Checks clock) v le s = by (is_some v.engine.live)
    where
      by : (b : Bool) → Follows (all ++ []) (os ++ []) (gave ++ [])
          (record (cond b
          (record v.engine { kept = forget_all (due_before clock v.engine.kept) v.engine.kept }) v.engine) { check = next_check clock v.engine.check })
      by true =
          unchanged _
          (renewed v.engine v.engine.live v.engine.delay v.engine.clock (forget_all (due_before clock v.engine.kept) v.engine.kept)
          (next_check clock v.engine.check) s)
      by false = unchanged _ (renewed v.engine v.engine.live v.engine.delay v.engine.clock v.engine.kept (next_check clock v.engine.check) s)

pub follows : (s : Setup) (h : List Act) → Follows (arrivals s h) (outcomes s h) (given s h) (seen s h).engine
follows s [] =
    record {
      frames = [];
      parts = refl;
      least = 0;
      fits = omega arith;
      below = omega arith;
      still = λ h. refl;
      items = λ d more gs may. refl;
      pends = λ d more gs may. refl;
      begins = λ d more gs room may fits. sym (no_room more gs d room);
    }
  where
    no_room : (more : List Bool) (gs : List Frame) (d : Bool) (room : ℕ) →
        begun_behind (Settled [] more) 0 room (λ left room. begun_in d left room gs) ≡ begun_in d more room gs
    no_room more gs d room =
        ap (λ b. cond b [] (begun_in d more (room - 0) gs)) (let nay : nat_lt room (0 + 0) ≡ false = grind (arith, nat_tests) in nay)
        ∙ ap (λ n. begun_in d more n gs) (let same : room - 0 ≡ room = omega arith in same)
follows s (act ∷ h) = follows_after (arrivals s h) (outcomes s h) (given s h) act (seen s h) (settled s h).0.0 (follows s h)

pub done_of : (rest : List Item) (p : Bool) → rest ≡ [] → p ≡ false → (no_items rest && not p) ≡ true
done_of rest p none nay = ap (λ xs. no_items xs && not p) none ∙ ap (λ b. not b) nay

-- at this place: nothing more came, and the frames that wait stand behind those that are begun
module _ (s : Setup) (h : List Act) where
  abbrev now : Engine
  now = (seen s h).engine

  may_now : Allowed now.stopped (is_stopped h) []
  may_now aye = (sym (halted s h) ∙ aye, refl)

  -- what the entries that are none_open bring: nothing
  abbrev pub held_back : List Item
  held_back = behind_fate (fate (is_stopped h) [] (open_of now)) (λ left. ready_in (is_stopped h) left now.waiting)

  ready_is : ready s h ≡ given s h ++ (now.unread ++ (now.rest ++ held_back))
  ready_is =
      let x = follows s h in
      ap (λ fs. ready_in (is_stopped h) (outcomes s h) fs) x.parts
      ∙ ap (λ os. ready_in (is_stopped h) os (x.frames ++ now.waiting)) (sym (append-nil (outcomes s h)))
      ∙ x.items (is_stopped h) [] now.waiting may_now

  pub left_is : left s h ≡ now.unread ++ (now.rest ++ held_back)
  left_is =
      ap (λ x. drop (length (given s h)) x) ready_is ∙ drop_at (given s h) (now.unread ++ (now.rest ++ held_back)) (length (given s h)) refl

  -- where an entry is none_open, nothing is stopped, so nothing stands behind it
  stuck_at : (ls : List Letter) → open_of now ≡ ls → (l : Letter) (more : List Letter) → ls ≡ l ∷ more → (d : Bool) → is_stopped h ≡ d → held_back ≡ []
  stuck_at ls is l more w true aye =
      let bad : ls ≡ [] = sym is ∙ (follows s h).still (halted s h ∙ aye) in
      absurd (let nay : l ∷ more ≡ [] = sym w ∙ bad in cc)
  stuck_at ls is l more w false nay =
      ap (λ d. behind_fate (fate d [] (open_of now)) (λ left. ready_in (is_stopped h) left now.waiting)) nay
      ∙ ap (λ ls. behind_fate (fate false [] ls) (λ left. ready_in (is_stopped h) left now.waiting)) (is ∙ w)

  -- nothing is held back behind what is placed and begun, where all of that is placed
  nothing_behind : now.rest ≡ [] → held_back ≡ []
  nothing_behind none = by (is_pending now) refl
    where
      some_open : (o : Option Id) (ls : List Letter) → now.copying ≡ o → now.letters ≡ ls → is_pending now ≡ true → held_back ≡ []
      some_open (Some id) ls c w aye = stuck_at _ (ap (λ o. holding o now.letters) c) _ now.letters refl (is_stopped h) refl
      some_open None (l ∷ ls) c w aye = stuck_at _ (ap (λ o. holding o now.letters) c ∙ w) l ls refl (is_stopped h) refl
      some_open None [] c w aye = absurd (nothing_open now.copying now.letters c w aye)

      by : (b : Bool) → is_pending now ≡ b → held_back ≡ []
      by true aye = some_open now.copying now.letters refl refl aye
      by false nay =
          let idle_now = is_idle now nay in
          let none_open : open_of now ≡ [] = ap (λ o. holding o now.letters) idle_now.0 ∙ idle_now.1 in
          ap (λ ls. behind_fate (fate (is_stopped h) [] ls) (λ left. ready_in (is_stopped h) left now.waiting)) none_open
          ∙ ap (λ fs. ready_in (is_stopped h) [] fs) ((settled s h).1 (done_of now.rest (is_pending now) none nay))

  -- what is placed are the first items that are left
  placed_first : now.unread ≡ take now.queue (now.unread ++ (now.rest ++ held_back))
  placed_first = by (no_items now.rest) refl
    where
      by : (b : Bool) → no_items now.rest ≡ b → now.unread ≡ take now.queue (now.unread ++ (now.rest ++ held_back))
      by true none =
          let rest = none_left now.rest none in
          let same : now.unread ++ (now.rest ++ held_back) ≡ now.unread =
          ap (λ r. now.unread ++ (r ++ held_back)) rest ∙ ap (λ x. now.unread ++ x) (nothing_behind rest) ∙ append-nil now.unread in
          sym (ap (λ x. take now.queue x) same ∙ take_all now.queue now.unread (settled s h).0.0)
      by false more =
          let len : length now.unread ≡ now.queue = (settled s h).0.1 more in
          let ge : now.queue ≤ length now.unread = omega (arith, len) in
          sym (take-append-le now.queue now.unread (now.rest ++ held_back) ge ∙ take_all now.queue now.unread (settled s h).0.0)

  some_room : 0 < now.queue
  some_room = subst (λ n. 0 < n) (sym (sizes s h).0) (queue_some s.config.options.receiver_queue_size)

  -- where none is placed, none is left that may be
  rest_none : now.unread ≡ [] → (b : Bool) → no_items now.rest ≡ b → now.rest ≡ []
  rest_none none true same = none_left now.rest same
  rest_none none false same =
      let len : length now.unread ≡ 0 = ap length none in
      let full : length now.unread ≡ now.queue = (settled s h).0.1 same in
      let some = some_room in
      absurd (omega (arith, some, len, full))

  first_left : (us : List Item) → now.unread ≡ us → first_of us ≡ first_of (us ++ (now.rest ++ held_back))
  first_left (x ∷ xs) w = refl
  first_left [] w =
      let rest = rest_none w (no_items now.rest) refl in
      sym (ap (λ r. first_of (r ++ held_back)) rest ∙ ap first_of (nothing_behind rest))

  -- an entry is pending where one of the frame that is begun is, or where frames wait
  pending_is : is_pending_in s h ≡ pending_behind (fate (is_stopped h) [] (open_of now)) (λ left. pending_in (is_stopped h) left now.waiting)
  pending_is =
      let x = follows s h in
      ap (λ fs. pending_in (is_stopped h) (outcomes s h) fs) x.parts
      ∙ ap (λ os. pending_in (is_stopped h) os (x.frames ++ now.waiting)) (sym (append-nil (outcomes s h)))
      ∙ x.pends (is_stopped h) [] now.waiting may_now

  -- which is so where no item of it is left to be placed
  pub pending_same : now.rest ≡ [] → is_pending_in s h ≡ is_pending now
  pending_same none = pending_is ∙ by (is_pending now) refl
    where
      found : (ls : List Letter) → open_of now ≡ ls → (l : Letter) (more : List Letter) → ls ≡ l ∷ more → (d : Bool) → is_stopped h ≡ d →
          pending_behind (fate (is_stopped h) [] (open_of now)) (λ left. pending_in (is_stopped h) left now.waiting) ≡ true
      found ls is l more w true aye =
          let bad : ls ≡ [] = sym is ∙ (follows s h).still (halted s h ∙ aye) in
          absurd (let nay : l ∷ more ≡ [] = sym w ∙ bad in cc)
      found ls is l more w false nay =
          ap (λ d. pending_behind (fate d [] (open_of now)) (λ left. pending_in (is_stopped h) left now.waiting)) nay
          ∙ ap (λ ls. pending_behind (fate false [] ls) (λ left. pending_in (is_stopped h) left now.waiting)) (is ∙ w)

      some_open : (o : Option Id) (ls : List Letter) → now.copying ≡ o → now.letters ≡ ls → is_pending now ≡ true →
          pending_behind (fate (is_stopped h) [] (open_of now)) (λ left. pending_in (is_stopped h) left now.waiting) ≡ true
      some_open (Some id) ls c w aye = found _ (ap (λ o. holding o now.letters) c) _ now.letters refl (is_stopped h) refl
      some_open None (l ∷ ls) c w aye = found _ (ap (λ o. holding o now.letters) c ∙ w) l ls refl (is_stopped h) refl
      some_open None [] c w aye = absurd (nothing_open now.copying now.letters c w aye)

      by : (b : Bool) → is_pending now ≡ b →
          pending_behind (fate (is_stopped h) [] (open_of now)) (λ left. pending_in (is_stopped h) left now.waiting) ≡ is_pending now
      by true aye = some_open now.copying now.letters refl refl aye ∙ sym aye
      by false nay =
          let idle_now = is_idle now nay in
          let none_open : open_of now ≡ [] = ap (λ o. holding o now.letters) idle_now.0 ∙ idle_now.1 in
          ap (λ ls. pending_behind (fate (is_stopped h) [] ls) (λ left. pending_in (is_stopped h) left now.waiting)) none_open
          ∙ ap (λ fs. pending_in (is_stopped h) [] fs) ((settled s h).1 (done_of now.rest (is_pending now) none nay))
          ∙ sym nay

  -- the frames that are begun are those that don't wait
  begun_rest : begun_behind (fate (is_stopped h) [] (open_of now)) (size (given s h) now) (length (given s h) + queue s)
      (λ left room. begun_in (is_stopped h) left room now.waiting) ≡ []
  begun_rest = by (no_items now.rest) refl
    where
      full_so : (x : Fate) (n room : ℕ) (k : List Bool → ℕ → List Frame) → room < n → begun_behind x n room k ≡ []
      full_so Pending n room k lt = refl
      full_so (Settled items left) n room k lt =
          ap (λ b. cond b [] (k left (room - (n + length items)))) (let full : nat_lt room (n + length items) ≡ true = grind (arith, nat_tests) in full)

      either_none : (b : Bool) → cond {A = List Frame} b [] [] ≡ []
      either_none true = refl
      either_none false = refl

      stuck_so : (ls : List Letter) → open_of now ≡ ls → (l : Letter) (more : List Letter) → ls ≡ l ∷ more → (d : Bool) → is_stopped h ≡ d →
          begun_behind (fate (is_stopped h) [] (open_of now)) (size (given s h) now) (length (given s h) + queue s)
          (λ left room. begun_in (is_stopped h) left room now.waiting) ≡ []
      stuck_so ls is l more w true aye =
          let bad : ls ≡ [] = sym is ∙ (follows s h).still (halted s h ∙ aye) in
          absurd (let nay : l ∷ more ≡ [] = sym w ∙ bad in cc)
      stuck_so ls is l more w false nay =
          ap (λ d. begun_behind (fate d [] (open_of now)) (size (given s h) now) (length (given s h) + queue s)
          (λ left room. begun_in (is_stopped h) left room now.waiting)) nay
          ∙ ap (λ ls. begun_behind (fate false [] ls) (size (given s h) now) (length (given s h) + queue s)
          (λ left room. begun_in (is_stopped h) left room now.waiting)) (is ∙ w)

      some_open : (o : Option Id) (ls : List Letter) → now.copying ≡ o → now.letters ≡ ls → is_pending now ≡ true →
          begun_behind (fate (is_stopped h) [] (open_of now)) (size (given s h) now) (length (given s h) + queue s)
          (λ left room. begun_in (is_stopped h) left room now.waiting) ≡ []
      some_open (Some id) ls c w aye = stuck_so _ (ap (λ o. holding o now.letters) c) _ now.letters refl (is_stopped h) refl
      some_open None (l ∷ ls) c w aye = stuck_so _ (ap (λ o. holding o now.letters) c ∙ w) l ls refl (is_stopped h) refl
      some_open None [] c w aye = absurd (nothing_open now.copying now.letters c w aye)

      done : (b : Bool) → now.rest ≡ [] → is_pending now ≡ b →
          begun_behind (fate (is_stopped h) [] (open_of now)) (size (given s h) now) (length (given s h) + queue s)
          (λ left room. begun_in (is_stopped h) left room now.waiting) ≡ []
      done true none aye = some_open now.copying now.letters refl refl aye
      done false none nay =
          let idle_now = is_idle now nay in
          let none_open : open_of now ≡ [] = ap (λ o. holding o now.letters) idle_now.0 ∙ idle_now.1 in
          ap (λ ls. begun_behind (fate (is_stopped h) [] ls) (size (given s h) now) (length (given s h) + queue s)
          (λ left room. begun_in (is_stopped h) left room now.waiting)) none_open
          ∙ ap (λ fs. begun_behind (Settled [] []) (size (given s h) now) (length (given s h) + queue s) (λ left room. begun_in (is_stopped h) left room fs))
          ((settled s h).1 (done_of now.rest (is_pending now) none nay))
          ∙ either_none (nat_lt (length (given s h) + queue s) (size (given s h) now + 0))

      by : (b : Bool) → no_items now.rest ≡ b →
          begun_behind (fate (is_stopped h) [] (open_of now)) (size (given s h) now) (length (given s h) + queue s)
          (λ left room. begun_in (is_stopped h) left room now.waiting) ≡ []
      by true none = done (is_pending now) (none_left now.rest none) refl
      by false more =
          let full : length now.unread ≡ now.queue = (settled s h).0.1 more in
          let some : 0 < length now.rest = some_in now.rest more in
          let same : now.queue ≡ queue s = (sizes s h).0 in
          full_so (fate (is_stopped h) [] (open_of now)) (size (given s h) now) (length (given s h) + queue s)
          (λ left room. begun_in (is_stopped h) left room now.waiting)
          (omega (arith, full, some, same))

  begun_is : begun s h ≡ (follows s h).frames
  begun_is =
      let x = follows s h in
      let low = x.fits in
      let same : now.queue ≡ queue s = (sizes s h).0 in
      ap (λ fs. begun_in (is_stopped h) (outcomes s h) (length (given s h) + queue s) fs) x.parts
      ∙ ap (λ os. begun_in (is_stopped h) os (length (given s h) + queue s) (x.frames ++ now.waiting)) (sym (append-nil (outcomes s h)))
      ∙ x.begins (is_stopped h) [] now.waiting (length (given s h) + queue s) may_now (omega (arith, low, same))
      ∙ ap (λ xs. x.frames ++ xs) begun_rest
      ∙ append-nil x.frames

pub polls_give_arrivals : PollsGiveArrivals
polls_give_arrivals s h = ap (λ x. given s h ++ x) (left_is s h) ∙ sym (ready_is s h)

polled_same : (us : List Item) (o : Option Item) (p q : Bool) (why : Option Ending) → first_of us ≡ o → (us ≡ [] → p ≡ q) →
    polled_from (first_of us) (over p why) ≡ polled_from o (over q why)
polled_same [] o p q why e same = ap (λ o. polled_from o (over p why)) e ∙ ap (λ b. polled_from o (over b why)) (same refl)
polled_same (x ∷ xs) o p q why e same = ap (λ o. polled_from o (over p why)) e ∙ item_anyway o (sym e)
  where
    item_anyway : (o : Option Item) → o ≡ Some x → polled_from o (over p why) ≡ polled_from o (over q why)
    item_anyway None is = absurd cc
    item_anyway (Some y) is = refl

pub polls_give_the_next : PollsGiveTheNext
polls_give_the_next s h =
    let e = (seen s h).engine in
    polled_same e.unread (first_of (left s h)) (is_pending e) (is_pending_in s h) (seen s h).ended
    (first_left s h e.unread refl ∙ ap first_of (sym (left_is s h)))
    (λ none. sym (pending_same s h (rest_none s h none (no_items e.rest) refl)))

pub queue_is_kept : QueueIsKept
queue_is_kept s h =
    placed_first s h
    ∙ ap (λ n. take n ((seen s h).engine.unread ++ ((seen s h).engine.rest ++ held_back s h))) (sizes s h).0
    ∙ ap (λ x. take (queue s) x) (sym (left_is s h))

pub frames_begin_in_turn : FramesBeginInTurn
frames_begin_in_turn s h = (follows s h).parts ∙ ap (λ xs. xs ++ (seen s h).engine.waiting) (sym (begun_is s h))

-- ITS END

abbrev Dead : Engine → Type 0
Dead e = e.live ≡ None

dead_weak : (e : Engine) → Dead e → Dead e
dead_weak e p = p

dead_bare : (e : Engine) (u r : List Item) (ls : List Letter) (o : Option Id) (w : List Frame) (k : KeptList) → Dead e →
    Dead (record e { unread = u; rest = r; letters = ls; copying = o; waiting = w; kept = k })
dead_bare e u r ls o w k p = p

-- one that has ended has no live subscription
abbrev pub IsShut : Seen → Type 0
IsShut v = (why : Ending) → v.ended ≡ Some why → v.engine.live ≡ None

pub not_on : (link : ℕ) (o : Option Live) → o ≡ None → is_on link (option_map (λ l. l.link) o) ≡ false
not_on link None none = refl
not_on link (Some l) none = absurd cc

either : (b : Bool) (v w : Seen) → IsShut v → IsShut w → IsShut (cond b v w)
either true v w p q = p
either false v w p q = q

ended_not : (o : Option Ending) (why : Ending) → o ≡ Some why → is_some o ≡ true
ended_not None why is = absurd cc
ended_not (Some other) why is = refl

lives_shut : (b : Bool) (v w : Seen) → w.ended ≡ v.ended → is_some v.ended ≡ b → IsShut v → IsShut (cond b v w)
lives_shut true v w s e p = p
lives_shut false v w s e p = λ why is. absurd (let nay : true ≡ false = sym (ended_not v.ended why (sym s ∙ is)) ∙ e in cc)

hears_shut : (b : Bool) (link : ℕ) (f : Frame) (v : Seen) → lives_on link v ≡ b → IsShut v → IsShut (cond b (heard f v) v)
hears_shut true link f v e p = λ why is. absurd (let nay : true ≡ false = sym e ∙ not_on link v.engine.live (p why is) in cc)
hears_shut false link f v e p = p

told_shut : (key : ℕ) (e : Engine) (v : Seen) → (v.engine.live ≡ None → e.live ≡ None) → IsShut v → IsShut (told key e v)
told_shut key e v on p = either (v.key == key) (record v { engine = e }) v (λ why is. on (p why is)) p

names_dead : (clock : ℕ) (e : Engine) → Dead e → Dead (names_due clock e)
names_dead clock e p = by (is_some e.live)
  where
    by : (b : Bool) → Dead (cond b (record e { kept = forget_all (due_before clock e.kept) e.kept }) e)
    by true = p
    by false = p

pub shut_after : (act : Act) (v : Seen) → IsShut v → IsShut (after act v)
shut_after (Lives link url) v p = lives_shut (is_ended v) v (subscribed_again link url v) refl refl p
shut_after (Hears link f) v p = hears_shut (lives_on link v) link f v refl p
shut_after (Loses link) v p = either (lives_on link v) (loses v) v (either v.is_raw (ends LinkLost v) (lost v) (λ why is. refl) (λ why is. refl)) p
shut_after (Fails f) v p = either (is_ended v) v (ends NotSubscribed (refused (failed f) v)) p (λ why is. refl)
shut_after (Ends why) v p = λ other is. refl
shut_after (Polls clock) v p =
    let same = counted_same (first_of v.engine.unread) clock (polls_at clock v) in
    λ why is. ap (λ e. e.live) same.0 ∙ gives_so Dead Dead dead_weak advances_dead dead_bare (clocked clock v.engine) (p why (sym same.1 ∙ is))
shut_after Asks v p = λ why is. ap (λ l. option_map asked l) (p why is)
shut_after (IsAt clock) v p = p
shut_after TakesCopy v p = λ why is. takes_so Dead Dead dead_weak advances_dead dead_bare v.engine (p why is) (λ ls id. p why is)
shut_after (IsCopied key clock) v p =
    told_shut key (copied (clocked clock v.engine)) v (copied_so Dead Dead dead_weak advances_dead dead_bare (clocked clock v.engine)) p
shut_after (FailsCopy key clock) v p =
    told_shut key (copy_failed (clocked clock v.engine)) v (failed_so Dead Dead dead_weak advances_dead dead_bare (clocked clock v.engine)) p
shut_after Stops v p = λ why is. stops_so Dead Dead dead_weak advances_dead dead_bare v.engine (p why is)
shut_after (Forgets id) v p = p
shut_after (Checks clock) v p = λ why is. names_dead clock v.engine (p why is)

pub is_shut : (s : Setup) (h : List Act) → IsShut (seen s h)
is_shut s [] = λ why is. refl
is_shut s (act ∷ h) = shut_after act (seen s h) (is_shut s h)

-- it stays ended for the same reason, and nothing arrives
abbrev pub Stays : Ending → Seen → Seen → List Frame → Type 0
Stays why v w arrived = (w.ended ≡ Some why) × (arrived ≡ [])

or_first : (o : Option Ending) (why other : Ending) → o ≡ Some why → option_or o (Some other) ≡ Some why
or_first None why other is = absurd cc
or_first (Some first) why other is = is

lives_stays : (b : Bool) (why : Ending) (v w : Seen) → v.ended ≡ Some why → w.ended ≡ Some why → (cond b v w).ended ≡ Some why
lives_stays true why v w p q = p
lives_stays false why v w p q = q

pub stays_after : (act : Act) (v : Seen) (why : Ending) → v.ended ≡ Some why → v.engine.live ≡ None → Stays why v (after act v) (arrives_by act v)
stays_after (Lives link url) v why is dead = (lives_stays (is_ended v) why v (subscribed_again link url v) is is, refl)
stays_after (Hears link f) v why is dead =
    (lives_stays (lives_on link v) why (heard f v) v is is, ap (λ b. cond b (frame_for v f ∷ []) []) (not_on link v.engine.live dead))
stays_after (Loses link) v why is dead =
    (lives_stays (lives_on link v) why (loses v) v (lives_stays v.is_raw why (ends LinkLost v) (lost v) (or_first v.ended why LinkLost is) is) is, refl)
stays_after (Fails f) v why is dead = (
  lives_stays (is_ended v) why v (ends NotSubscribed (refused (failed f) v)) is (or_first v.ended why NotSubscribed is),
  ap (λ b. cond b [] (failed f ∷ []))
      (ended_not v.ended why is),
)
stays_after (Ends other) v why is dead = (or_first v.ended why other is, refl)
stays_after (Polls clock) v why is dead = ((counted_same (first_of v.engine.unread) clock (polls_at clock v)).1 ∙ is, refl)
stays_after Asks v why is dead = (is, refl)
stays_after (IsAt clock) v why is dead = (is, refl)
stays_after TakesCopy v why is dead = (is, refl)
stays_after (IsCopied key clock) v why is dead = (lives_stays (v.key == key) why _ v is is, refl)
stays_after (FailsCopy key clock) v why is dead = (lives_stays (v.key == key) why _ v is is, refl)
stays_after Stops v why is dead = (is, refl)
stays_after (Forgets id) v why is dead = (is, refl)
stays_after (Checks clock) v why is dead = (is, refl)

stays : (s : Setup) (later h : List Act) (why : Ending) → (seen s h).ended ≡ Some why →
    ((seen s (later ++ h)).ended ≡ Some why) × (arrivals s (later ++ h) ≡ arrivals s h)
stays s [] h why is = (is, refl)
stays s (act ∷ later) h why is =
    let all = stays s later h why is in
    let v = seen s (later ++ h) in
    let one = stays_after act v why all.0 (is_shut s (later ++ h) why all.0) in
    (one.0, ap (λ x. arrivals s (later ++ h) ++ x) one.1 ∙ append-nil (arrivals s (later ++ h)) ∙ all.1)

no_link : (o : Option Live) → o ≡ None → option_map (λ l. l.link) o ≡ None
no_link None none = refl
no_link (Some l) none = absurd cc

pub end_is_final : EndIsFinal
end_is_final s later h why is =
    let all = stays s later h why is in
    (all.0, no_link (seen s (later ++ h)).engine.live (is_shut s (later ++ h) why all.0), all.1)
