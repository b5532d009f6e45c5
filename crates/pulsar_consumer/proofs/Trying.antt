-- The copies that are taken are those of the entries in order.
use Rattle.std.proofs.Common.{◌≡◌, ◌∙◌, sym, ap, refl, subst, ℕ, ◌==◌, ◌&&◌, Bool, true, false, cond, List, [], ◌∷◌, ◌++◌, Option, Some, None}
use Rattle.std.proofs.lemmas.List.{append-nil, append_assoc}
use Rattle.std.specs.Option.{is_some, option_map, option_to_list}
use Rattle.pulsar_wire.specs.Row.{none_of}
use Rattle.pulsar_wire.specs.Rows.{message_metadata}
use Rattle.pulsar_consumer.specs.Items.{Item}
use Rattle.pulsar_consumer.specs.DeadLetters.{Letter, lost_letter}
use Rattle.pulsar_consumer.specs.Frames.{Frame, failed}
use Rattle.pulsar_consumer.specs.Redelivery.{Id, Kept, due_before, forget, forget_all, forget_one, next_check}
use Rattle.pulsar_consumer.specs.Topic.{Act, Lives, Hears, Loses, Fails, Ends, Polls, Asks, IsAt, TakesCopy, IsCopied, FailsCopy, Stops, Forgets, Checks, Engine, Live, Seen, Setup, acked_by, advances, after, asked, clocked, copied, copy_failed, ends, finish, first_letter, first_of, frame_for, gives, gives_from, gives_up, goes_on, heard, hears, is_ended, is_finished, lives, lives_on, places, seen, shut, subscribed, takes_copy, takes_copy_from, to_copy}
use Rattle.pulsar_consumer.specs.Laws.{CopiesFollowArrivals, arrivals, arrives_by, fate, is_stopped, outcome_by, outcome_if, outcomes, taken, taken_by, tried, tried_behind, tried_in}
use Rattle.pulsar_incoming.specs.declared.polled.Ending.TheVariants.{LinkLost, NotSubscribed}
use Rattle.pulsar_consumer.proofs.Following.{any_letter, holding, one_outcome, open_of}
use Rattle.pulsar_consumer.proofs.Held.{bare_of, finished, is_idle, next_of}
use Rattle.pulsar_consumer.proofs.Histories.{counted_same, halted, lost, polls_at, refused, subscribed_again}

record Tries (all : List Frame) (os : List Bool) (ts : List Id) (e : Engine) : Type 0 where
  frames : List Frame
  parts : all ≡ frames ++ e.waiting
  done : List Id
  ids : ts ≡ done ++ option_to_list e.copying
  tries : (more : List Bool) (gs : List Frame) →
      tried_in (os ++ more) (frames ++ gs) ≡ done ++ (tried more (open_of e) ++ tried_behind (fate false more (open_of e)) (λ left. tried_in left gs))

module _ (all : List Frame) (os : List Bool) (ts : List Id) where
  -- what leaves frames and entries as they are changes nothing
  placed_tries : (e : Engine) (delay : Option ℕ) (clock : ℕ) (live : Option Live) (u r : List Item) (kept : Kept) → Tries all os ts e →
      Tries all os ts (record e { delay = delay; clock = clock; live = live; unread = u; rest = r; kept = kept })
  placed_tries e delay clock live u r kept s = record { frames = s.frames; parts = s.parts; done = s.done; ids = s.ids; tries = s.tries }

  checked_tries : (e : Engine) (check : Option ℕ) → Tries all os ts e → Tries all os ts (record e { check = check })
  checked_tries e check s = record { frames = s.frames; parts = s.parts; done = s.done; ids = s.ids; tries = s.tries }

  next_tries : (e : Engine) (f : Frame) (fs : List Frame) → e.waiting ≡ f ∷ fs → is_finished e ≡ true → e.stopped ≡ false → Tries all os ts e →
      Tries all os ts (bare_of f fs e)
  next_tries e f fs w over_now runs s =
      record {
        frames = s.frames ++ f ∷ [];
        parts = s.parts ∙ ap (λ xs. s.frames ++ xs) w ∙ sym (append_assoc s.frames (f ∷ []) fs);
        done = s.done;
        ids = s.ids;
        tries = λ more gs.
            ap (λ xs. tried_in (os ++ more) xs) (append_assoc s.frames (f ∷ []) gs)
            ∙ s.tries more (f ∷ gs)
            ∙ ap (λ ls. s.done ++ (tried more ls ++ tried_behind (fate false more ls) (λ left. tried_in left (f ∷ gs)))) all_over
            ∙ ap (λ ls. s.done ++ (tried more ls ++ tried_behind (fate false more ls) (λ left. tried_in left gs))) (sym opened);
      }
    where
      idle : (e.copying ≡ None) × (e.letters ≡ [])
      idle = is_idle e (finished e over_now).1

      all_over : open_of e ≡ []
      all_over = ap (λ o. holding o e.letters) idle.0 ∙ idle.1

      opened : holding e.copying (cond e.stopped [] f.letters) ≡ f.letters
      opened = ap (λ o. holding o (cond e.stopped [] f.letters)) idle.0 ∙ ap (λ b. cond b [] f.letters) runs

  goes_tries : (fs : List Frame) (e : Engine) → e.waiting ≡ fs → e.stopped ≡ false → Tries all os ts e → Tries all os ts (goes_on fs e)
  goes_tries [] e w runs s = by (is_finished e)
    where
      by : (b : Bool) → Tries all os ts (cond b (finish e) e)
      by true = placed_tries e e.delay e.clock (finish e).live e.unread e.rest e.kept s
      by false = s
  goes_tries (f ∷ fs) e w runs s = by (is_finished e) refl (λ x. goes_tries fs (next_of f fs e) refl runs x)
    where
      by : (b : Bool) → is_finished e ≡ b → (Tries all os ts (next_of f fs e) → Tries all os ts (goes_on fs (next_of f fs e))) →
          Tries all os ts (cond b (goes_on fs (next_of f fs e)) e)
      by true over_now next =
          let d = bare_of f fs e in
          next (placed_tries d d.delay d.clock d.live (places d).unread (places d).rest (places d).kept (next_tries e f fs w over_now runs s))
      by false more next = s

  advances_tries : (e : Engine) → e.stopped ≡ false → Tries all os ts e → Tries all os ts (advances e)
  advances_tries e runs s =
      goes_tries e.waiting (places e) refl runs (placed_tries e e.delay e.clock e.live (places e).unread (places e).rest (places e).kept s)

  gives_tries : (us : List Item) (e : Engine) → e.stopped ≡ false → Tries all os ts e → Tries all os ts (gives_from us e)
  gives_tries [] e runs s = s
  gives_tries (x ∷ xs) e runs s = advances_tries (record e { unread = xs }) runs (placed_tries e e.delay e.clock e.live xs e.rest e.kept s)

hears_tries : (all : List Frame) (os : List Bool) (ts : List Id) (f : Frame) (e : Engine) → e.stopped ≡ false → Tries all os ts e →
    Tries (all ++ f ∷ []) os ts (hears f e)
hears_tries all os ts f e runs s =
    advances_tries (all ++ f ∷ []) os ts (record e { waiting = e.waiting ++ f ∷ [] }) runs
    (record {
      frames = s.frames;
      parts = ap (λ xs. xs ++ f ∷ []) s.parts ∙ append_assoc s.frames e.waiting (f ∷ []);
      done = s.done;
      ids = s.ids;
      tries = s.tries;
    })

-- the outcomes decide, and the ids are the same
any_tried : (os : List Bool) (l m : Letter) (ls : List Letter) → l.0 ≡ m.0 → tried os (l ∷ ls) ≡ tried os (m ∷ ls)
any_tried [] l m ls e = refl
any_tried (true ∷ os) l m ls e = ap (λ id. id ∷ tried os ls) e
any_tried (false ∷ os) l m ls e = ap (λ id. id ∷ []) e

takes_tries : (all : List Frame) (os : List Bool) (ts : List Id) (e : Engine) → Tries all os ts e →
    Tries all os (ts ++ option_to_list (option_map (λ l. l.0) (to_copy e))) (takes_copy e)
takes_tries all os ts e s = by e.copying e.letters refl refl
  where
    nothing : Tries all os (ts ++ []) e
    nothing = subst (λ xs. Tries all os xs e) (sym (append-nil ts)) s

    by : (o : Option Id) (ls : List Letter) → e.copying ≡ o → e.letters ≡ ls →
        Tries all os (ts ++ option_to_list (option_map (λ l. l.0) (cond (is_some o) None (first_letter ls)))) (cond (is_some o) e (takes_copy_from ls e))
    by (Some id) ls c w = nothing
    by None [] c w = nothing
    by None (l ∷ ls) c w =
        let was : open_of e ≡ l ∷ ls = ap (λ o. holding o e.letters) c ∙ w in
        let hollow : Letter = (l.0, record { metadata = none_of message_metadata; bytes = [] }) in
        record {
          frames = s.frames;
          parts = s.parts;
          done = s.done;
          ids = ap (λ xs. xs ++ l.0 ∷ []) (s.ids ∙ ap (λ o. s.done ++ option_to_list o) c ∙ append-nil s.done);
          tries = λ more gs.
              s.tries more gs
              ∙ ap (λ ls. s.done ++ (tried more ls ++ tried_behind (fate false more ls) (λ left. tried_in left gs))) was
              ∙ ap (λ x. s.done ++ (x ++ tried_behind (fate false more (l ∷ ls)) (λ left. tried_in left gs))) (any_tried more l hollow ls refl)
              ∙ ap (λ x. s.done ++ (tried more (hollow ∷ ls) ++ tried_behind x (λ left. tried_in left gs))) (any_letter false more l hollow ls);
        }

module _ (all : List Frame) (os : List Bool) (ts : List Id) where
  copied_tries : (e : Engine) → e.stopped ≡ false → Tries all os ts e → Tries all (os ++ outcome_if (is_some e.copying) true) ts (copied e)
  copied_tries e runs s = by e.copying refl
    where
      by : (o : Option Id) → e.copying ≡ o →
          Tries all (os ++ outcome_if (is_some o) true) ts (cond (is_some o) (advances (record e { copying = None; kept = forget_one (acked_by e) e.kept })) e)
      by None c = subst (λ xs. Tries all xs ts e) (sym (append-nil os)) s
      by (Some id) c =
          advances_tries all (os ++ true ∷ []) ts (record e { copying = None; kept = forget_one (acked_by e) e.kept }) runs
          (record {
            frames = s.frames;
            parts = s.parts;
            done = s.done ++ id ∷ [];
            ids = s.ids ∙ ap (λ o. s.done ++ option_to_list o) c ∙ sym (append-nil (s.done ++ id ∷ []));
            tries = λ more gs.
                ap (λ xs. tried_in xs (s.frames ++ gs)) (one_outcome os true more)
                ∙ s.tries (true ∷ more) gs
                ∙ ap (λ o. s.done ++
                (tried (true ∷ more) (holding o e.letters) ++ tried_behind (fate false (true ∷ more) (holding o e.letters)) (λ left. tried_in left gs))) c
                ∙ sym (append_assoc s.done (id ∷ []) (tried more e.letters ++ tried_behind (fate false more e.letters) (λ left. tried_in left gs)));
          })

  failed_tries : (e : Engine) → e.stopped ≡ false → Tries all os ts e → Tries all (os ++ outcome_if (is_some e.copying) false) ts (copy_failed e)
  failed_tries e runs s = by e.copying refl
    where
      by : (o : Option Id) → e.copying ≡ o → Tries all (os ++ outcome_if (is_some o) false) ts (cond (is_some o) (gives_up e) e)
      by None c = subst (λ xs. Tries all xs ts e) (sym (append-nil os)) s
      by (Some id) c =
          advances_tries all (os ++ false ∷ []) ts (record e { rest = e.rest ++ lost_letter ∷ []; letters = []; copying = None }) runs
          (record {
            frames = s.frames;
            parts = s.parts;
            done = s.done ++ id ∷ [];
            ids = s.ids ∙ ap (λ o. s.done ++ option_to_list o) c ∙ sym (append-nil (s.done ++ id ∷ []));
            tries = λ more gs.
                ap (λ xs. tried_in xs (s.frames ++ gs)) (one_outcome os false more)
                ∙ s.tries (false ∷ more) gs
                ∙ ap (λ o. s.done ++
                (tried (false ∷ more) (holding o e.letters) ++ tried_behind (fate false (false ∷ more) (holding o e.letters)) (λ left. tried_in left gs))) c
                ∙ sym (append_assoc s.done (id ∷ []) (tried_in more gs));
          })

-- EVERY HISTORY that has no stop

same_tries : {all : List Frame} {os : List Bool} {ts : List Id} (e : Engine) → Tries all os ts e → Tries (all ++ []) (os ++ []) (ts ++ []) e
same_tries {all} {os} {ts} e s =
    subst (λ xs. Tries xs (os ++ []) (ts ++ []) e) (sym (append-nil all))
    (subst (λ xs. Tries all xs (ts ++ []) e) (sym (append-nil os))
    (subst (λ xs. Tries all os xs e) (sym (append-nil ts)) s))

came_tries : (all : List Frame) (os : List Bool) (ts : List Id) (f : Frame) (e : Engine) → Tries (all ++ f ∷ []) os ts e →
    Tries (all ++ f ∷ []) (os ++ []) (ts ++ []) e
came_tries all os ts f e s =
    subst (λ xs. Tries (all ++ f ∷ []) xs (ts ++ []) e) (sym (append-nil os)) (subst (λ xs. Tries (all ++ f ∷ []) os xs e) (sym (append-nil ts)) s)

told_tries : (all : List Frame) (os : List Bool) (ts : List Id) (more : List Bool) (e : Engine) → Tries all (os ++ more) ts e →
    Tries (all ++ []) (os ++ more) (ts ++ []) e
told_tries all os ts more e s =
    subst (λ xs. Tries xs (os ++ more) (ts ++ []) e) (sym (append-nil all)) (subst (λ xs. Tries all (os ++ more) xs e) (sym (append-nil ts)) s)

module _ (all : List Frame) (os : List Bool) (ts : List Id) where
  shut_tries : (e : Engine) → Tries all os ts e → Tries all os ts (shut e)
  shut_tries e s = checked_tries all os ts _ None (placed_tries all os ts e None e.clock None e.unread e.rest [] s)

  clocked_tries : (clock : ℕ) (e : Engine) → Tries all os ts e → Tries all os ts (clocked clock e)
  clocked_tries clock e s = placed_tries all os ts e e.delay clock e.live e.unread e.rest e.kept s

  tries_after : (act : Act) (h : List Act) (v : Seen) → is_stopped (act ∷ h) ≡ false → v.engine.stopped ≡ false → Tries all os ts v.engine →
      Tries (all ++ arrives_by act v) (os ++ outcome_by act v) (ts ++ taken_by act v) (after act v).engine
  tries_after (Lives link url) h v nay runs s = by (is_ended v)
    where
      by : (b : Bool) → Tries (all ++ []) (os ++ []) (ts ++ []) (cond b v (subscribed_again link url v)).engine
      by true = same_tries v.engine s
      by false =
          same_tries _
          (checked_tries all os ts _ (lives link url v.engine).check
          (placed_tries all os ts v.engine v.engine.delay v.engine.clock
          (Some (subscribed v.engine.batch link url)) v.engine.unread v.engine.rest v.engine.kept s))
  tries_after (Hears link f) h v nay runs s = by (lives_on link v)
    where
      by : (b : Bool) → Tries (all ++ cond b (frame_for v f ∷ []) []) (os ++ []) (ts ++ []) (cond b (heard f v) v).engine
      by true = came_tries all os ts (frame_for v f) _ (hears_tries all os ts (frame_for v f) v.engine runs s)
      by false = same_tries v.engine s
  tries_after (Loses link) h v nay runs s = by (lives_on link v) v.is_raw
    where
      by : (b c : Bool) → Tries (all ++ []) (os ++ []) (ts ++ []) (cond b (cond c (ends LinkLost v) (lost v)) v).engine
      by true true = same_tries _ (shut_tries v.engine s)
      by true false = same_tries _ (placed_tries all os ts v.engine v.engine.delay v.engine.clock None v.engine.unread v.engine.rest v.engine.kept s)
      by false c = same_tries v.engine s
  tries_after (Fails f) h v nay runs s = by (is_ended v)
    where
      by : (b : Bool) → Tries (all ++ cond b [] (failed f ∷ [])) (os ++ []) (ts ++ []) (cond b v (ends NotSubscribed (refused (failed f) v))).engine
      by true = same_tries v.engine s
      by false =
          let e = hears (failed f) v.engine in
          came_tries all os ts (failed f) _
          (checked_tries (all ++ failed f ∷ []) os ts _ None
          (placed_tries (all ++ failed f ∷ []) os ts e None e.clock None e.unread e.rest [] (hears_tries all os ts (failed f) v.engine runs s)))
  tries_after (Ends why) h v nay runs s = same_tries _ (shut_tries v.engine s)
  tries_after (Polls clock) h v nay runs s =
      subst (λ e. Tries (all ++ []) (os ++ []) (ts ++ []) e) (sym (counted_same (first_of v.engine.unread) clock (polls_at clock v)).0)
      (same_tries (gives (clocked clock v.engine)) (gives_tries all os ts v.engine.unread (clocked clock v.engine) runs (clocked_tries clock v.engine s)))
  tries_after Asks h v nay runs s =
      same_tries _
      (placed_tries all os ts v.engine v.engine.delay v.engine.clock (option_map asked v.engine.live) v.engine.unread v.engine.rest v.engine.kept s)
  tries_after (IsAt clock) h v nay runs s = same_tries _ (clocked_tries clock v.engine s)
  tries_after TakesCopy h v nay runs s =
      let x = takes_tries all os ts v.engine s in
      subst (λ xs. Tries xs (os ++ []) (ts ++ option_to_list (option_map (λ l. l.0) (to_copy v.engine))) (takes_copy v.engine)) (sym (append-nil all))
      (subst (λ xs. Tries all xs (ts ++ option_to_list (option_map (λ l. l.0) (to_copy v.engine))) (takes_copy v.engine)) (sym (append-nil os)) x)
  tries_after (IsCopied key clock) h v nay runs s = by (v.key == key)
    where
      by : (b : Bool) → Tries (all ++ []) (os ++ outcome_if (b && is_some v.engine.copying) true) (ts ++ [])
          (cond b (record v { engine = copied (clocked clock v.engine) }) v).engine
      by true =
          told_tries all os ts (outcome_if (is_some v.engine.copying) true) _
          (copied_tries all os ts (clocked clock v.engine) runs (clocked_tries clock v.engine s))
      by false = same_tries v.engine s
  tries_after (FailsCopy key clock) h v nay runs s = by (v.key == key)
    where
      by : (b : Bool) → Tries (all ++ []) (os ++ outcome_if (b && is_some v.engine.copying) false) (ts ++ [])
          (cond b (record v { engine = copy_failed (clocked clock v.engine) }) v).engine
      by true =
          told_tries all os ts (outcome_if (is_some v.engine.copying) false) _
          (failed_tries all os ts (clocked clock v.engine) runs (clocked_tries clock v.engine s))
      by false = same_tries v.engine s
  tries_after Stops h v nay runs s = absurd cc
  tries_after (Forgets id) h v nay runs s =
      same_tries _ (placed_tries all os ts v.engine v.engine.delay v.engine.clock v.engine.live v.engine.unread v.engine.rest (forget id v.engine.kept) s)
  tries_after (Checks clock) h v nay runs s = by (is_some v.engine.live)
    where
      by : (b : Bool) → Tries (all ++ []) (os ++ []) (ts ++ [])
          (record (cond b
          (record v.engine { kept = forget_all (due_before clock v.engine.kept) v.engine.kept }) v.engine) { check = next_check clock v.engine.check })
      by true =
          same_tries _
          (checked_tries all os ts _ (next_check clock v.engine.check)
          (placed_tries all os ts v.engine v.engine.delay v.engine.clock v.engine.live v.engine.unread v.engine.rest
          (forget_all (due_before clock v.engine.kept) v.engine.kept) s))
      by false = same_tries _ (checked_tries all os ts v.engine (next_check clock v.engine.check) s)

-- a history without a stop had none before
not_before : (act : Act) (h : List Act) → is_stopped (act ∷ h) ≡ false → is_stopped h ≡ false
not_before (Lives link url) h nay = nay
not_before (Hears link f) h nay = nay
not_before (Loses link) h nay = nay
not_before (Fails f) h nay = nay
not_before (Ends why) h nay = nay
not_before (Polls clock) h nay = nay
not_before Asks h nay = nay
not_before (IsAt clock) h nay = nay
not_before TakesCopy h nay = nay
not_before (IsCopied key clock) h nay = nay
not_before (FailsCopy key clock) h nay = nay
not_before Stops h nay = absurd cc
not_before (Forgets id) h nay = nay
not_before (Checks clock) h nay = nay

tries_all : (s : Setup) (h : List Act) → is_stopped h ≡ false → Tries (arrivals s h) (outcomes s h) (taken s h) (seen s h).engine
tries_all s [] nay = record { frames = []; parts = refl; done = []; ids = refl; tries = λ more gs. refl }
tries_all s (act ∷ h) nay =
    let earlier = not_before act h nay in
    tries_after (arrivals s h) (outcomes s h) (taken s h) act h (seen s h) nay (halted s h ∙ earlier) (tries_all s h earlier)

-- without outcomes none was tried
none_open : (ls : List Letter) (fs : List Frame) → tried_in [] fs ≡ [] → tried [] ls ++ tried_behind (fate false [] ls) (λ left. tried_in left fs) ≡ []
none_open [] fs none = none
none_open (l ∷ ls) fs none = refl

none_tried : (fs : List Frame) → tried_in [] fs ≡ []
none_tried [] = refl
none_tried (f ∷ fs) = none_open f.letters fs (none_tried fs)

pub copies_follow_arrivals : CopiesFollowArrivals
copies_follow_arrivals s h nay =
    let x = tries_all s h nay in
    let e = (seen s h).engine in
    let all : tried_in (outcomes s h) (arrivals s h) ≡ x.done =
    ap (λ fs. tried_in (outcomes s h) fs) x.parts
    ∙ ap (λ os. tried_in os (x.frames ++ e.waiting)) (sym (append-nil (outcomes s h)))
    ∙ x.tries [] e.waiting
    ∙ ap (λ xs. x.done ++ xs) (none_open (open_of e) e.waiting (none_tried e.waiting))
    ∙ append-nil x.done in
    x.ids ∙ ap (λ xs. xs ++ option_to_list e.copying) (sym all)
