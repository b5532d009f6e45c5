-- What an engine holds of its arrivals, and what the copies of dead letters come to.
use Rattle.std.proofs.Common.{◌≡◌, ◌∙◌, sym, ap, refl, subst, ℕ, suc, ◌+◌, ◌-◌, ◌≤◌, nat_lt, Bool, true, false, cond, List, [], ◌∷◌, ◌++◌, length, take, Option, Some, None, arith}
use Rattle.std.proofs.lemmas.Bool.Decides.{nat_tests}
use Rattle.std.proofs.lemmas.List.{append-nil, append_assoc, length-append, length-drop, length-take}
use Rattle.std.specs.Option.{is_some}
use Rattle.pulsar_wire.specs.Row.{none_of}
use Rattle.pulsar_wire.specs.Rows.{message_metadata}
use Rattle.pulsar_consumer.specs.Items.{Item}
use Rattle.pulsar_consumer.specs.DeadLetters.{Letter, lost_letter}
use Rattle.pulsar_consumer.specs.Frames.{Frame}
use Rattle.pulsar_consumer.specs.Laws.{Fate, Pending, Settled, begun_behind, begun_in, behind_fate, fate, outcome_if, pending_behind, pending_in, ready_in}
use Rattle.pulsar_consumer.specs.Redelivery.{Id, Kept, forget_one}
use Rattle.pulsar_consumer.specs.Topic.{Engine, Live, acked_by, advances, copied, copy_failed, error_for, finish, first_of, gives, gives_from, gives_up, goes_on, hears, is_finished, is_pending, places, stops, takes_copy, takes_copy_from}
use Rattle.pulsar_consumer.proofs.Held.{IsFull, bare_of, finished, is_idle, next_of, nothing_open, one_of, places_full, split_again}

-- the entries of the frame that is begun that are left, with the one whose copy is under way
abbrev pub holding : Option Id → List Letter → List Letter
holding None ls = ls
holding (Some id) ls = (id, record { metadata = none_of message_metadata; bytes = [] }) ∷ ls

abbrev pub open_of : Engine → List Letter
open_of e = holding e.copying e.letters

-- once the client is stopped every copy fails, and none has an outcome
abbrev pub Allowed : (is_stopped : Bool) → Bool → List Bool → Type 0
Allowed is_stopped d more = is_stopped ≡ true → (d ≡ true) × (more ≡ [])

-- how many items of the frames that are begun came so far
abbrev pub size : List Item → Engine → ℕ
size gave e = length gave + length e.unread + length e.rest

pub record Follows (all : List Frame) (os : List Bool) (gave : List Item) (e : Engine) : Type 0 where
  pub frames : List Frame
  pub parts : all ≡ frames ++ e.waiting
  pub least : ℕ
  pub fits : least ≤ length gave + e.queue
  pub below : least ≤ size gave e
  pub still : e.stopped ≡ true → open_of e ≡ []
  pub items : (d : Bool) (more : List Bool) (gs : List Frame) → Allowed e.stopped d more →
      ready_in d (os ++ more) (frames ++ gs) ≡ gave ++ (e.unread ++ (e.rest ++ behind_fate (fate d more (open_of e)) (λ left. ready_in d left gs)))
  pub pends : (d : Bool) (more : List Bool) (gs : List Frame) → Allowed e.stopped d more →
      pending_in d (os ++ more) (frames ++ gs) ≡ pending_behind (fate d more (open_of e)) (λ left. pending_in d left gs)
  pub begins : (d : Bool) (more : List Bool) (gs : List Frame) (room : ℕ) → Allowed e.stopped d more → least ≤ room →
      begun_in d (os ++ more) room (frames ++ gs) ≡ frames ++ begun_behind (fate d more (open_of e)) (size gave e) room (λ left room. begun_in d left room gs)

-- what says nothing of items and frames changes nothing
pub renewed : {all : List Frame} {os : List Bool} {gave : List Item} (e : Engine) (live : Option Live) (delay : Option ℕ) (clock : ℕ) (kept : Kept)
    (check : Option ℕ) → Follows all os gave e →
    Follows all os gave (record e { live = live; delay = delay; clock = clock; kept = kept; check = check })
renewed e live delay clock kept check s =
    record {
      frames = s.frames;
      parts = s.parts;
      least = s.least;
      fits = s.fits;
      below = s.below;
      still = s.still;
      items = s.items;
      pends = s.pends;
      begins = s.begins;
    }

-- ITEMS ARE PLACED

placed_size : (e : Engine) → length (places e).unread + length (places e).rest ≡ length e.unread + length e.rest
placed_size e =
    let room = e.queue - length e.unread in
    let both = length-append e.unread (take room e.rest) in
    let taken = length-take room e.rest in
    let left = length-drop room e.rest in
    grind (arith, both, taken, left)

module _ (all : List Frame) (os : List Bool) (gave : List Item) where
  places_follows : (e : Engine) → Follows all os gave e → Follows all os gave (places e)
  places_follows e s =
      record {
        frames = s.frames;
        parts = s.parts;
        least = s.least;
        fits = s.fits;
        below = let one = placed_size e in let le = s.below in omega (arith, one, le);
        still = s.still;
        items = λ d more gs may.
            s.items d more gs may
            ∙ ap (λ x. gave ++ x)
            (sym (split_again (e.queue - length e.unread) e.unread e.rest (behind_fate (fate d more (open_of e)) (λ left. ready_in d left gs))));
        pends = s.pends;
        begins = λ d more gs room may fits.
            s.begins d more gs room may fits
            ∙ ap (λ n. s.frames ++ begun_behind (fate d more (open_of e)) n room (λ left room. begun_in d left room gs)) same;
      }
    where
      same : size gave e ≡ size gave (places e)
      same = let one = placed_size e in omega (arith, one)

-- A FRAME IS BEGUN

-- once the client is stopped, what its entries come to is given at once
opened_items : (b : Bool) (items : List Item) (ls : List Letter) (d : Bool) (more : List Bool) (k : List Bool → List Item) → Allowed b d more →
    items ++ behind_fate (fate d more ls) k ≡ (items ++ cond b (error_for ls) []) ++ behind_fate (fate d more (holding None (cond b [] ls))) k
opened_items false items ls d more k may = ap (λ x. x ++ behind_fate (fate d more ls) k) (sym (append-nil items))
opened_items true items [] d more k may = ap (λ x. x ++ k more) (sym (append-nil items))
opened_items true items (l ∷ ls) d more k may =
    let two = may refl in
    subst (λ d. items ++ behind_fate (fate d more (l ∷ ls)) k ≡ (items ++ lost_letter ∷ []) ++ k more) (sym two.0)
    (subst (λ more. items ++ behind_fate (fate true more (l ∷ ls)) k ≡ (items ++ lost_letter ∷ []) ++ k more) (sym two.1)
    (sym (append_assoc items (lost_letter ∷ []) (k []))))

opened_pends : (b : Bool) (ls : List Letter) (d : Bool) (more : List Bool) (k : List Bool → Bool) → Allowed b d more →
    pending_behind (fate d more ls) k ≡ pending_behind (fate d more (holding None (cond b [] ls))) k
opened_pends false ls d more k may = refl
opened_pends true [] d more k may = refl
opened_pends true (l ∷ ls) d more k may =
    let two = may refl in
    subst (λ d. pending_behind (fate d more (l ∷ ls)) k ≡ k more) (sym two.0)
    (subst (λ more. pending_behind (fate true more (l ∷ ls)) k ≡ k more) (sym two.1) refl)

-- where so many items came before
shifted : (x : Fate) (before n room : ℕ) (k : List Bool → ℕ → List Frame) → before ≤ room →
    begun_behind x n (room - before) k ≡ begun_behind x (before + n) room k
shifted Pending before n room k le = refl
shifted (Settled items left) before n room k le =
    ap (λ b. cond b [] (k left (room - before - (n + length items)))) same
    ∙ ap (λ m. cond (nat_lt room (before + n + length items)) [] (k left m)) less
  where
    same : nat_lt (room - before) (n + length items) ≡ nat_lt room (before + n + length items)
    same = grind (arith, nat_tests, le)

    less : room - before - (n + length items) ≡ room - (before + n + length items)
    less = omega (arith, le)

grown_by_one : (n room : ℕ) (k : List Bool → ℕ → List Frame) (more : List Bool) →
    begun_behind (Settled (lost_letter ∷ []) more) n room k ≡ begun_behind (Settled [] more) (n + 1) room k
grown_by_one n room k more =
    ap (λ m. cond (nat_lt room m) [] (k more (room - m))) (let e : n + 1 ≡ n + 1 + 0 = omega arith in e)

opened_begins : (b : Bool) (items : List Item) (ls : List Letter) (d : Bool) (more : List Bool) (room : ℕ) (k : List Bool → ℕ → List Frame) → Allowed b d more →
    begun_behind (fate d more ls) (length items) room k
    ≡ begun_behind (fate d more (holding None (cond b [] ls))) (length (items ++ cond b (error_for ls) [])) room k
opened_begins false items ls d more room k may = ap (λ x. begun_behind (fate d more ls) (length x) room k) (sym (append-nil items))
opened_begins true items [] d more room k may = ap (λ x. begun_behind (Settled [] more) (length x) room k) (sym (append-nil items))
opened_begins true items (l ∷ ls) d more room k may =
    let two = may refl in
    let one : begun_behind (Settled (lost_letter ∷ []) []) (length items) room k ≡ begun_behind (Settled [] []) (length (items ++ lost_letter ∷ [])) room k =
    grown_by_one (length items) room k [] ∙ ap (λ n. begun_behind (Settled [] []) n room k) (sym (length-append items (lost_letter ∷ []))) in
    subst (λ d. begun_behind (fate d more (l ∷ ls)) (length items) room k ≡ begun_behind (Settled [] more) (length (items ++ lost_letter ∷ [])) room k)
    (sym two.0)
    (subst (λ more. begun_behind (fate true more (l ∷ ls)) (length items) room k ≡ begun_behind (Settled [] more) (length (items ++ lost_letter ∷ [])) room k)
    (sym two.1) one)

stopped_none : (b : Bool) (ls : List Letter) → b ≡ true → cond b [] ls ≡ []
stopped_none true ls h = refl
stopped_none false ls h = absurd cc

module _ (all : List Frame) (os : List Bool) (gave : List Item) where
  next_follows : (e : Engine) (f : Frame) (fs : List Frame) → e.waiting ≡ f ∷ fs → is_finished e ≡ true → length e.unread ≤ e.queue → Follows all os gave e →
      Follows all os gave (bare_of f fs e)
  next_follows e f fs w done le s =
      record {
        frames = s.frames ++ f ∷ [];
        parts = s.parts ∙ ap (λ xs. s.frames ++ xs) w ∙ sym (append_assoc s.frames (f ∷ []) fs);
        least = size gave e;
        fits = let nothing : length e.rest ≡ 0 = ap length none in omega (arith, nothing, le);
        below = let same = larger in omega (arith, same);
        still = λ h. ap (λ o. holding o (cond e.stopped [] f.letters)) idle.0 ∙ stopped_none e.stopped f.letters h;
        items = λ d more gs may.
            ap (λ xs. ready_in d (os ++ more) xs) (append_assoc s.frames (f ∷ []) gs)
            ∙ s.items d more (f ∷ gs) may
            ∙ ap (λ r. gave ++ (e.unread ++ (r ++ behind_fate (fate d more (open_of e)) (λ left. ready_in d left (f ∷ gs))))) none
            ∙ ap (λ ls. gave ++ (e.unread ++ behind_fate (fate d more ls) (λ left. ready_in d left (f ∷ gs)))) none_open
            ∙ ap (λ x. gave ++ (e.unread ++ x)) (opened_items e.stopped f.items f.letters d more (λ left. ready_in d left gs) may
            ∙ ap (λ o. (f.items ++ cond e.stopped (error_for f.letters) []) ++ behind_fate (fate d more (holding o (cond e.stopped [] f.letters)))
            (λ left. ready_in d left gs)) (sym idle.0));
        pends = λ d more gs may.
            ap (λ xs. pending_in d (os ++ more) xs) (append_assoc s.frames (f ∷ []) gs)
            ∙ s.pends d more (f ∷ gs) may
            ∙ ap (λ ls. pending_behind (fate d more ls) (λ left. pending_in d left (f ∷ gs))) none_open
            ∙ opened_pends e.stopped f.letters d more (λ left. pending_in d left gs) may
            ∙ ap (λ o. pending_behind (fate d more (holding o (cond e.stopped [] f.letters))) (λ left. pending_in d left gs)) (sym idle.0);
        begins = λ d more gs room may fits.
            ap (λ xs. begun_in d (os ++ more) room xs) (append_assoc s.frames (f ∷ []) gs)
            ∙ s.begins d more (f ∷ gs) room may (earlier room fits)
            ∙ ap (λ ls. s.frames ++ begun_behind (fate d more ls) (size gave e) room (λ left room. begun_in d left room (f ∷ gs))) none_open
            ∙ ap (λ b. s.frames ++ cond b [] (begun_in d more (room - (size gave e + 0)) (f ∷ gs)))
            (let nay : nat_lt room (size gave e + 0) ≡ false = grind (arith, nat_tests) in nay)
            ∙ ap (λ n. s.frames ++ begun_in d more (room - n) (f ∷ gs)) (let e0 : size gave e + 0 ≡ size gave e = omega arith in e0)
            ∙ ap (λ xs. s.frames ++ (f ∷ xs)) (opened_begins e.stopped f.items f.letters d more (room - size gave e) (λ left room. begun_in d left room gs) may
            ∙ shifted (fate d more (holding None (cond e.stopped [] f.letters))) (size gave e)
            (length (f.items ++ cond e.stopped (error_for f.letters) [])) room (λ left room. begun_in d left room gs) fits
            ∙ ap (λ o. begun_behind (fate d more (holding o (cond e.stopped [] f.letters)))
            (size gave e + length (f.items ++ cond e.stopped (error_for f.letters) [])) room (λ left room. begun_in d left room gs)) (sym idle.0)
            ∙ ap (λ n. begun_behind (fate d more (holding e.copying (cond e.stopped [] f.letters))) n room (λ left room. begun_in d left room gs)) larger)
            ∙ sym (append_assoc s.frames (f ∷ []) _);
      }
    where
      ends_so : (e.rest ≡ []) × (is_pending e ≡ false)
      ends_so = finished e done

      none : e.rest ≡ []
      none = ends_so.0

      idle : (e.copying ≡ None) × (e.letters ≡ [])
      idle = is_idle e ends_so.1

      none_open : open_of e ≡ []
      none_open = ap (λ o. holding o e.letters) idle.0 ∙ idle.1

      larger : size gave e + length (f.items ++ cond e.stopped (error_for f.letters) []) ≡ size gave (bare_of f fs e)
      larger = let nothing : length e.rest ≡ 0 = ap length none in omega (arith, nothing)

      earlier : (room : ℕ) → size gave e ≤ room → s.least ≤ room
      earlier room le = let low = s.below in omega (arith, low, le)

  -- AS FAR AS THERE IS ROOM

  goes_follows : (fs : List Frame) (e : Engine) → e.waiting ≡ fs → IsFull e → Follows all os gave e → Follows all os gave (goes_on fs e)
  goes_follows [] e w full s = by (is_finished e)
    where
      by : (b : Bool) → Follows all os gave (cond b (finish e) e)
      by true = renewed e (finish e).live e.delay e.clock e.kept e.check s
      by false = s
  goes_follows (f ∷ fs) e w full s =
      by (is_finished e) refl (λ x. goes_follows fs (next_of f fs e) refl (places_full (bare_of f fs e) full.0) x)
    where
      by : (b : Bool) → is_finished e ≡ b → (Follows all os gave (next_of f fs e) → Follows all os gave (goes_on fs (next_of f fs e))) →
          Follows all os gave (cond b (goes_on fs (next_of f fs e)) e)
      by true done next = next (places_follows all os gave (bare_of f fs e) (next_follows e f fs w done full.0 s))
      by false more next = s

  pub advances_follows : (e : Engine) → length e.unread ≤ e.queue → Follows all os gave e → Follows all os gave (advances e)
  advances_follows e le s = goes_follows e.waiting (places e) refl (places_full e le) (places_follows all os gave e s)

pub hears_follows : (all : List Frame) (os : List Bool) (gave : List Item) (f : Frame) (e : Engine) → length e.unread ≤ e.queue → Follows all os gave e →
    Follows (all ++ f ∷ []) os gave (hears f e)
hears_follows all os gave f e le s =
    advances_follows (all ++ f ∷ []) os gave (record e { waiting = e.waiting ++ f ∷ [] }) le
    (record {
      frames = s.frames;
      parts = ap (λ xs. xs ++ f ∷ []) s.parts ∙ append_assoc s.frames e.waiting (f ∷ []);
      least = s.least;
      fits = s.fits;
      below = s.below;
      still = s.still;
      items = s.items;
      pends = s.pends;
      begins = s.begins;
    })

-- AN ITEM IS GIVEN

gives_from_follows : (all : List Frame) (os : List Bool) (gave : List Item) (us : List Item) (e : Engine) → e.unread ≡ us → length e.unread ≤ e.queue →
    Follows all os gave e →
    Follows all os (gave ++ one_of (first_of us)) (gives_from us e)
gives_from_follows all os gave [] e w le s = subst (λ xs. Follows all os xs e) (sym (append-nil gave)) s
gives_from_follows all os gave (x ∷ xs) e w le s =
    advances_follows all os (gave ++ x ∷ []) (record e { unread = xs }) (omega (arith, le, len))
    (record {
      frames = s.frames;
      parts = s.parts;
      least = s.least;
      fits = let low = s.fits in omega (arith, low, more);
      below = let low = s.below in omega (arith, low, same);
      still = s.still;
      items = λ d more gs may.
          s.items d more gs may
          ∙ ap (λ u. gave ++ (u ++ (e.rest ++ behind_fate (fate d more (open_of e)) (λ left. ready_in d left gs)))) w
          ∙ sym (append_assoc gave (x ∷ []) (xs ++ (e.rest ++ behind_fate (fate d more (open_of e)) (λ left. ready_in d left gs))));
      pends = s.pends;
      begins = λ d more gs room may fits.
          s.begins d more gs room may fits
          ∙ ap (λ n. s.frames ++ begun_behind (fate d more (open_of e)) n room (λ left room. begun_in d left room gs)) same;
    })
  where
    len : length e.unread ≡ suc (length xs)
    len = ap length w

    more : length (gave ++ x ∷ []) ≡ length gave + 1
    more = length-append gave (x ∷ [])

    same : size gave e ≡ size (gave ++ x ∷ []) (record e { unread = xs })
    same = omega (arith, len, more)

pub gives_follows : (all : List Frame) (os : List Bool) (gave : List Item) (e : Engine) → length e.unread ≤ e.queue → Follows all os gave e →
    Follows all os (gave ++ one_of (first_of e.unread)) (gives e)
gives_follows all os gave e le s = gives_from_follows all os gave e.unread e refl le s

-- A COPY IS TAKEN, HAS ITS RECEIPT, OR FAILS

-- the outcomes decide, whatever the entries are
pub any_letter : (d : Bool) (os : List Bool) (l m : Letter) (ls : List Letter) → fate d os (l ∷ ls) ≡ fate d os (m ∷ ls)
any_letter d [] l m ls = refl
any_letter d (true ∷ os) l m ls = refl
any_letter d (false ∷ os) l m ls = refl

takes_from_follows : (all : List Frame) (os : List Bool) (gave : List Item) (ls : List Letter) (e : Engine) → e.copying ≡ None → e.letters ≡ ls →
    Follows all os gave e →
    Follows all os gave (takes_copy_from ls e)
takes_from_follows all os gave [] e none w s = s
takes_from_follows all os gave (l ∷ ls) e none w s =
    record {
      frames = s.frames;
      parts = s.parts;
      least = s.least;
      fits = s.fits;
      below = s.below;
      still = λ h. absurd (let bad : l ∷ ls ≡ [] = sym was ∙ s.still h in cc);
      items = λ d more gs may.
          s.items d more gs may
          ∙ ap (λ x. gave ++ (e.unread ++ (e.rest ++ behind_fate x (λ left. ready_in d left gs)))) (same d more);
      pends = λ d more gs may. s.pends d more gs may ∙ ap (λ x. pending_behind x (λ left. pending_in d left gs)) (same d more);
      begins = λ d more gs room may fits.
          s.begins d more gs room may fits
          ∙ ap (λ x. s.frames ++ begun_behind x (size gave e) room (λ left room. begun_in d left room gs)) (same d more);
    }
  where
    was : open_of e ≡ l ∷ ls
    was = ap (λ o. holding o e.letters) none ∙ w

    same : (d : Bool) (more : List Bool) → fate d more (open_of e) ≡ fate d more (holding (Some l.0) ls)
    same d more = ap (fate d more) was ∙ any_letter d more l (l.0, record { metadata = none_of message_metadata; bytes = [] }) ls

pub takes_follows : (all : List Frame) (os : List Bool) (gave : List Item) (e : Engine) → Follows all os gave e → Follows all os gave (takes_copy e)
takes_follows all os gave e s = by e.copying refl
  where
    by : (o : Option Id) → e.copying ≡ o → Follows all os gave (cond (is_some o) e (takes_copy_from e.letters e))
    by None none = takes_from_follows all os gave e.letters e none refl s
    by (Some id) is = s

-- the outcomes so far, with one more
pub one_outcome : (os : List Bool) (b : Bool) (more : List Bool) → (os ++ b ∷ []) ++ more ≡ os ++ (b ∷ more)
one_outcome os b more = append_assoc os (b ∷ []) more

-- once the client is stopped none is under way
not_stopped : (e : Engine) (id : Id) → e.copying ≡ Some id → (e.stopped ≡ true → open_of e ≡ []) → e.stopped ≡ true → ⊥
not_stopped e id is still h =
    let bad : holding (Some id) e.letters ≡ [] = sym (ap (λ o. holding o e.letters) is) ∙ still h in absurd cc

module _ (all : List Frame) (os : List Bool) (gave : List Item) where
  sent_follows : (e : Engine) (id : Id) → e.copying ≡ Some id → Follows all os gave e → Follows all (os ++ true ∷ []) gave (record e { copying = None })
  sent_follows e id is s =
      record {
        frames = s.frames;
        parts = s.parts;
        least = s.least;
        fits = s.fits;
        below = s.below;
        still = λ h. absurd (not_stopped e id is s.still h);
        items = λ d more gs may.
            ap (λ xs. ready_in d xs (s.frames ++ gs)) (one_outcome os true more)
            ∙ s.items d (true ∷ more) gs (λ h. absurd (not_stopped e id is s.still h))
            ∙ ap (λ o. gave ++ (e.unread ++ (e.rest ++ behind_fate (fate d (true ∷ more) (holding o e.letters)) (λ left. ready_in d left gs)))) is;
        pends = λ d more gs may.
            ap (λ xs. pending_in d xs (s.frames ++ gs)) (one_outcome os true more)
            ∙ s.pends d (true ∷ more) gs (λ h. absurd (not_stopped e id is s.still h))
            ∙ ap (λ o. pending_behind (fate d (true ∷ more) (holding o e.letters)) (λ left. pending_in d left gs)) is;
        begins = λ d more gs room may fits.
            ap (λ xs. begun_in d xs room (s.frames ++ gs)) (one_outcome os true more)
            ∙ s.begins d (true ∷ more) gs room (λ h. absurd (not_stopped e id is s.still h)) fits
            ∙ ap (λ o. s.frames ++ begun_behind (fate d (true ∷ more) (holding o e.letters)) (size gave e) room (λ left room. begun_in d left room gs)) is;
      }

  pub copied_follows : (e : Engine) → length e.unread ≤ e.queue → Follows all os gave e →
      Follows all (os ++ outcome_if (is_some e.copying) true) gave (copied e)
  copied_follows e le s = by e.copying refl
    where
      by : (o : Option Id) → e.copying ≡ o →
          Follows all (os ++ outcome_if (is_some o) true) gave
          (cond (is_some o) (advances (record e { copying = None; kept = forget_one (acked_by e) e.kept })) e)
      by None none = subst (λ xs. Follows all xs gave e) (sym (append-nil os)) s
      by (Some id) is =
          advances_follows all (os ++ true ∷ []) gave (record e { copying = None; kept = forget_one (acked_by e) e.kept }) le
          (renewed (record e { copying = None }) e.live e.delay e.clock (forget_one (acked_by e) e.kept) e.check (sent_follows e id is s))

-- the frame that is begun with an error in the place of its entries
abbrev given_up : Engine → Engine
given_up e = record e { rest = e.rest ++ lost_letter ∷ []; letters = []; copying = None }

with_error : (rest : List Item) (x : List Item) → rest ++ (lost_letter ∷ x) ≡ (rest ++ lost_letter ∷ []) ++ x
with_error rest x = sym (append_assoc rest (lost_letter ∷ []) x)

larger_by_one : (gave : List Item) (e : Engine) → size gave e + 1 ≡ size gave (given_up e)
larger_by_one gave e = let more = length-append e.rest (lost_letter ∷ []) in omega (arith, more)

module _ (all : List Frame) (os : List Bool) (gave : List Item) where
  lost_follows : (e : Engine) (id : Id) → e.copying ≡ Some id → Follows all os gave e → Follows all (os ++ false ∷ []) gave (given_up e)
  lost_follows e id is s =
      record {
        frames = s.frames;
        parts = s.parts;
        least = s.least;
        fits = s.fits;
        below = let low = s.below in let more = larger_by_one gave e in omega (arith, low, more);
        still = λ h. refl;
        items = λ d more gs may.
            ap (λ xs. ready_in d xs (s.frames ++ gs)) (one_outcome os false more)
            ∙ s.items d (false ∷ more) gs (λ h. absurd (not_stopped e id is s.still h))
            ∙ ap (λ o. gave ++ (e.unread ++ (e.rest ++ behind_fate (fate d (false ∷ more) (holding o e.letters)) (λ left. ready_in d left gs)))) is
            ∙ ap (λ x. gave ++ (e.unread ++ x)) (with_error e.rest (ready_in d more gs));
        pends = λ d more gs may.
            ap (λ xs. pending_in d xs (s.frames ++ gs)) (one_outcome os false more)
            ∙ s.pends d (false ∷ more) gs (λ h. absurd (not_stopped e id is s.still h))
            ∙ ap (λ o. pending_behind (fate d (false ∷ more) (holding o e.letters)) (λ left. pending_in d left gs)) is;
        begins = λ d more gs room may fits.
            ap (λ xs. begun_in d xs room (s.frames ++ gs)) (one_outcome os false more)
            ∙ s.begins d (false ∷ more) gs room (λ h. absurd (not_stopped e id is s.still h)) fits
            ∙ ap (λ o. s.frames ++ begun_behind (fate d (false ∷ more) (holding o e.letters)) (size gave e) room (λ left room. begun_in d left room gs)) is
            ∙ ap (λ x. s.frames ++ x) (grown_by_one (size gave e) room (λ left room. begun_in d left room gs) more
            ∙ ap (λ n. begun_behind (Settled [] more) n room (λ left room. begun_in d left room gs)) (larger_by_one gave e));
      }

  pub failed_follows : (e : Engine) → length e.unread ≤ e.queue → Follows all os gave e →
      Follows all (os ++ outcome_if (is_some e.copying) false) gave (copy_failed e)
  failed_follows e le s = by e.copying refl
    where
      by : (o : Option Id) → e.copying ≡ o → Follows all (os ++ outcome_if (is_some o) false) gave (cond (is_some o) (gives_up e) e)
      by None none = subst (λ xs. Follows all xs gave e) (sym (append-nil os)) s
      by (Some id) is = advances_follows all (os ++ false ∷ []) gave (given_up e) le (lost_follows e id is s)

  -- THE CLIENT IS STOPPED

  halted_follows : (e : Engine) → open_of e ≡ [] → Follows all os gave e → Follows all os gave (record e { stopped = true })
  halted_follows e none s =
      record {
        frames = s.frames;
        parts = s.parts;
        least = s.least;
        fits = s.fits;
        below = s.below;
        still = λ h. none;
        items = λ d more gs may. s.items d more gs (λ h. may refl);
        pends = λ d more gs may. s.pends d more gs (λ h. may refl);
        begins = λ d more gs room may fits. s.begins d more gs room (λ h. may refl) fits;
      }

  -- what is none_open comes to an error
  stop_fails : (e : Engine) (l : Letter) (ls : List Letter) → open_of e ≡ l ∷ ls → Follows all os gave e →
      Follows all os gave (given_up (record e { stopped = true }))
  stop_fails e l ls is s =
      record {
        frames = s.frames;
        parts = s.parts;
        least = s.least;
        fits = s.fits;
        below = let low = s.below in let more = larger_by_one gave e in omega (arith, low, more);
        still = λ h. refl;
        items = λ d more gs may.
            s.items d more gs (λ h. may refl)
            ∙ ap (λ x. gave ++ (e.unread ++ (e.rest ++ behind_fate x (λ left. ready_in d left gs)))) (fails d more (may refl))
            ∙ ap (λ x. gave ++ (e.unread ++ x)) (with_error e.rest (ready_in d more gs));
        pends = λ d more gs may. s.pends d more gs (λ h. may refl) ∙ ap (λ x. pending_behind x (λ left. pending_in d left gs)) (fails d more (may refl));
        begins = λ d more gs room may fits.
            s.begins d more gs room (λ h. may refl) fits
            ∙ ap (λ x. s.frames ++ begun_behind x (size gave e) room (λ left room. begun_in d left room gs)) (fails d more (may refl))
            ∙ ap (λ x. s.frames ++ x) (grown_by_one (size gave e) room (λ left room. begun_in d left room gs) more
            ∙ ap (λ n. begun_behind (Settled [] more) n room (λ left room. begun_in d left room gs)) (larger_by_one gave e));
      }
    where
      fails : (d : Bool) (more : List Bool) → (d ≡ true) × (more ≡ []) → fate d more (open_of e) ≡ Settled (lost_letter ∷ []) more
      fails d more two =
          ap (fate d more) is
          ∙ ap (λ d. fate d more (l ∷ ls)) two.0
          ∙ ap (λ more. fate true more (l ∷ ls)) two.1
          ∙ ap (λ more. Settled (lost_letter ∷ []) more) (sym two.1)

  pub stops_follows : (e : Engine) → length e.unread ≤ e.queue → Follows all os gave e → Follows all os gave (stops e)
  stops_follows e le s = by (is_pending e) refl
    where
      idle_open : is_pending e ≡ false → open_of e ≡ []
      idle_open nay = let two = is_idle e nay in ap (λ o. holding o e.letters) two.0 ∙ two.1

      some_there : (o : Option Id) (ls : List Letter) → e.copying ≡ o → e.letters ≡ ls → is_pending e ≡ true →
          Follows all os gave (given_up (record e { stopped = true }))
      some_there (Some id) ls c w aye = stop_fails e _ e.letters (ap (λ o. holding o e.letters) c) s
      some_there None (l ∷ ls) c w aye = stop_fails e l ls (ap (λ o. holding o e.letters) c ∙ w) s
      some_there None [] c w aye = absurd (nothing_open e.copying e.letters c w aye)

      by : (b : Bool) → is_pending e ≡ b → Follows all os gave (cond b (gives_up (record e { stopped = true })) (record e { stopped = true }))
      by true aye = advances_follows all os gave (given_up (record e { stopped = true })) le (some_there e.copying e.letters refl refl aye)
      by false nay = halted_follows e (idle_open nay) s
