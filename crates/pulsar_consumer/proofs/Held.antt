-- What an engine holds: as many items are placed as there is room for.
use Rattle.std.proofs.Common.{◌≡◌, ◌∙◌, sym, ap, refl, ℕ, suc, ◌+◌, ◌-◌, ◌<◌, ◌≤◌, min, not, ◌&&◌, ◌||◌, Bool, true, false, cond, List, [], ◌∷◌, ◌++◌, length, take, drop, Option, Some, None, arith}
use Rattle.std.proofs.lemmas.List.{append_assoc, length-append, length-drop, length-take, take-append-drop}
use Rattle.std.specs.Option.{is_some, option_map, option_to_list}
use Rattle.pulsar_consumer.specs.Items.{Item}
use Rattle.pulsar_consumer.specs.DeadLetters.{Letter, lost_letter}
use Rattle.pulsar_consumer.specs.Frames.{Frame}
use Rattle.pulsar_consumer.specs.Redelivery.{Id, forget_one}
use Rattle.pulsar_consumer.specs.Topic.{Engine, acked_by, advances, begin, begins, copied, copy_failed, finish, gives, gives_from, gives_up, goes_on, hears, is_finished, is_pending, no_items, no_letters, opens, places, stops, takes_copy, takes_copy_from}

pub none_left : (xs : List Item) → no_items xs ≡ true → xs ≡ []
none_left [] e = refl
none_left (x ∷ xs) e = absurd cc

pub some_in : (xs : List Item) → no_items xs ≡ false → 0 < length xs
some_in [] none = absurd cc
some_in (y ∷ ys) none = omega arith

pub no_letters_left : (ls : List Letter) → no_letters ls ≡ true → ls ≡ []
no_letters_left [] e = refl
no_letters_left (l ∷ ls) e = absurd cc

pub split_again : (n : ℕ) (u r w : List Item) → (u ++ take n r) ++ (drop n r ++ w) ≡ u ++ (r ++ w)
split_again n u r w =
    append_assoc u (take n r) (drop n r ++ w)
    ∙ ap (λ x. u ++ x) (sym (append_assoc (take n r) (drop n r) w) ∙ ap (λ x. x ++ w) (take-append-drop n r))

abbrev pub one_of : Option Item → List Item
one_of o = option_to_list o

-- a frame is finished where nothing of it is left
both_so : (a b : Bool) → (a && not b) ≡ true → (a ≡ true) × (b ≡ false)
both_so true true h = absurd cc
both_so true false h = (refl, refl)
both_so false b h = absurd cc

neither : (a b : Bool) → (a || not b) ≡ false → (a ≡ false) × (b ≡ true)
neither true b h = absurd cc
neither false true h = (refl, refl)
neither false false h = absurd cc

none_copied : (o : Option Id) → is_some o ≡ false → o ≡ None
none_copied None h = refl
none_copied (Some id) h = absurd cc

pub is_idle : (e : Engine) → is_pending e ≡ false → (e.copying ≡ None) × (e.letters ≡ [])
is_idle e h =
    let two = neither (is_some e.copying) (no_letters e.letters) h in (none_copied e.copying two.0, no_letters_left e.letters two.1)

pub nothing_open : (o : Option Id) (ls : List Letter) → o ≡ None → ls ≡ [] → (is_some o || not (no_letters ls)) ≡ true → ⊥
nothing_open None [] c w h = absurd cc
nothing_open None (l ∷ ls) c w h = absurd cc
nothing_open (Some id) ls c w h = absurd cc

pub finished : (e : Engine) → is_finished e ≡ true → (e.rest ≡ []) × (is_pending e ≡ false)
finished e h = let two = both_so (no_items e.rest) (is_pending e) h in (none_left e.rest two.0, two.1)

-- the next frame is begun: before and after it places items
abbrev pub bare_of : Frame → List Frame → Engine → Engine
bare_of f fs e = opens f.items f.letters (record e { live = option_map (begins f.weight) (finish e).live; waiting = fs })

abbrev pub next_of : Frame → List Frame → Engine → Engine
next_of f fs e = begin f (record (finish e) { waiting = fs })

-- AS MANY ARE PLACED AS THERE IS ROOM FOR

-- there is no more than the queue holds, and no less where items are left that are not placed
abbrev pub IsFull : Engine → Type 0
IsFull e = (length e.unread ≤ e.queue) × (no_items e.rest ≡ false → length e.unread ≡ e.queue)

-- and no frame waits behind one that is finished
abbrev pub IsSettled : Engine → Type 0
IsSettled e = IsFull e × (is_finished e ≡ true → e.waiting ≡ [])

some_left : (n : ℕ) (r : List Item) → no_items (drop n r) ≡ false → n < length r
some_left n r e = by (drop n r) refl e (length-drop n r)
  where
    by : (xs : List Item) → drop n r ≡ xs → no_items xs ≡ false → length (drop n r) ≡ length r - n → n < length r
    by [] same none len = absurd cc
    by (x ∷ xs) same none len =
        let more : length (drop n r) ≡ suc (length xs) = ap length same in
        omega (arith, more, len)

pub places_full : (e : Engine) → length e.unread ≤ e.queue → IsFull (places e)
places_full e le = (fits, full)
  where
    room : ℕ
    room = e.queue - length e.unread

    both : length (e.unread ++ take room e.rest) ≡ length e.unread + length (take room e.rest)
    both = length-append e.unread (take room e.rest)

    taken : length (take room e.rest) ≡ min room (length e.rest)
    taken = length-take room e.rest

    fits : length (e.unread ++ take room e.rest) ≤ e.queue
    fits = grind (arith, both, taken, le)

    full : no_items (drop room e.rest) ≡ false → length (e.unread ++ take room e.rest) ≡ e.queue
    full none = let more = some_left room e.rest none in grind (arith, both, taken, le, more)

pub goes_settled : (fs : List Frame) (e : Engine) → e.waiting ≡ fs → IsFull e → IsSettled (goes_on fs e)
goes_settled [] e w full = by (is_finished e)
  where
    by : (b : Bool) → IsSettled (cond b (finish e) e)
    by true = (full, λ none. w)
    by false = (full, λ none. w)
goes_settled (f ∷ fs) e w full = by (is_finished e) refl (goes_settled fs (next_of f fs e) refl (places_full (bare_of f fs e) full.0))
  where
    by : (b : Bool) → is_finished e ≡ b → IsSettled (goes_on fs (next_of f fs e)) → IsSettled (cond b (goes_on fs (next_of f fs e)) e)
    by true none all = all
    by false more all = (full, λ none. absurd (let nay : true ≡ false = sym none ∙ more in cc))

pub advances_settled : (e : Engine) → length e.unread ≤ e.queue → IsSettled (advances e)
advances_settled e le = goes_settled e.waiting (places e) refl (places_full e le)

pub hears_settled : (f : Frame) (e : Engine) → IsSettled e → IsSettled (hears f e)
hears_settled f e all = advances_settled (record e { waiting = e.waiting ++ f ∷ [] }) all.0.0

gives_from_settled : (us : List Item) (e : Engine) → e.unread ≡ us → IsSettled e → IsSettled (gives_from us e)
gives_from_settled [] e w all = all
gives_from_settled (x ∷ xs) e w all =
    advances_settled (record e { unread = xs }) (let le = all.0.0 in let len : length e.unread ≡ suc (length xs) = ap length w in omega (arith, le, len))

pub gives_settled : (e : Engine) → IsSettled e → IsSettled (gives e)
gives_settled e all = gives_from_settled e.unread e refl all

never : (a : Bool) → (a && false) ≡ true → ⊥
never true h = absurd cc
never false h = absurd cc

pub pending_no : (a : Bool) (b : Bool) → (a && not (true || b)) ≡ true → ⊥
pending_no a b h = never a h

takes_from_settled : (ls : List Letter) (e : Engine) → IsSettled e → IsSettled (takes_copy_from ls e)
takes_from_settled [] e all = all
takes_from_settled (l ∷ ls) e all = (all.0, λ none. absurd (pending_no (no_items e.rest) (not (no_letters ls)) none))

pub takes_settled : (e : Engine) → IsSettled e → IsSettled (takes_copy e)
takes_settled e all = by (is_some e.copying)
  where
    by : (b : Bool) → IsSettled (cond b e (takes_copy_from e.letters e))
    by true = all
    by false = takes_from_settled e.letters e all

pub copied_settled : (e : Engine) → IsSettled e → IsSettled (copied e)
copied_settled e all = by (is_some e.copying)
  where
    by : (b : Bool) → IsSettled (cond b (advances (record e { copying = None; kept = forget_one (acked_by e) e.kept })) e)
    by true = advances_settled (record e { copying = None; kept = forget_one (acked_by e) e.kept }) all.0.0
    by false = all

pub gives_up_settled : (e : Engine) → IsSettled e → IsSettled (gives_up e)
gives_up_settled e all = advances_settled (record e { rest = e.rest ++ lost_letter ∷ []; letters = []; copying = None }) all.0.0

pub failed_settled : (e : Engine) → IsSettled e → IsSettled (copy_failed e)
failed_settled e all = by (is_some e.copying)
  where
    by : (b : Bool) → IsSettled (cond b (gives_up e) e)
    by true = gives_up_settled e all
    by false = all

pub stops_settled : (e : Engine) → IsSettled e → IsSettled (stops e)
stops_settled e all = by (is_pending e)
  where
    by : (b : Bool) → IsSettled (cond b (gives_up (record e { stopped = true })) (record e { stopped = true }))
    by true = gives_up_settled (record e { stopped = true }) all
    by false = all
