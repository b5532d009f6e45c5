-- The bytes that are written to a connection are the first of those that were queued there.
use Rattle.std.proofs.Common.{◌≡◌, inl, inr, ◌∙◌, sym, ap, subst, ℕ, suc, ◌+◌, ◌≤◌, ◌<◌, List, [], ◌∷◌, ◌++◌, refl, arith, length, map, Bool, true, false, cond, Option, Some, None, ◌==◌, nat_lt, append_assoc, append-nil}
use Rattle.std.proofs.lemmas.Bool.{cases_Bool, eqb-true, eq-eqb}
use Rattle.std.proofs.lemmas.Bool.Decides.{nat_tests}
use Rattle.std.proofs.lemmas.Grind.{common_steps, flat_map-append}
use Rattle.std.proofs.lemmas.List.Elements.{filter-append}
use Rattle.std.specs.List.{filter, flat_map}
use Rattle.std.specs.Option.{option_map, option_to_list}
use Rattle.pulsar_laws.proofs.ActWords.{Act, Ask, Bytes, Comes, Dials, Does, End, Get, Heard, LinkAct, Polls, Queued, Shown, ToLink, Who}
use Rattle.pulsar_laws.proofs.RunWords.{Begins, begun_live, Chosen, dialed, Each, each_append, each_map, Entry, is_live, IsRun, link_got, live_begun, Options, rules, Then, turned, view, View}
use Rattle.pulsar_laws.proofs.LinkWords.{closed_by, Fault, got_at, Place, Seat, seat_asked, seat_fed, seat_got, SendPing, took, took_end, took_some, Words}
use Rattle.pulsar_run.specs.Order.{InOrder, NoneBelow}
use Rattle.pulsar_run.specs.Run.{in_order, steps_done, with_effects}
use Rattle.pulsar_run.proofs.Orders.{kinds_in_order_lem}
use Rattle.pulsar_session.specs.Laws.{queued_in, written_in}
use Rattle.pulsar_session.specs.Link as session
use Rattle.pulsar_session.specs.Link.{Act as Act', Opens, Takes, Asks, Drains, Seen, Setup, came, ends, is_open, is_over, written}
use Rattle.pulsar_calls.specs.declared.act.LinkAct.TheVariants as link
use Rattle.pulsar_calls.specs.declared.effect.Settlement.TheVariants as settlement
use Rattle.pulsar_calls.specs.Content.{Write}
use Rattle.pulsar_acts.specs.Effects.{effects, retries_on}
use Rattle.pulsar_links.specs.LinkEffects.{asked_at, connects, given_at}
use Rattle.pulsar_calls.specs.Order.{effect_below, is_before3}
use Rattle.pulsar_frame.specs.Items.{Given, Faulty}
use Rattle.pulsar_laws.proofs.Cases.{none_some, some_is}
use Rattle.pulsar_laws.specs.Laws.{IsPrefix, WritesFollow, bytes_of, queued_on, written_on}
use Rattle.pulsar_links.specs.Links as links
use Rattle.pulsar_links.specs.Links.{close, ended, is_own_end, lost, queues, settled_in, settles, write}
use Rattle.pulsar_calls.specs.Steps.{Step}
use Rattle.pulsar_consumer_table.specs.Consumers.{Member, polled, polled_so}
use Rattle.pulsar_laws.proofs.links.Alone.{Made, alone, is_close, more, over_stays}
use Rattle.pulsar_agenda.proofs.Orders.{effect_order}
use Rattle.pulsar_laws.proofs.links.OfLink.{IsOf, asked_of, given_of}
use Rattle.pulsar_laws.proofs.calls.Plain.{ArePlain, effects_plain, turned_plain}
use Rattle.pulsar_laws.proofs.links.Writing.{Turns, numbered, turns}
use Rattle.pulsar_incoming.specs.declared.polled.Polled.{Polled}
use Rattle.pulsar_incoming.specs.declared.polled.Polled.TheVariants as poll
use Rattle.pulsar_consumer.specs.Topic as reader
use Rattle.pulsar_acts.proofs.Linking.{asked_is, dialed_is, fed_is, got_row, took_is}

abbrev flat : List (List ℕ) → List ℕ
flat xs = flat_map (λ bytes. bytes) xs

-- EFFECTS OF ONE LINK

abbrev is_write : ℕ → Shown → Bool
is_write l (Write k bytes) = l == k
is_write l _ = false

abbrev is_queue : ℕ → Shown → Bool
is_queue l (Queued k place bytes) = l == k
is_queue l _ = false

abbrev place_of : Shown → ℕ
place_of (Queued k place bytes) = place
place_of _ = 0

not_written : (l : ℕ) (e : Shown) → is_write l e ≡ false → written_on l e ≡ []
not_written l (Write k bytes) h = rw h refl
not_written l _ h = refl

not_queued : (l : ℕ) (e : Shown) → is_queue l e ≡ false → queued_on l e ≡ []
not_queued l (Queued k place bytes) h = rw h refl
not_queued l _ h = refl

only_tested : {A B : Type 0} (f : A → List B) (test : A → Bool) → ((x : A) → test x ≡ false → f x ≡ []) → (xs : List A) →
    flat_map f (filter test xs) ≡ flat_map f xs
only_tested f test none [] = refl
only_tested f test none (x ∷ xs) = elim (cases_Bool (test x)) [
  | inl e ↦ rw e (ap (λ ys. f x ++ ys) (only_tested f test none xs))
  | inr e ↦ rw (e, none x e) (only_tested f test none xs)
]

-- those that rank alike stand in order
none_tied : (test : Shown → Bool) (x : Shown) → ((y : Shown) → test y ≡ true → effect_below y x ≡ false) → (ys : List Shown) →
    NoneBelow effect_below x (filter test ys)
none_tied test x alike [] = tt
none_tied test x alike (y ∷ ys) = elim (cases_Bool (test y)) [
  | inl e ↦ rw e (alike y e, none_tied test x alike ys)
  | inr e ↦ rw e (none_tied test x alike ys)
]

pub tied_order : (test : Shown → Bool) → ((x y : Shown) → test x ≡ true → test y ≡ true → effect_below y x ≡ false) → (xs : List Shown) →
    InOrder effect_below (filter test xs)
tied_order test alike [] = tt
tied_order test alike (x ∷ xs) = elim (cases_Bool (test x)) [
  | inl e ↦ rw e (none_tied test x (λ y t. alike x y e t) xs, tied_order test alike xs)
  | inr e ↦ rw e (tied_order test alike xs)
]

one_link : (l j k : ℕ) → (l == j) ≡ true → (l == k) ≡ true → is_before3 (0, k, 0) (0, j, 0) ≡ false
one_link l j k h t = grind (arith, nat_tests, common_steps)

writes_alike : (l : ℕ) (x y : Shown) → is_write l x ≡ true → is_write l y ≡ true → effect_below y x ≡ false
writes_alike l (Write j bs) (Write k cs) h t = one_link l j k h t
writes_alike l (Write j bs) _ h t = absurd cc
writes_alike l _ y h t = absurd cc

itself : (l : ℕ) → (l == l) ≡ true
itself l = eq-eqb l l refl

-- THOSE THAT ARE QUEUED STAND BY THEIR PLACES

abbrev Placed : (l m : ℕ) → List Shown → Type 0
Placed l m [] = Unit {0}
Placed l m (x ∷ xs) = (is_queue l x ≡ true) × (place_of x < m) × Placed l m xs

placed_more : (l m n : ℕ) (xs : List Shown) → m ≤ n → Placed l m xs → Placed l n xs
placed_more l m n [] le k = tt
placed_more l m n (x ∷ xs) le k = let lt : place_of x < m = k.1 in (k.0, omega (arith, lt, le), placed_more l m n xs le k.2)

placed_last : (l m : ℕ) (xs : List Shown) (y : Shown) → Placed l m xs → is_queue l y ≡ true → place_of y < m → Placed l m (xs ++ y ∷ [])
placed_last l m [] y k q lt = (q, lt, tt)
placed_last l m (x ∷ xs) y k q lt = (k.0, k.1, placed_last l m xs y k.2 q lt)

later_place : (l j k m p : ℕ) → (l == j) ≡ true → (l == k) ≡ true → p < m → is_before3 (4, k, m) (4, j, p) ≡ false
later_place l j k m p h t lt = grind (arith, nat_tests, common_steps)

later_queue : (l m : ℕ) (x y : Shown) → is_queue l x ≡ true → place_of x < m → is_queue l y ≡ true → place_of y ≡ m → effect_below y x ≡ false
later_queue l m (Queued j p bs) (Queued k q cs) h lt t e = let less : p < q = subst (λ n. p < n) (sym e) lt in later_place l j k q p h t less
later_queue l m (Queued j p bs) _ h lt t e = absurd cc
later_queue l m _ y h lt t e = absurd cc

none_last : (x y : Shown) (xs : List Shown) → NoneBelow effect_below x xs → effect_below y x ≡ false → NoneBelow effect_below x (xs ++ y ∷ [])
none_last x y [] k e = (e, tt)
none_last x y (z ∷ xs) k e = (k.0, none_last x y xs k.1 e)

order_last : (l m : ℕ) (xs : List Shown) (y : Shown) → InOrder effect_below xs → Placed l m xs → is_queue l y ≡ true → place_of y ≡ m →
    InOrder effect_below (xs ++ y ∷ [])
order_last l m [] y k p q e = (tt, tt)
order_last l m (x ∷ xs) y k p q e = (none_last x y xs k.0 (later_queue l m x y p.0 p.1 q e), order_last l m xs y k.1 p.2 q e)

record AreInPlace (l m : ℕ) (xs : List Shown) : Type 0 where
  order : InOrder effect_below xs
  placed : Placed l m xs

-- some more at the next places
in_place : (l m : ℕ) (xs : List Shown) (fs : List (List ℕ)) → AreInPlace l m xs → AreInPlace l (m + length fs) (xs ++ numbered l m fs)
in_place l m xs [] k =
    let same : m ≡ m + 0 = omega arith in
    subst (λ n. AreInPlace l n (xs ++ [])) same (subst (AreInPlace l m) (sym (append-nil xs)) k)
in_place l m xs (f ∷ fs) k =
    let one : AreInPlace l (suc m) (xs ++ Queued l m f ∷ []) = record {
      order = order_last l m xs (Queued l m f) k.order k.placed (itself l) refl;
      placed = placed_last l (suc m) xs (Queued l m f) (placed_more l m (suc m) xs (omega arith) k.placed) (itself l) (omega arith);
    } in
    let same : suc m + length fs ≡ m + suc (length fs) = omega arith in
    subst (λ n. AreInPlace l n (xs ++ numbered l m (f ∷ fs))) same
    (subst (AreInPlace l (suc m + length fs)) (append_assoc xs (Queued l m f ∷ []) (numbered l (suc m) fs))
    (in_place l (suc m) (xs ++ Queued l m f ∷ []) fs one))

abbrev IsPlaced : (l m : ℕ) → List Shown → Type 0
IsPlaced l m xs = AreInPlace l m (filter (is_queue l) xs)

-- what an act shows of a link: the frames that it writes, and those that it queues from a place on
record Shows (l m : ℕ) (xs : List Shown) (ws fs : List (List ℕ)) : Type 0 where
  writes : flat_map (written_on l) xs ≡ flat ws
  queued : filter (is_queue l) xs ≡ numbered l m fs

queued_bytes : (l m : ℕ) (fs : List (List ℕ)) → flat_map (queued_on l) (numbered l m fs) ≡ flat fs
queued_bytes l m [] = refl
queued_bytes l m (f ∷ fs) = ap (λ b. cond b f [] ++ flat_map (queued_on l) (numbered l (suc m) fs)) (itself l) ∙ ap (λ bs. f ++ bs) (queued_bytes l (suc m) fs)

shown_bytes : (l m : ℕ) (xs : List Shown) (ws fs : List (List ℕ)) → Shows l m xs ws fs → flat_map (queued_on l) xs ≡ flat fs
shown_bytes l m xs ws fs k = sym (only_tested (queued_on l) (is_queue l) (not_queued l) xs) ∙ ap (flat_map (queued_on l)) k.queued ∙ queued_bytes l m fs

placed_on : (l m : ℕ) (xs zs : List Shown) (ws fs : List (List ℕ)) → IsPlaced l m xs → Shows l m zs ws fs → IsPlaced l (m + length fs) (xs ++ zs)
placed_on l m xs zs ws fs k shows =
    subst (AreInPlace l (m + length fs)) (sym (filter-append (is_queue l) xs zs ∙ ap (λ ys. filter (is_queue l) xs ++ ys) shows.queued))
    (in_place l m (filter (is_queue l) xs) fs k)

-- ALL STEPS

abbrev ArePlaced : (l m : ℕ) → List Step → Type 0
ArePlaced l m [] = Unit {0}
ArePlaced l m (s ∷ ss) = IsPlaced l m s.effects × ArePlaced l m ss

are_more : (l m n : ℕ) (ss : List Step) → m ≤ n → ArePlaced l m ss → ArePlaced l n ss
are_more l m n [] le k = tt
are_more l m n (s ∷ ss) le k =
    (record { order = k.0.order; placed = placed_more l m n (filter (is_queue l) s.effects) le k.0.placed }, are_more l m n ss le k.1)

-- the effects in their order give what those give as they were done
pub step_same : {B : Type 0} (f : Shown → List B) (test : Shown → Bool) → ((x : Shown) → test x ≡ false → f x ≡ []) → (s : Step) →
    InOrder effect_below (filter test s.effects) → flat_map f (in_order effect_below s).effects ≡ flat_map f s.effects
step_same f test none s k =
    sym (only_tested f test none (in_order effect_below s).effects)
    ∙ ap (flat_map f) (kinds_in_order_lem Shown effect_below test s.effects effect_order k)
    ∙ only_tested f test none s.effects

queued_same : (l m : ℕ) (ss : List Step) → ArePlaced l m ss → bytes_of (queued_on l) (map (in_order effect_below) ss) ≡ bytes_of (queued_on l) ss
queued_same l m [] k = refl
queued_same l m (s ∷ ss) k = λ i. queued_same l m ss k.1 i ++ step_same (queued_on l) (is_queue l) (not_queued l) s k.0.order i

written_same : (l : ℕ) (ss : List Step) → bytes_of (written_on l) (map (in_order effect_below) ss) ≡ bytes_of (written_on l) ss
written_same l [] = refl
written_same l (s ∷ ss) =
    λ i. written_same l ss i ++ step_same (written_on l) (is_write l) (not_written l) s (tied_order (is_write l) (writes_alike l) s.effects) i

-- WHAT NEITHER WRITES TO A LINK NOR QUEUES THERE

abbrev IsMute : ℕ → Shown → Type 0
IsMute l x = (is_write l x ≡ false) × (is_queue l x ≡ false)

abbrev Mute : ℕ → List Shown → Type 0
Mute l xs = Each (IsMute l) xs

mute_shows : (l m : ℕ) (xs : List Shown) → Mute l xs → Shows l m xs [] []
mute_shows l m [] k = record { writes = refl; queued = refl }
mute_shows l m (x ∷ xs) k =
    let r : Shows l m xs [] [] = mute_shows l m xs k.1 in
    record {
      writes = ap (λ bs. bs ++ flat_map (written_on l) xs) (not_written l x k.0.0) ∙ r.writes;
      queued = ap (λ b. cond b (x ∷ filter (is_queue l) xs) (filter (is_queue l) xs)) k.0.1 ∙ r.queued;
    }

-- what is of another link, and what is of this one but a frame
other_mute : (l k : ℕ) (x : Shown) → (l == k) ≡ false → IsOf k x → IsMute l x
other_mute l k (Write j bytes) e h = let same : k ≡ j = cc in (ap (λ n. l == n) (sym same) ∙ e, refl)
other_mute l k (Queued j place bytes) e h = let same : k ≡ j = cc in (refl, ap (λ n. l == n) (sym same) ∙ e)
other_mute l k _ e h = (refl, refl)

mute_of : (l k : ℕ) (xs : List Shown) → (l == k) ≡ false → Each (IsOf k) xs → Mute l xs
mute_of l k xs e h = each_map (IsOf k) (IsMute l) xs (λ x. other_mute l k x e) h

mute_settles : {A : Type 0} (l : ℕ) (f : A → Shown) (xs : List A) → ((x : A) → IsMute l (f x)) → Mute l (map f xs)
mute_settles l f [] h = tt
mute_settles l f (x ∷ xs) h = (h x, mute_settles l f xs h)

mute_close : (l k : ℕ) (b : Bool) → Mute l (close k b)
mute_close l k true = ((refl, refl), tt)
mute_close l k false = tt

mute_ended : (l : ℕ) (end : End) (now : ℕ) (cause : Option Fault) (s : Seen) → Mute l (ended l end now cause s)
mute_ended l end now None s = tt
mute_ended l end now (Some cause) s =
    each_append (IsMute l) (map (lost l end now s) (ends s)) (close l (is_own_end end))
    (mute_settles l (lost l end now s) (ends s) (λ p. (refl, refl))) (mute_close l l (is_own_end end))

mute_polls : (l t : ℕ) (row : Option Member) → Mute l (option_to_list (option_map (polled t) row))
mute_polls l t None = tt
mute_polls l t (Some m) = by (reader.polled m.seen)
  where
    by : (x : Polled) → Mute l (polled_so t m.seen.topic x ∷ [])
    by (poll.Item (Given id size metadata payload)) = ((refl, refl), tt)
    by (poll.Item (Faulty fault)) = ((refl, refl), tt)
    by poll.Empty = ((refl, refl), tt)
    by poll.End = ((refl, refl), tt)

mute_plain : (l : ℕ) (xs : List Shown) → ArePlain xs → Mute l xs
mute_plain l [] k = tt
mute_plain l (Write j bytes ∷ xs) k = (let f : false ≡ true = k.0 in absurd cc)
mute_plain l (Queued j place bytes ∷ xs) k = (let f : false ≡ true = k.0 in absurd cc)
mute_plain l (x ∷ xs) k = ((refl, refl), mute_plain l xs k.1)

-- ONE LINK

record Wrote (l n : ℕ) (row : Option Seat) (ss : List Step) : Type 0 where
  places : ℕ
  left : List (List ℕ)
  whole : bytes_of (written_on l) ss ++ flat left ≡ bytes_of (queued_on l) ss
  placed : ArePlaced l places ss
  live_left : (seat : Seat) → row ≡ Some seat → left ≡ seat.seen.unwritten
  live_places : (seat : Seat) → row ≡ Some seat → places ≡ seat.seen.waits.queued
  unborn : nat_lt l n ≡ false → row ≡ None
  no_left : nat_lt l n ≡ false → left ≡ []
  no_places : nat_lt l n ≡ false → places ≡ 0

-- the newest step has these effects more
bytes_more : (f : Shown → List ℕ) (s : Step) (ss : List Step) (zs : List Shown) → bytes_of f (with_effects zs (s ∷ ss)) ≡ bytes_of f (s ∷ ss) ++ flat_map f zs
bytes_more f s ss zs =
    ap (λ bs. bytes_of f ss ++ bs) (flat_map-append f s.effects zs) ∙ sym (append_assoc (bytes_of f ss) (flat_map f s.effects) (flat_map f zs))

joined : (w q : List ℕ) (old now rest more : List (List ℕ)) → w ++ flat old ≡ q → now ++ rest ≡ old ++ more → (w ++ flat now) ++ flat rest ≡ q ++ flat more
joined w q old now rest more h e =
    append_assoc w (flat now) (flat rest)
    ∙ ap (λ bs. w ++ bs) (sym (flat_map-append (λ bytes. bytes) now rest) ∙ ap flat e ∙ flat_map-append (λ bytes. bytes) old more)
    ∙ sym (append_assoc w (flat old) (flat more)) ∙ ap (λ bs. bs ++ flat more) h

module _ (l n : ℕ) (row : Option Seat) (s : Step) (ss : List Step) (k : Wrote l n row (s ∷ ss)) (zs : List Shown) where
  whole_on : (ws fs rest : List (List ℕ)) → Shows l k.places zs ws fs → ws ++ rest ≡ k.left ++ fs →
      bytes_of (written_on l) (with_effects zs (s ∷ ss)) ++ flat rest ≡ bytes_of (queued_on l) (with_effects zs (s ∷ ss))
  whole_on ws fs rest shows e =
      ap (λ bs. bs ++ flat rest) (bytes_more (written_on l) s ss zs ∙ ap (λ bs. bytes_of (written_on l) (s ∷ ss) ++ bs) shows.writes)
      ∙ joined (bytes_of (written_on l) (s ∷ ss)) (bytes_of (queued_on l) (s ∷ ss)) k.left ws rest fs k.whole e
      ∙ sym (bytes_more (queued_on l) s ss zs ∙ ap (λ bs. bytes_of (queued_on l) (s ∷ ss) ++ bs) (shown_bytes l k.places zs ws fs shows))

  placed_next : (ws fs : List (List ℕ)) → Shows l k.places zs ws fs → ArePlaced l (k.places + length fs) (with_effects zs (s ∷ ss))
  placed_next ws fs shows = (placed_on l k.places s.effects zs ws fs k.placed.0 shows, are_more l k.places (k.places + length fs) ss (omega arith) k.placed.1)

  no_more : (xs : List (List ℕ)) → xs ≡ xs ++ []
  no_more xs = sym (append-nil xs)

  -- nothing is shown of it: it remains, or has ended
  quiet_on : Mute l zs → Wrote l n row (with_effects zs (s ∷ ss))
  quiet_on mute =
      let shows : Shows l k.places zs [] [] = mute_shows l k.places zs mute in
      let same : k.places + 0 ≡ k.places = omega arith in
      record {
        places = k.places;
        left = k.left;
        whole = whole_on [] [] k.left shows (no_more k.left);
        placed = subst (λ m. ArePlaced l m (with_effects zs (s ∷ ss))) same (placed_next [] [] shows);
        live_left = k.live_left;
        live_places = k.live_places;
        unborn = k.unborn;
        no_left = k.no_left;
        no_places = k.no_places;
      }

over_on : (l n : ℕ) (row : Option Seat) (ss : List Step) → Wrote l n row ss → Wrote l n None ss
over_on l n row ss k = record {
  places = k.places;
  left = k.left;
  whole = k.whole;
  placed = k.placed;
  live_left = λ seat h. absurd (none_some h);
  live_places = λ seat h. absurd (none_some h);
  unborn = λ lt. refl;
  no_left = k.no_left;
  no_places = k.no_places;
}

-- another number of links that were dialed
more_links : (l n : ℕ) (row : Option Seat) (ss : List Step) → Wrote l n row ss → Wrote l (n + 1) row ss
more_links l n row ss k = record {
  places = k.places;
  left = k.left;
  whole = k.whole;
  placed = k.placed;
  live_left = k.live_left;
  live_places = k.live_places;
  unborn = λ lt. k.unborn (below l n lt);
  no_left = λ lt. k.no_left (below l n lt);
  no_places = λ lt. k.no_places (below l n lt);
}
  where
    below : (l m : ℕ) → nat_lt l (m + 1) ≡ false → nat_lt l m ≡ false
    below l m h = grind (arith, nat_tests)

late : (l m : ℕ) → (l == m) ≡ true → nat_lt l m ≡ false
late l m h = grind (arith, nat_tests)

early : (l m : ℕ) → (l == m) ≡ true → nat_lt l (m + 1) ≡ false → ⊥
early l m h lt = grind (arith, nat_tests)

fresh_link : (l n : ℕ) (o : Chosen) (now : ℕ) (p : Place) (row : Option Seat) (ss : List Step) → (l == n) ≡ true → Wrote l n row ss →
    Wrote l (n + 1) (Some (dialed o n now p)) ss
fresh_link l n o now p row ss e k = record {
  places = k.places;
  left = k.left;
  whole = k.whole;
  placed = k.placed;
  live_left = λ seat h. k.no_left (late l n e) ∙ ap (λ (s : Seat). s.seen.unwritten) (some_is h);
  live_places = λ seat h. k.no_places (late l n e) ∙ ap (λ (s : Seat). s.seen.waits.queued) (some_is h);
  unborn = λ lt. absurd (early l n e lt);
  no_left = λ lt. absurd (early l n e lt);
  no_places = λ lt. absurd (early l n e lt);
}

-- one who gets it changes nothing of its connection
got_same : (l n now : ℕ) (row : Option Seat) (ss : List Step) → Wrote l n row ss → Wrote l n (option_map (seat_got now) row) ss
got_same l n now None ss k = k
got_same l n now (Some r) ss k = record {
  places = k.places;
  left = k.left;
  whole = k.whole;
  placed = k.placed;
  live_left = λ seat h. k.live_left r refl ∙ ap (λ (s : Seat). s.seen.unwritten) (some_is h);
  live_places = λ seat h. k.live_places r refl ∙ ap (λ (s : Seat). s.seen.waits.queued) (some_is h);
  unborn = λ lt. absurd (none_some (sym (k.unborn lt)));
  no_left = k.no_left;
  no_places = k.no_places;
}

got_on : (l n now : ℕ) (link : Option ℕ) (row : Option Seat) (ss : List Step) → Wrote l n row ss → Wrote l n (got_at link now l row) ss
got_on l n now None row ss k = k
got_on l n now (Some m) row ss k = either (l == m)
  where
    either : (b : Bool) → Wrote l n (cond b (option_map (seat_got now) row) row) ss
    either true = got_same l n now row ss k
    either false = k

-- and effects behind others that neither write nor queue a frame show nothing
quiet_more : (l n : ℕ) (row : Option Seat) (s : Step) (ss : List Step) (zs more : List Shown) → ArePlain more → Wrote l n row (with_effects zs (s ∷ ss)) →
    Wrote l n row (with_effects (zs ++ more) (s ∷ ss))
quiet_more l n row s ss zs more plain k =
    subst (λ es. Wrote l n row (record { event = s.event; effects = es } ∷ ss)) (append_assoc s.effects zs more)
    (quiet_on l n row (record { event = s.event; effects = s.effects ++ zs }) ss k more (mute_plain l more plain))

-- WHAT A CALL OF ITS CONNECTION SHOWS

call_turns : (start : Option Setup) (calls : List Act') (seat : Seat) (act : Act') → Made start calls seat.seen → is_close act ≡ false →
    Turns seat.seen (session.after act seat.seen) (written_in act seat.seen) (queued_in act seat.seen)
call_turns start calls seat act m c =
    let before : is_over (session.seen m.setup calls).stage ≡ false = sym (ap (λ (s : Seen). is_over s.stage) m.same) ∙ m.live in
    let after : is_over (session.seen m.setup (act ∷ calls)).stage ≡ false = over_stays act (session.seen m.setup calls) c ∙ before in
    subst (λ v. Turns v (session.after act v) (written_in act v) (queued_in act v)) (sym m.same) (turns m.setup act calls before after)

numbered_shows : (l m : ℕ) (fs : List (List ℕ)) → Shows l m (numbered l m fs) [] fs
numbered_shows l m [] = record { writes = refl; queued = refl }
numbered_shows l m (f ∷ fs) =
    let r : Shows l (suc m) (numbered l (suc m) fs) [] fs = numbered_shows l (suc m) fs in
    record {
      writes = r.writes;
      queued =
          ap (λ b. cond b (Queued l m f ∷ filter (is_queue l) (numbered l (suc m) fs)) (filter (is_queue l) (numbered l (suc m) fs))) (itself l)
          ∙ ap (λ xs. Queued l m f ∷ xs) r.queued;
    }

-- what it writes, and behind that the frames that it queues
shows_both : (l m : ℕ) (xs ys : List Shown) (ws fs : List (List ℕ)) → flat_map (written_on l) xs ≡ flat ws → filter (is_queue l) xs ≡ [] →
    ys ≡ numbered l m fs →
    Shows l m (xs ++ ys) ws fs
shows_both l m xs ys ws fs writes none is =
    let r : Shows l m (numbered l m fs) [] fs = numbered_shows l m fs in
    record {
      writes = flat_map-append (written_on l) xs ys ∙ (λ i. writes i ++ (ap (flat_map (written_on l)) is ∙ r.writes) i) ∙ append-nil (flat ws);
      queued = filter-append (is_queue l) xs ys ∙ (λ i. none i ++ (ap (filter (is_queue l)) is ∙ r.queued) i);
    }

own_write : (l : ℕ) (bytes : List ℕ) → flat_map (written_on l) (write l bytes) ≡ bytes
own_write l [] = refl
own_write l (b ∷ bytes) = ap (λ t. cond t (b ∷ bytes) [] ++ []) (itself l) ∙ append-nil (b ∷ bytes)

no_queue : (l : ℕ) (bytes : List ℕ) → filter (is_queue l) (write l bytes) ≡ []
no_queue l [] = refl
no_queue l (b ∷ bytes) = refl

module _ (l n : ℕ) (seat : Seat) (s : Step) (ss : List Step) (k : Wrote l n (Some seat) (s ∷ ss)) where
  born : {X : Type 0} → nat_lt l n ≡ false → X
  born {X} lt = absurd (none_some (sym (k.unborn lt)))

  -- a call that writes some frames, and queues some
  call_on : (act : Act') (later : Seat) (zs : List Shown) → later.seen ≡ session.after act seat.seen →
      Turns seat.seen (session.after act seat.seen) (written_in act seat.seen) (queued_in act seat.seen) →
      Shows l seat.seen.waits.queued zs (written_in act seat.seen) (queued_in act seat.seen) → Wrote l n (Some later) (with_effects zs (s ∷ ss))
  call_on act later zs is t shows =
      let v : Seen = seat.seen in
      let w : Seen = session.after act v in
      let from : Shows l k.places zs (written_in act v) (queued_in act v) = subst (λ m. Shows l m zs (written_in act v) (queued_in act v))
      (sym (k.live_places seat refl)) shows in
      record {
        places = k.places + length (queued_in act v);
        left = w.unwritten;
        whole = whole_on l n (Some seat) s ss k zs (written_in act v) (queued_in act v) w.unwritten from
            (t.moved ∙ ap (λ xs. xs ++ queued_in act v) (sym (k.live_left seat refl)));
        placed = placed_next l n (Some seat) s ss k zs (written_in act v) (queued_in act v) from;
        live_left = λ other h. ap (λ (x : Seen). x.unwritten) (sym is ∙ ap (λ (x : Seat). x.seen) (some_is h));
        live_places = λ other h.
            ap (λ m. m + length (queued_in act v)) (k.live_places seat refl) ∙ sym t.count
            ∙ ap (λ (x : Seen). x.waits.queued) (sym is ∙ ap (λ (x : Seat). x.seen) (some_is h));
        unborn = λ lt. born lt;
        no_left = λ lt. born lt;
        no_places = λ lt. born lt;
      }

  ended_on : (end : End) (now : ℕ) (cause : Option Fault) → Wrote l n (took_end cause seat) (with_effects (ended l end now cause seat.seen) (s ∷ ss))
  ended_on end now None = quiet_on l n (Some seat) s ss k [] tt
  ended_on end now (Some cause) =
      over_on l n (Some seat) (with_effects (ended l end now (Some cause) seat.seen) (s ∷ ss))
      (quiet_on l n (Some seat) s ss k (ended l end now (Some cause) seat.seen) (mute_ended l end now (Some cause) seat.seen))

  module _ (start : Option Setup) (calls : List Act') (m : Made start calls seat.seen) where
    took_on : (x : LinkAct) (now : ℕ) → Wrote l n (took x now seat) (with_effects (links.effects l x now seat.seen) (s ∷ ss))
    took_on link.Opens now =
        let t = call_turns start calls seat (Opens now) m refl in
        call_on (Opens now) _ (links.effects l link.Opens now seat.seen) refl t
        (shows_both l seat.seen.waits.queued [] (queues l seat.seen (session.after (Opens now) seat.seen)) [] (queued_in (Opens now) seat.seen) refl refl
        (t.shown l))
    took_on link.Reads now =
        let t = call_turns start calls seat (Takes now) m refl in
        let xs : List Shown = map (settles l settlement.Reply) (settled_in (came seat.seen)) in
        let r : Shows l 0 xs [] [] = mute_shows l 0 xs (mute_settles l (settles l settlement.Reply) (settled_in (came seat.seen)) (λ p. (refl, refl))) in
        call_on (Takes now) _ (links.effects l link.Reads now seat.seen) refl t
        (shows_both l seat.seen.waits.queued xs (queues l seat.seen (session.after (Takes now) seat.seen)) [] (queued_in (Takes now) seat.seen) r.writes
        r.queued (t.shown l))
    took_on (link.Drains most) now =
        let t = call_turns start calls seat (Drains most now) m refl in
        call_on (Drains most now) _ (links.effects l (link.Drains most) now seat.seen) refl t
        (shows_both l seat.seen.waits.queued (write l (flat (written most seat.seen))) (queues l seat.seen (session.after (Drains most now) seat.seen))
        (written most seat.seen)
        (queued_in (Drains most now) seat.seen) (own_write l (flat (written most seat.seen))) (no_queue l (flat (written most seat.seen))) (t.shown l))
    took_on link.Pings now =
        let t = call_turns start calls seat (Asks now SendPing) m refl in
        call_on (Asks now SendPing) _ (links.effects l link.Pings now seat.seen) refl t
        (shows_both l seat.seen.waits.queued [] (queues l seat.seen (session.after (Asks now SendPing) seat.seen)) []
        (queued_in (Asks now SendPing) seat.seen) refl refl (t.shown l))
    took_on (link.Ends end) now = ended_on end now (closed_by end now seat.seen)

    asked_on : (who : Who) (now : ℕ) (request : Words) →
        Wrote l n (Some (seat_asked who now request seat)) (with_effects (asked_at l now request (Some seat)) (s ∷ ss))
    asked_on who now request =
        let t = call_turns start calls seat (Asks now request) m refl in
        call_on (Asks now request) (seat_asked who now request seat) (asked_at l now request (Some seat)) refl t
        (shows_both l seat.seen.waits.queued [] (queues l seat.seen (session.after (Asks now request) seat.seen)) [] (queued_in (Asks now request) seat.seen)
        refl refl (t.shown l))

-- so of a row
module _ (l n : ℕ) (start : Option Setup) (calls : List Act') (s : Step) (ss : List Step) where
  this_link : (x : LinkAct) (now : ℕ) (row : Option Seat) → ((seat : Seat) → row ≡ Some seat → Made start calls seat.seen) → Wrote l n row (s ∷ ss) →
      Wrote l n (took_some x now row) (with_effects (given_at l x now row) (s ∷ ss))
  this_link x now None m k = quiet_on l n None s ss k [] tt
  this_link x now (Some seat) m k = took_on l n seat s ss k start calls (m seat refl) x now

  this_asked : (who : Who) (now : ℕ) (request : Words) (row : Option Seat) → ((seat : Seat) → row ≡ Some seat → Made start calls seat.seen) →
      Wrote l n row (s ∷ ss) →
      Wrote l n (option_map (seat_asked who now request) row) (with_effects (asked_at l now request row) (s ∷ ss))
  this_asked who now request None m k = quiet_on l n None s ss k [] tt
  this_asked who now request (Some seat) m k = asked_on l n seat s ss k start calls (m seat refl) who now request

-- ALL LINKS

abbrev Writes : Options → List Entry → Type 0
Writes o log = (l : ℕ) → Wrote l (view o log).links.started ((view o log).links.live l) (steps_done rules o log)

-- an act stands in a step
record InAStep (o : Options) (log : List Entry) : Type 0 where
  newest : Step
  older : List Step
  done : steps_done rules o log ≡ newest ∷ older

in_a_step : (o : Options) (a : Act) (log : List Entry) → IsRun o (Then a ∷ log) → InAStep o log
in_a_step o a [] run = absurd cc
in_a_step o a (Begins e ∷ log) run = record { newest = record { event = e; effects = [] }; older = steps_done rules o log; done = refl }
in_a_step o a (Then b ∷ log) run =
    let k = in_a_step o b log run.0 in
    record {
      newest = record { event = k.newest.event; effects = k.newest.effects ++ effects (view o log) b };
      older = k.older;
      done = ap (with_effects (effects (view o log) b)) k.done;
    }

module _ (o : Options) (log : List Entry) (w : Writes o log) (k : InAStep o log) where
  abbrev n : ℕ
  n = (view o log).links.started

  abbrev row : ℕ → Option Seat
  row l = (view o log).links.live l

  before : (l : ℕ) → Wrote l n (row l) (k.newest ∷ k.older)
  before l = subst (Wrote l n (row l)) k.done (w l)

  back : (l m : ℕ) (r : Option Seat) (zs : List Shown) → Wrote l m r (with_effects zs (k.newest ∷ k.older)) →
      Wrote l m r (with_effects zs (steps_done rules o log))
  back l m r zs p = subst (λ ss. Wrote l m r (with_effects zs ss)) (sym k.done) p

  mute_on : (l : ℕ) (zs : List Shown) → Mute l zs → Wrote l n (row l) (with_effects zs (steps_done rules o log))
  mute_on l zs mute = back l n (row l) zs (quiet_on l n (row l) k.newest k.older (before l) zs mute)

  to_link_on : (m : ℕ) (x : LinkAct) → Writes o (Then (Comes (ToLink m x)) ∷ log)
  to_link_on m x l =
      let now : ℕ = (view o log).now in
      let more : List Shown = retries_on (view o log).chosen (turned (view o log) (Comes (ToLink m x))) in
      let plain : ArePlain more = turned_plain (view o log).chosen (turned (view o log) (Comes (ToLink m x))) in
      subst (λ r. Wrote l n r (with_effects (given_at m x now (row m) ++ more) (steps_done rules o log))) (sym (took_is (view o log) m x l))
      (elim (cases_Bool (l == m)) [
        | inl e ↦ subst (λ b. Wrote l n (cond b (took_some x now (row l)) (row l)) (with_effects (given_at m x now (row m) ++ more) (steps_done rules o log)))
            (sym e)
            (subst (λ j. Wrote l n (took_some x now (row l)) (with_effects (given_at j x now (row j) ++ more) (steps_done rules o log))) (eqb-true l m e)
            (back l n (took_some x now (row l)) (given_at l x now (row l) ++ more)
            (quiet_more l n (took_some x now (row l)) k.newest k.older (given_at l x now (row l)) more plain
            (this_link l n _ _ k.newest k.older x now (row l) (alone o log l) (before l)))))
        | inr e ↦ subst (λ b. Wrote l n (cond b (took_some x now (row l)) (row l)) (with_effects (given_at m x now (row m) ++ more) (steps_done rules o log)))
            (sym e)
            (mute_on l (given_at m x now (row m) ++ more)
            (each_append (IsMute l) (given_at m x now (row m)) more (mute_of l m (given_at m x now (row m)) e (given_of m x now (row m)))
            (mute_plain l more plain)))
      ])

  asks_on : (who : Who) (m : ℕ) (request : Words) → Writes o (Then (Does who (Ask m request)) ∷ log)
  asks_on who m request l =
      let now : ℕ = (view o log).now in
      subst (λ r. Wrote l n r (with_effects (asked_at m now request (row m)) (steps_done rules o log))) (sym (asked_is (view o log) who m request l))
      (elim (cases_Bool (l == m)) [
        | inl e ↦ subst
            (λ b. Wrote l n (cond b (option_map (seat_asked who now request) (row l)) (row l))
            (with_effects (asked_at m now request (row m)) (steps_done rules o log))) (sym e)
            (subst (λ j. Wrote l n (option_map (seat_asked who now request) (row l)) (with_effects (asked_at j now request (row j)) (steps_done rules o log)))
            (eqb-true l m e)
            (back l n (option_map (seat_asked who now request) (row l)) (asked_at l now request (row l))
            (this_asked l n _ _ k.newest k.older who now request (row l) (alone o log l) (before l))))
        | inr e ↦ subst
            (λ b. Wrote l n (cond b (option_map (seat_asked who now request) (row l)) (row l))
            (with_effects (asked_at m now request (row m)) (steps_done rules o log))) (sym e)
            (mute_on l (asked_at m now request (row m)) (mute_of l m (asked_at m now request (row m)) e (asked_of m now request (row m))))
      ])

  gets_on : (who : Who) (p : Place) → Writes o (Then (Does who (Get p)) ∷ log)
  gets_on who p l =
      let v : View = view o log in
      let link : Option ℕ = link_got v.addresses (Does who (Get p)) in
      subst (λ r. Wrote l n r (with_effects [] (steps_done rules o log))) (sym (got_row link v.now l (row l)))
      (got_on l n v.now link (row l) (with_effects [] (steps_done rules o log)) (mute_on l [] tt))

  dials_on : (p : Place) (starter : Who) (retries : ℕ) → Writes o (Then (Dials p starter retries) ∷ log)
  dials_on p starter retries l =
      let v : View = view o log in
      let zs : List Shown = connects n p in
      let new : Option Seat = Some (dialed v.chosen n v.now p) in
      let done : Wrote l n (row l) (with_effects zs (steps_done rules o log)) = mute_on l zs (mute_plain l zs (effects_plain v (Dials p starter retries) refl))
      in
      subst (λ r. Wrote l (n + 1) r (with_effects zs (steps_done rules o log))) (sym (dialed_is v p starter retries l (row l)))
      (elim (cases_Bool (l == n)) [
        | inl e ↦ subst (λ b. Wrote l (n + 1) (cond b new (row l)) (with_effects zs (steps_done rules o log))) (sym e)
            (fresh_link l n v.chosen v.now p (row l) (with_effects zs (steps_done rules o log)) e done)
        | inr e ↦ subst (λ b. Wrote l (n + 1) (cond b new (row l)) (with_effects zs (steps_done rules o log))) (sym e)
            (more_links l n (row l) (with_effects zs (steps_done rules o log)) done)
      ])

-- an event begins a step, and feeds a piece
begun_on : (l n : ℕ) (row later : Option Seat) (e : Heard) (ss : List Step) →
    ((seat : Seat) → later ≡ Some seat →
    (old : Seat) × (row ≡ Some old) × (old.seen.unwritten ≡ seat.seen.unwritten) × (old.seen.waits.queued ≡ seat.seen.waits.queued)) →
    (row ≡ None → later ≡ None) → Wrote l n row ss → Wrote l n later (record { event = e; effects = [] } ∷ ss)
begun_on l n row later e ss was none k = record {
  places = k.places;
  left = k.left;
  whole = ap (λ bs. bs ++ flat k.left) (append-nil (bytes_of (written_on l) ss)) ∙ k.whole ∙ sym (append-nil (bytes_of (queued_on l) ss));
  placed = (record { order = tt; placed = tt }, k.placed);
  live_left = λ seat h. (let w = was seat h in k.live_left w.0 w.1 ∙ w.2);
  live_places = λ seat h. (let w = was seat h in k.live_places w.0 w.1 ∙ w.3);
  unborn = λ lt. none (k.unborn lt);
  no_left = k.no_left;
  no_places = k.no_places;
}

fed_unwritten : (piece : List ℕ) (s : Seen) → s.unwritten ≡ (session.feeds piece s).unwritten
fed_unwritten piece s =
    elim (is_open s.stage) as (λ b. s.unwritten ≡ (cond b (record s { unread = s.unread ++ piece }) s).unwritten) [ true ↦ refl | false ↦ refl ]

fed_queued : (piece : List ℕ) (s : Seen) → s.waits.queued ≡ (session.feeds piece s).waits.queued
fed_queued piece s =
    elim (is_open s.stage) as (λ b. s.waits.queued ≡ (cond b (record s { unread = s.unread ++ piece }) s).waits.queued) [ true ↦ refl | false ↦ refl ]

same_begun : (l n : ℕ) (row : Option Seat) (e : Heard) (ss : List Step) → Wrote l n row ss → Wrote l n row (record { event = e; effects = [] } ∷ ss)
same_begun l n row e ss k = begun_on l n row row e ss (λ seat h. (seat, h, refl, refl)) (λ h. h) k

fed_begun : (l n : ℕ) (piece : List ℕ) (row : Option Seat) (e : Heard) (ss : List Step) → Wrote l n row ss →
    Wrote l n (option_map (seat_fed piece) row) (record { event = e; effects = [] } ∷ ss)
fed_begun l n piece None e ss k = same_begun l n None e ss k
fed_begun l n piece (Some r) e ss k = begun_on l n (Some r) (Some (seat_fed piece r)) e ss
    (λ seat h. (
      r,
      refl,
      fed_unwritten piece r.seen ∙ ap (λ (s : Seat). s.seen.unwritten) (some_is h),
      fed_queued piece r.seen ∙ ap (λ (s : Seat). s.seen.waits.queued) (some_is h),
    ))
    (λ h. absurd (none_some (sym h))) k

live_on : (l n : ℕ) (row : Option Seat) (e : Heard) (ss : List Step) → Wrote l n row ss →
    Wrote l n (live_begun e l row) (record { event = e; effects = [] } ∷ ss)
live_on l n row (Bytes m piece) ss k =
    subst (λ r. Wrote l n r (record { event = Bytes m piece; effects = [] } ∷ ss)) (sym (fed_is m piece l row))
    (elim (l == m) as (λ b. Wrote l n (cond b (option_map (seat_fed piece) row) row) (record { event = Bytes m piece; effects = [] } ∷ ss))
    [ true ↦ fed_begun l n piece row (Bytes m piece) ss k | false ↦ same_begun l n row (Bytes m piece) ss k ])
live_on l n row e ss k = same_begun l n row e ss k

begins_on : (o : Options) (log : List Entry) (e : Heard) → Writes o log → Writes o (Begins e ∷ log)
begins_on o log e w l =
    let v : View = view o log in
    elim (is_live v e) as
    (λ b. Wrote l (cond b (begun_live e v) v).links.started ((cond b (begun_live e v) v).links.live l)
    (record { event = e; effects = [] } ∷ steps_done rules o log)) [
      | true ↦ live_on l v.links.started (v.links.live l) e (steps_done rules o log) (w l)
      | false ↦ same_begun l v.links.started (v.links.live l) e (steps_done rules o log) (w l)
    ]

writes : (o : Options) (log : List Entry) → IsRun o log → Writes o log
writes o [] run = λ l. record {
  places = 0;
  left = [];
  whole = refl;
  placed = tt;
  live_left = λ seat h. absurd (none_some h);
  live_places = λ seat h. absurd (none_some h);
  unborn = λ lt. refl;
  no_left = λ lt. refl;
  no_places = λ lt. refl;
}
writes o (Begins e ∷ log) run = begins_on o log e (writes o log run.0)
writes o (Then (Comes (ToLink m x)) ∷ log) run = to_link_on o log (writes o log run.0) (in_a_step o (Comes (ToLink m x)) log run) m x
writes o (Then (Comes (Polls t)) ∷ log) run =
    λ l. mute_on o log (writes o log run.0) (in_a_step o (Comes (Polls t)) log run) l (option_to_list (option_map (polled t) ((view o log).consumers.rows t)))
    (mute_polls l t ((view o log).consumers.rows t))
writes o (Then (Does who (Ask m request)) ∷ log) run = asks_on o log (writes o log run.0) (in_a_step o (Does who (Ask m request)) log run) who m request
writes o (Then (Does who (Get p)) ∷ log) run = gets_on o log (writes o log run.0) (in_a_step o (Does who (Get p)) log run) who p
writes o (Then (Dials p starter retries) ∷ log) run =
    dials_on o log (writes o log run.0) (in_a_step o (Dials p starter retries) log run) p starter retries
writes o (Then a ∷ log) run =
    λ l. mute_on o log (writes o log run.0) (in_a_step o a log run) l (effects (view o log) a)
    (mute_plain l (effects (view o log) a) (effects_plain (view o log) a refl))

pub writes_follow_lem : WritesFollow
writes_follow_lem o h l good =
    let w : Wrote l (view o good.log).links.started ((view o good.log).links.live l) (steps_done rules o good.log) = writes o good.log good.run l in
    subst (λ ss. IsPrefix (bytes_of (written_on l) ss) (bytes_of (queued_on l) ss)) (sym good.same) (
      flat w.left,
      ap (λ bs. bs ++ flat w.left) (written_same l (steps_done rules o good.log)) ∙ w.whole
          ∙ sym (queued_same l w.places (steps_done rules o good.log) w.placed),
    )
