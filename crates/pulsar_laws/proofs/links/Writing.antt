-- What a call of a connection writes, and what it queues: by the laws of every history of a connection.
use Rattle.std.proofs.Common.{◌≡◌, ◌∙◌, sym, ap, ℕ, zero, suc, ◌+◌, ◌-◌, ◌≤◌, List, [], ◌∷◌, ◌++◌, refl, arith, length, false, cond, nat_lt, None, append_assoc, length-append, length-drop, slice_get}
use Rattle.std.proofs.lemmas.Bool.Decides.{nat_tests}
use Rattle.std.proofs.lemmas.List.{append_cancel_left}
use Rattle.std.specs.List.{cons_option, filter_map}
use Rattle.std.specs.Option.{option_map}
use Rattle.pulsar_laws.proofs.ActWords.{numbers_from, Queued, Shown}
use Rattle.pulsar_session.specs.Laws.{frames_queued, frames_written, left_in, queued_in, written_in}
use Rattle.pulsar_session.specs.Link.{Act, Seen, Setup, frame_at, is_over, seen}
use Rattle.pulsar_session.proofs.Placing.{frame_of_place}
use Rattle.pulsar_session.proofs.Settled.{places_count, written_in_order}
use Rattle.pulsar_links.specs.Links.{queues, queues_at}

-- frames that are queued one after the other, from a place on
abbrev pub numbered : (link place : ℕ) → List (List ℕ) → List Shown
numbered l place [] = []
numbered l place (f ∷ fs) = Queued l place f ∷ numbered l (suc place) fs

-- a call writes the first of what is unwritten, and queues some frames behind it
pub record Turns (v w : Seen) (written queued : List (List ℕ)) : Type 0 where
  pub moved : written ++ w.unwritten ≡ v.unwritten ++ queued
  pub count : w.waits.queued ≡ v.waits.queued + length queued
  pub shown : (l : ℕ) → queues l v w ≡ numbered l v.waits.queued queued

behind : (xs ys : List (List ℕ)) (n : ℕ) → length xs ≤ n → slice_get (xs ++ ys) n ≡ slice_get ys (n - length xs)
behind [] ys n le = let same : n - 0 ≡ n = omega arith in ap (slice_get ys) (sym same)
behind (x ∷ xs) ys zero le = absurd (omega (arith, le))
behind (x ∷ xs) ys (suc n) le =
    let less : length xs ≤ n = omega (arith, le) in
    let same : n - length xs ≡ suc n - suc (length xs) = omega (arith, less) in
    behind xs ys n less ∙ ap (slice_get ys) same

shown_from : (l first : ℕ) (w : Seen) (fs : List (List ℕ)) → ((i place : ℕ) → place ≡ first + i → frame_at place w ≡ slice_get fs i) →
    filter_map (queues_at l w) (numbers_from first (length fs)) ≡ numbered l first fs
shown_from l first w [] at = refl
shown_from l first w (f ∷ fs) at =
    ap (λ o. cons_option (option_map (Queued l first) o) (filter_map (queues_at l w) (numbers_from (suc first) (length fs)))) (at zero first (omega arith))
    ∙ ap (λ xs. Queued l first f ∷ xs) (shown_from l (suc first) w fs (λ i place e. at (suc i) place (omega (arith, e))))

module _ (s : Setup) (act : Act) (h : List Act) (before : is_over (seen s h).stage ≡ false) (after : is_over (seen s (act ∷ h)).stage ≡ false) where
  abbrev v : Seen
  v = seen s h

  abbrev w : Seen
  w = seen s (act ∷ h)

  moved : written_in act v ++ w.unwritten ≡ v.unwritten ++ queued_in act v
  moved = append_cancel_left (frames_written s h) (written_in act v ++ w.unwritten) (v.unwritten ++ queued_in act v)
      (sym (append_assoc (frames_written s h) (written_in act v) w.unwritten)
      ∙ written_in_order s (act ∷ h) after
      ∙ ap (λ xs. xs ++ queued_in act v) (sym (written_in_order s h before))
      ∙ append_assoc (frames_written s h) v.unwritten (queued_in act v))

  count : w.waits.queued ≡ v.waits.queued + length (queued_in act v)
  count =
      let now = places_count s (act ∷ h) after in
      let old = places_count s h before in
      let len = length-append (frames_queued s h) (queued_in act v) in
      omega (arith, now, old, len)

  -- what is written was queued before
  written_before : length (frames_written s (act ∷ h)) ≤ length (frames_queued s h)
  written_before =
      let all = ap length (written_in_order s (act ∷ h) after) in
      let left = length-append (frames_written s (act ∷ h)) w.unwritten in
      let right = length-append (frames_queued s h) (queued_in act v) in
      let rest = length-drop (length (left_in act v)) w.unwritten in
      omega (arith, all, left, right, rest)

  frame_is : (i place : ℕ) → place ≡ v.waits.queued + i → frame_at place w ≡ slice_get (queued_in act v) i
  frame_is i place e =
      let old = places_count s h before in
      let some = written_before in
      let late : nat_lt place (length (frames_written s (act ∷ h))) ≡ false = not_before place (length (frames_written s (act ∷ h)))
      (omega (arith, old, some, e)) in
      let at : place - length (frames_queued s h) ≡ i = omega (arith, old, e) in
      frame_of_place s (act ∷ h) place after
      ∙ ap (λ b. cond b None (slice_get (frames_queued s (act ∷ h)) place)) late
      ∙ behind (frames_queued s h) (queued_in act v) place (omega (arith, old, e))
      ∙ ap (slice_get (queued_in act v)) at
    where
      not_before : (a b : ℕ) → b ≤ a → nat_lt a b ≡ false
      not_before a b le = grind (arith, nat_tests)

  pub turns : Turns v w (written_in act v) (queued_in act v)
  turns = record {
    moved = moved;
    count = count;
    shown = λ l.
        let more : w.waits.queued - v.waits.queued ≡ length (queued_in act v) = (let c = count in omega (arith, c)) in
        ap (λ n. filter_map (queues_at l w) (numbers_from v.waits.queued n)) more ∙ shown_from l v.waits.queued w (queued_in act v) frame_is;
  }
