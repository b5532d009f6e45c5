-- The frame of a place.
use Rattle.std.proofs.Common.{◌≡◌, ◌∙◌, sym, ap, refl, ℕ, zero, suc, ◌-◌, ◌≤◌, nat_lt, Bool, true, false, cond, List, [], ◌∷◌, ◌++◌, length, None, arith, length-append}
use Rattle.std.proofs.lemmas.Bool.Decides.{nat_tests}
use Rattle.std.specs.Prelude.{slice_get}
use Rattle.pulsar_session.specs.Link.{Seen, frame_at, seen}
use Rattle.pulsar_session.specs.Laws.{FrameOfPlace, frames_queued, frames_written}
use Rattle.pulsar_session.proofs.Settled.{places_count, written_in_order}

behind : (xs ys : List (List ℕ)) (n : ℕ) → length xs ≤ n → slice_get (xs ++ ys) n ≡ slice_get ys (n - length xs)
behind [] ys n le = let same : n - 0 ≡ n = omega arith in ap (slice_get ys) (sym same)
behind (x ∷ xs) ys zero le = absurd (omega (arith, le))
behind (x ∷ xs) ys (suc n) le =
    let less : length xs ≤ n = omega (arith, le) in
    let same : n - length xs ≡ suc n - suc (length xs) = omega (arith, less) in
    behind xs ys n less ∙ ap (slice_get ys) same

pub frame_of_place : FrameOfPlace
frame_of_place s h place over = by (nat_lt place (length w)) refl
  where
    v : Seen
    v = seen s h

    w : List (List ℕ)
    w = frames_written s h

    first : v.waits.queued - length v.unwritten ≡ length w
    first =
        let count = places_count s h over in
        let all = ap length (written_in_order s h over) in
        let len = length-append w v.unwritten in
        omega (arith, count, all, len)

    by : (b : Bool) → nat_lt place (length w) ≡ b → frame_at place v ≡ cond (nat_lt place (length w)) None (slice_get (frames_queued s h) place)
    by true e = ap (λ n. cond (nat_lt place n) None (slice_get v.unwritten (place - n))) first ∙ ap (λ b. cond b None (slice_get v.unwritten (place - length w))) e ∙ sym (ap (λ b. cond b None (slice_get (frames_queued s h) place)) e)
    by false e =
        let le : length w ≤ place = grind (arith, nat_tests) in
        ap (λ n. cond (nat_lt place n) None (slice_get v.unwritten (place - n))) first ∙ ap (λ b. cond b None (slice_get v.unwritten (place - length w))) e
        ∙ sym (behind w v.unwritten place le) ∙ ap (λ x. slice_get x place) (written_in_order s h over)
        ∙ sym (ap (λ b. cond b None (slice_get (frames_queued s h) place)) e)
