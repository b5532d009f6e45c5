-- The numbers of a topic producer's messages.
use Rattle.std.proofs.Common.{◌≡◌, ◌∙◌, sym, ap, refl, ℕ, ◌+◌, ◌≤◌, add-zero, Bool, true, false, cond, List, [], ◌∷◌, ◌++◌, Option, Some, None, arith}
use Rattle.std.specs.Option.{is_some}
use Rattle.pulsar_messages.specs.Claims.{is_spent}
use Rattle.pulsar_outgoing.specs.Storage.{SingleMessage}
use Rattle.pulsar_outgoing.specs.declared.multi_topic.Taker.{Taker}
use Rattle.pulsar_producer.specs.Topic.{Act, Takes, Draws, Stores, Flushes, Cuts, TakesBatch, Seen, Setup, after, drawn, passes, seen, takes_in}
use Rattle.pulsar_producer.specs.Laws.{NumbersCount, NumbersRise, RefusedSpendsItsNumber, draws_of, given_by}
use Rattle.pulsar_producer.proofs.Untouched.{stores_keeps, flushes_keeps, cuts_keeps, takes_batch_keeps}

takes_next : (o : Option Taker) (t : Taker) (v : Seen) → (takes_in o t v).next ≡ v.next
takes_next None t v = refl
takes_next (Some other) t v = refl

draws_next : (b : Bool) (v : Seen) → (cond b v (record v { next = v.next + 1 })).next ≡ v.next + cond (is_some (cond b None (Some v.next))) 1 0
draws_next true v = sym (add-zero v.next)
draws_next false v = refl

-- the next number rises by how many an act draws
next_after : (act : Act) (v : Seen) → (after act v).next ≡ v.next + given_by act v
next_after (Takes t) v = takes_next v.holder t v ∙ sym (add-zero v.next)
next_after Draws v = draws_next (is_spent v.next) v
next_after (Stores t e) v = (stores_keeps (SingleMessage t e) v).0 ∙ sym (add-zero v.next)
next_after (Flushes t) v = (flushes_keeps t v).0 ∙ sym (add-zero v.next)
next_after Cuts v = (cuts_keeps v).0 ∙ sym (add-zero v.next)
next_after TakesBatch v = (takes_batch_keeps v.cut v).0 ∙ sym (add-zero v.next)
next_after _ v = sym (add-zero v.next)

-- so it never gets less
pub next_rises : (act : Act) (v : Seen) → v.next ≤ (after act v).next
next_rises act v = let one = next_after act v in omega (arith, one)

next_of : (s : Setup) (h : List Act) → (seen s h).next ≡ s.first_number + draws_of s h
next_of s [] = sym (add-zero s.first_number)
next_of s (act ∷ h) =
    let one = next_after act (seen s h) in
    let all = next_of s h in
    omega (arith, one, all)

grows : (s : Setup) (later h : List Act) → (seen s h).next ≤ (seen s (later ++ h)).next
grows s [] h = omega arith
grows s (act ∷ later) h =
    let all = grows s later h in
    let one = next_rises act (seen s (later ++ h)) in
    omega (arith, all, one)

drawn_by : (b : Bool) (v : Seen) (n : ℕ) → is_spent v.next ≡ b → cond b None (Some v.next) ≡ Some n → (is_spent v.next ≡ false) × (v.next ≡ n)
drawn_by true v n e h = absurd cc
drawn_by false v n e h = (e, cc)

drawn_is : (v : Seen) (n : ℕ) → drawn v ≡ Some n → (is_spent v.next ≡ false) × (v.next ≡ n)
drawn_is v n h = drawn_by (is_spent v.next) v n refl h

one_more : (v : Seen) → is_spent v.next ≡ false → (after Draws v).next ≡ v.next + 1
one_more v e = ap (λ b. (cond b v (record v { next = v.next + 1 })).next) e

pub numbers_rise : NumbersRise
numbers_rise s later h m n first second =
    let a = drawn_is (seen s h) m first in
    let b = drawn_is (seen s (later ++ Draws ∷ h)) n second in
    let up = grows s later (Draws ∷ h) in
    let one = one_more (seen s h) a.0 in
    let is_m = a.1 in
    let is_n = b.1 in
    omega (arith, is_m, is_n, up, one)

pub numbers_count : NumbersCount
numbers_count s h n is = sym ((drawn_is (seen s h) n is).1) ∙ next_of s h

pub refused_spends : RefusedSpendsItsNumber
refused_spends s h n is =
    let v = seen s h in
    let d = drawn_is v n is in
    ap (λ b. passes (cond b v (record v { next = v.next + 1 }))) d.0 ∙ ap (λ k. record (passes v) { next = k + 1 }) d.1
