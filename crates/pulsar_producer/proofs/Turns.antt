-- Turns at a topic producer.
use Rattle.std.proofs.Common.{◌≡◌, ◌∙◌, sym, ap, refl, subst, ℕ, ◌<◌, ◌==◌, ◌&&◌, ◌||◌, nat_lt, Bool, true, false, cond, List, [], ◌∷◌, ◌++◌, Option, Some, None, append_assoc, append-nil, arith}
use Rattle.std.proofs.lemmas.Bool.{eq-eqb}
use Rattle.std.proofs.lemmas.Bool.Decides.{nat_tests}
use Rattle.std.specs.List.{list_all}
use Rattle.std.specs.Option.{is_none, option_to_list}
use Rattle.std.specs.Ordering.{match_ordering}
use Rattle.std.specs.declared.cmp.Ordering.TheVariants.{Less, Equal, Greater}
use Rattle.pulsar_messages.specs.Claims.{is_spent}
use Rattle.pulsar_outgoing.specs.Storage.{SingleMessage}
use Rattle.pulsar_outgoing.specs.declared.multi_topic.Taker.{Taker}
use Rattle.pulsar_outgoing.specs.declared.multi_topic.Taker.TheVariants.{Call, Copy}
use Rattle.pulsar_producer.specs.Topic.{Act, Takes, Passes, Draws, Stores, Flushes, Cuts, TakesBatch, Seen, Setup, after, is_free, seen, takes_in}
use Rattle.pulsar_producer.specs.Turns.{first_of, placed, queued, rest_of}
use Rattle.pulsar_producer.specs.Laws.{AreAbove, Ascend, FirstComeFirstServed, FirstIsNext, LowestIsNext, NobodyWaitsForFree, OneAtATime, WaitsInLine, gives_turn, is_listed, is_taker, keeps, served, takers, tickets, turn_if}
use Rattle.pulsar_producer.proofs.Waiting.{AreBelow, placed_last}
use Rattle.pulsar_producer.proofs.Untouched.{stores_keeps, flushes_keeps, cuts_keeps, takes_batch_keeps}

-- THE TURN STAYS, and those that wait for it, but where it is taken or passed on

abbrev pub leaves_turn : Act → Bool
leaves_turn (Takes t) = false
leaves_turn Passes = false
leaves_turn _ = true

abbrev pub SameTurn : Seen → Seen → Type 0
SameTurn v w = (w.holder ≡ v.holder) × (w.waiting ≡ v.waiting)

draws_stays : (b : Bool) (v w : Seen) → SameTurn v w → SameTurn v (cond b v w)
draws_stays true v w k = (refl, refl)
draws_stays false v w k = k

pub turn_stays : (act : Act) (v : Seen) → leaves_turn act ≡ true → SameTurn v (after act v)
turn_stays (Takes t) v h = absurd cc
turn_stays Passes v h = absurd cc
turn_stays Draws v h = draws_stays (is_spent v.next) v _ (refl, refl)
turn_stays (Stores t e) v h = let k = stores_keeps (SingleMessage t e) v in (k.1, k.2)
turn_stays (Flushes t) v h = let k = flushes_keeps t v in (k.1, k.2)
turn_stays Cuts v h = let k = cuts_keeps v in (k.1, k.2)
turn_stays TakesBatch v h = let k = takes_batch_keeps v.cut v in (k.1, k.2)
turn_stays _ v h = (refl, refl)

-- THE TICKETS OF THOSE WHO WAIT RISE

above_more : (k x : ℕ) (xs : List ℕ) → k < x → AreAbove x xs → AreAbove k xs
above_more k x [] lt all = tt
above_more k x (y ∷ ys) lt all = let up = all.0 in (omega (arith, lt, up), above_more k x ys lt all.1)

above_placed : (t k : ℕ) (xs : List Taker) → t < k → AreAbove t (tickets xs) → AreAbove t (tickets (placed k xs))
above_placed t k [] lt all = (lt, tt)
above_placed t k (Copy consumer ticket key ∷ xs) lt all = above_placed t k xs lt all
above_placed t k (Call x ∷ xs) lt all = by (nat_lt k x) (k == x) (above_placed t k xs lt all.1)
  where
    by : (a b : Bool) → AreAbove t (tickets (placed k xs))
        → AreAbove t (tickets (match_ordering (cond a Less (cond b Equal Greater)) (Call k ∷ Call x ∷ xs) (Call x ∷ xs) (Call x ∷ placed k xs)))
    by true b more = (lt, all)
    by false true more = all
    by false false more = (all.0, more)

ascend_placed : (k : ℕ) (xs : List Taker) → Ascend (tickets xs) → Ascend (tickets (placed k xs))
ascend_placed k [] all = (tt, tt)
ascend_placed k (Copy consumer ticket key ∷ xs) all = ascend_placed k xs all
ascend_placed k (Call x ∷ xs) all = by (nat_lt k x) refl (k == x) refl (ascend_placed k xs all.1)
  where
    by : (a : Bool) → nat_lt k x ≡ a → (b : Bool) → (k == x) ≡ b → Ascend (tickets (placed k xs))
        → Ascend (tickets (match_ordering (cond a Less (cond b Equal Greater)) (Call k ∷ Call x ∷ xs) (Call x ∷ xs) (Call x ∷ placed k xs)))
    by true e b f more = let lt : k < x = grind (arith, nat_tests) in ((lt, above_more k x (tickets xs) lt all.0), all)
    by false e true f more = all
    by false e false f more = let gt : x < k = grind (arith, nat_tests) in (above_placed x k xs gt all.0, more)

tickets_append : (xs ys : List Taker) → tickets (xs ++ ys) ≡ tickets xs ++ tickets ys
tickets_append [] ys = refl
tickets_append (Call t ∷ xs) ys = ap (λ ts. t ∷ ts) (tickets_append xs ys)
tickets_append (Copy consumer ticket key ∷ xs) ys = tickets_append xs ys

ascend_queued : (t : Taker) (xs : List Taker) → Ascend (tickets xs) → Ascend (tickets (queued t xs))
ascend_queued (Call t) xs all = ascend_placed t xs all
ascend_queued (Copy consumer ticket key) xs all = subst Ascend (sym (tickets_append xs (Copy consumer ticket key ∷ []) ∙ append-nil (tickets xs))) all

ascend_rest : (xs : List Taker) → Ascend (tickets xs) → Ascend (tickets (rest_of xs))
ascend_rest [] all = tt
ascend_rest (Call x ∷ xs) all = all.1
ascend_rest (Copy consumer ticket key ∷ xs) all = all

takes_ascend : (o : Option Taker) (t : Taker) (v : Seen) → Ascend (tickets v.waiting) → Ascend (tickets (takes_in o t v).waiting)
takes_ascend None t v all = all
takes_ascend (Some other) t v all = ascend_queued t v.waiting all

abbrev Rises : List Taker → Type 0
Rises ts = Ascend (tickets ts)

rises_after : (act : Act) (v : Seen) → Rises v.waiting → Rises (after act v).waiting
rises_after (Takes t) v all = takes_ascend v.holder t v all
rises_after Passes v all = ascend_rest v.waiting all
rises_after act v all = subst Rises (sym (turn_stays act v refl).1) all

rises : (s : Setup) (h : List Act) → Rises (seen s h).waiting
rises s [] = tt
rises s (act ∷ h) = rises_after act (seen s h) (rises s h)

lowest : (ts : List Taker) (t : ℕ) → Rises ts → first_of ts ≡ Some (Call t) → AreAbove t (tickets (rest_of ts)) × (ts ≡ Call t ∷ rest_of ts)
lowest [] t all is = absurd cc
lowest (Call u ∷ us) t all is = let same : u ≡ t = cc in (subst (λ k. AreAbove k (tickets us)) same all.0, ap (λ k. Call k ∷ us) same)
lowest (Copy consumer ticket key ∷ us) t all is = absurd cc

pub lowest_is_next : LowestIsNext
lowest_is_next s h t is = lowest (seen s h).waiting t (rises s h) is

first : (ts : List Taker) (t : Taker) → first_of ts ≡ Some t → ts ≡ t ∷ rest_of ts
first [] t is = absurd cc
first (u ∷ us) t is = let same : u ≡ t = cc in ap (λ k. k ∷ us) same

pub first_is_next : FirstIsNext
first_is_next s h t is = first (seen s h).waiting t is

-- ONE WAITS

or_true : (a b : Bool) → b ≡ true → (a || b) ≡ true
or_true true b e = refl
or_true false b e = e

same_taker : (t : Taker) → is_taker t t ≡ true
same_taker (Call t) = eq-eqb t t refl
same_taker (Copy consumer ticket key) = ap (λ b. b && (key == key)) (eq-eqb consumer consumer refl) ∙ eq-eqb key key refl

listed_placed : (t : ℕ) (xs : List Taker) → is_listed (Call t) (placed t xs) ≡ true
listed_placed t [] = ap (λ b. b || false) (eq-eqb t t refl)
listed_placed t (Copy consumer ticket key ∷ xs) = listed_placed t xs
listed_placed t (Call x ∷ xs) = by (nat_lt t x) (t == x) refl (listed_placed t xs)
  where
    by : (a b : Bool) → (t == x) ≡ b → is_listed (Call t) (placed t xs) ≡ true
        → is_listed (Call t) (match_ordering (cond a Less (cond b Equal Greater)) (Call t ∷ Call x ∷ xs) (Call x ∷ xs) (Call x ∷ placed t xs)) ≡ true
    by true b f more = ap (λ c. c || is_listed (Call t) (Call x ∷ xs)) (eq-eqb t t refl)
    by false true f more = ap (λ c. c || is_listed (Call t) xs) f
    by false false f more = or_true (t == x) (is_listed (Call t) (placed t xs)) more

listed_last : (t : Taker) (xs : List Taker) → is_listed t (xs ++ t ∷ []) ≡ true
listed_last t [] = ap (λ b. b || false) (same_taker t)
listed_last t (x ∷ xs) = or_true (is_taker t x) (is_listed t (xs ++ t ∷ [])) (listed_last t xs)

listed_new : (t : Taker) (xs : List Taker) → is_listed t (queued t xs) ≡ true
listed_new (Call t) xs = listed_placed t xs
listed_new (Copy consumer ticket key) xs = listed_last (Copy consumer ticket key) xs

taken_waits : (o : Option Taker) (t : Taker) (v : Seen) → is_none o ≡ false → is_listed t (takes_in o t v).waiting ≡ true
taken_waits None t v e = absurd cc
taken_waits (Some other) t v e = listed_new t v.waiting

pub waits_in_line : WaitsInLine
waits_in_line s h t e = taken_waits (seen s h).holder t (seen s h) e

-- ONE HAS IT

takes_keeps : (o : Option Taker) (u t : Taker) (v : Seen) → o ≡ Some t → v.holder ≡ Some t → (takes_in o u v).holder ≡ Some t
takes_keeps None u t v e f = absurd cc
takes_keeps (Some other) u t v e f = f

keeps_holder : (act : Act) (v : Seen) (t : Taker) → keeps act ≡ true → v.holder ≡ Some t → (after act v).holder ≡ Some t
keeps_holder (Takes u) v t k e = takes_keeps v.holder u t v e e
keeps_holder Passes v t k e = absurd cc
keeps_holder act v t k e = (turn_stays act v refl).0 ∙ e

not_given : (o : Option Taker) (u t : Taker) → o ≡ Some t → turn_if o u ≡ None
not_given None u t e = absurd cc
not_given (Some other) u t e = refl

gives_none : (act : Act) (v : Seen) (t : Taker) → keeps act ≡ true → v.holder ≡ Some t → gives_turn act v ≡ None
gives_none (Takes u) v t k e = not_given v.holder u t e
gives_none Passes v t k e = absurd cc
gives_none act v t k e = refl

both : (a b : Bool) → (a && b) ≡ true → (a ≡ true) × (b ≡ true)
both true b e = (refl, e)
both false b e = absurd cc

holds : (s : Setup) (later h : List Act) (t : Taker) → (seen s h).holder ≡ Some t → list_all keeps later ≡ true → (seen s (later ++ h)).holder ≡ Some t
holds s [] h t e k = e
holds s (act ∷ later) h t e k =
    let two = both (keeps act) (list_all keeps later) k in
    keeps_holder act (seen s (later ++ h)) t two.0 (holds s later h t e two.1)

pub one_at_a_time : OneAtATime
one_at_a_time s later h t e k =
    let still = holds s later h t e k in (still, λ act a. gives_none act (seen s (later ++ h)) t a still)

-- NOBODY WAITS FOR A FREE TURN

takes_free : (o : Option Taker) (t : Taker) (v : Seen) → v.holder ≡ o → is_none (takes_in o t v).holder ≡ true → (takes_in o t v).waiting ≡ []
takes_free None t v e f = absurd cc
takes_free (Some other) t v e f = absurd (let no : is_none (Some other) ≡ true = ap is_none (sym e) ∙ f in cc)

passes_free : (ts : List Taker) → is_none (first_of ts) ≡ true → rest_of ts ≡ []
passes_free [] e = refl
passes_free (t ∷ ts) e = absurd cc

free_after : (act : Act) (v : Seen) → (is_free v ≡ true → v.waiting ≡ []) → is_free (after act v) ≡ true → (after act v).waiting ≡ []
free_after (Takes t) v all free = takes_free v.holder t v refl free
free_after Passes v all free = passes_free v.waiting free
free_after act v all free = let k = turn_stays act v refl in k.1 ∙ all (ap is_none (sym k.0) ∙ free)

pub nobody_waits_for_free : NobodyWaitsForFree
nobody_waits_for_free s [] free = refl
nobody_waits_for_free s (act ∷ h) free = free_after act (seen s h) (nobody_waits_for_free s h) free

-- FIRST COME, FIRST SERVED

below_of : (t x : ℕ) (xs : List ℕ) → AreAbove x (xs ++ t ∷ []) → AreAbove x xs × (x < t)
below_of t x [] all = (tt, all.0)
below_of t x (y ∷ ys) all = let more = below_of t x ys all.1 in ((all.0, more.0), more.1)

ascend_last : (t : ℕ) (xs : List ℕ) → Ascend (xs ++ t ∷ []) → Ascend xs × AreBelow t xs
ascend_last t [] all = (tt, tt)
ascend_last t (x ∷ xs) all =
    let here = below_of t x xs all.0 in let more = ascend_last t xs all.1 in ((here.0, more.0), (here.1, more.1))

below_append : (t : ℕ) (xs ys : List ℕ) → AreBelow t (xs ++ ys) → AreBelow t ys
below_append t [] ys all = all
below_append t (x ∷ xs) ys all = below_append t xs ys all.1

-- what has come so far rises, and a call that comes is above all of it
came_before : (t : Taker) (ts : List Taker) → Ascend (tickets (ts ++ t ∷ [])) → Ascend (tickets ts)
came_before (Call t) ts all = (ascend_last t (tickets ts) (subst Ascend (tickets_append ts (Call t ∷ [])) all)).0
came_before (Copy consumer ticket key) ts all = subst Ascend (tickets_append ts (Copy consumer ticket key ∷ []) ∙ append-nil (tickets ts)) all

-- so it goes behind those who wait
goes_last : (t : Taker) (gone ws ts : List Taker) → gone ++ ws ≡ ts → Ascend (tickets (ts ++ t ∷ [])) → queued t ws ≡ ws ++ t ∷ []
goes_last (Copy consumer ticket key) gone ws ts is all = refl
goes_last (Call t) gone ws ts is all =
    let below : AreBelow t (tickets ts) = (ascend_last t (tickets ts) (subst Ascend (tickets_append ts (Call t ∷ [])) all)).1 in
    placed_last t ws (below_append t (tickets gone) (tickets ws) (subst (AreBelow t) (sym (ap tickets is) ∙ tickets_append gone ws) below))

line_takes : (o : Option Taker) (t : Taker) (v : Seen) → v.holder ≡ o → (is_free v ≡ true → v.waiting ≡ []) → queued t v.waiting ≡ v.waiting ++ t ∷ []
    → option_to_list (turn_if o t) ++ (takes_in o t v).waiting ≡ v.waiting ++ t ∷ []
line_takes None t v e free last = let nobody = free (ap is_none e) in ap (λ ts. t ∷ ts) nobody ∙ sym (ap (λ ts. ts ++ t ∷ []) nobody)
line_takes (Some other) t v e free last = last

line_passes : (ts : List Taker) → option_to_list (first_of ts) ++ rest_of ts ≡ ts
line_passes [] = refl
line_passes (t ∷ ts) = refl

-- an act that brings nobody into the line: who is given the turn by it, and who waits then, are those who waited
goes_on : (before g ws ws' ts : List Taker) → g ++ ws' ≡ ws → before ++ ws ≡ ts → (before ++ g) ++ ws' ≡ ts ++ []
goes_on before g ws ws' ts e f = append_assoc before g ws' ∙ ap (λ us. before ++ us) e ∙ f ∙ sym (append-nil ts)

stays_on : (before ws ws' ts : List Taker) → ws' ≡ ws → before ++ ws ≡ ts → (before ++ []) ++ ws' ≡ ts ++ []
stays_on before ws ws' ts e f = goes_on before [] ws ws' ts e f

came_same : (ts : List Taker) → Ascend (tickets (ts ++ [])) → Ascend (tickets ts)
came_same ts all = subst (λ us. Ascend (tickets us)) (append-nil ts) all

pub first_come_first_served : FirstComeFirstServed
first_come_first_served s [] all = refl
first_come_first_served s (Takes t ∷ h) all =
    let v = seen s h in
    let before : served s h ++ v.waiting ≡ takers h = first_come_first_served s h (came_before t (takers h) all) in
    append_assoc (served s h) (option_to_list (turn_if v.holder t)) (takes_in v.holder t v).waiting
    ∙ ap (λ ts. served s h ++ ts) (line_takes v.holder t v refl (nobody_waits_for_free s h) (goes_last t (served s h) v.waiting (takers h) before all))
    ∙ sym (append_assoc (served s h) v.waiting (t ∷ []))
    ∙ ap (λ ts. ts ++ t ∷ []) before
first_come_first_served s (Passes ∷ h) all =
    let v = seen s h in
    goes_on (served s h) (option_to_list (first_of v.waiting)) v.waiting (rest_of v.waiting) (takers h) (line_passes v.waiting)
    (first_come_first_served s h (came_same (takers h) all))
first_come_first_served s (act ∷ h) all =
    stays_on (served s h) (seen s h).waiting (after act (seen s h)).waiting (takers h) (turn_stays act (seen s h) refl).1
    (first_come_first_served s h (came_same (takers h) all))
