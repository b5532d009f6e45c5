-- Turns at a producer of many topics.
use Rattle.std.proofs.Common.{◌≡◌, ◌∙◌, sym, ap, refl, ℕ, ◌&&◌, Bool, true, false, List, [], ◌∷◌, ◌++◌, Option, Some, None, append_assoc}
use Rattle.std.specs.List.{list_all}
use Rattle.std.specs.Option.{is_none, option_to_list}
use Rattle.pulsar_messages.specs.Content.{ProducerOptionsValues}
use Rattle.pulsar_producer.specs.MultiLaws.{FirstComeFirstServed, MultiNobodyWaitsForFree, MultiOneAtATime, gives_turn, keeps, served, takers, turn_if}
use Rattle.pulsar_producer.specs.MultiTopic.{Act, Takes, Passes, Hands, Joins, Removes, Seen, after, is_free, seen, takes_in}
use Rattle.pulsar_producer.specs.Turns.{first_of, rest_of}
use Rattle.pulsar_outgoing.specs.declared.multi_topic.Taker.{Taker}

-- NOBODY WAITS FOR A FREE TURN

takes_free : (o : Option Taker) (t : Taker) (v : Seen) → v.holder ≡ o → is_none (takes_in o t v).holder ≡ true → (takes_in o t v).waiting ≡ []
takes_free None t v e f = absurd cc
takes_free (Some other) t v e f = absurd (let no : is_none (Some other) ≡ true = ap is_none (sym e) ∙ f in cc)

passes_free : (ts : List Taker) → is_none (first_of ts) ≡ true → rest_of ts ≡ []
passes_free [] e = refl
passes_free (t ∷ ts) e = absurd cc

free_after : (act : Act) (v : Seen) → (is_free v ≡ true → v.waiting ≡ []) → is_free (after act v) ≡ true → (after act v).waiting ≡ []
free_after (Takes t) v all free = takes_free v.holder t v refl free
free_after Passes v all free = passes_free v.waiting free
free_after (Hands topic m) v all free = all free
free_after (Joins topic p) v all free = all free
free_after (Removes topic) v all free = all free

pub multi_nobody_waits : MultiNobodyWaitsForFree
multi_nobody_waits name o [] free = refl
multi_nobody_waits name o (act ∷ h) free = free_after act (seen name o h) (multi_nobody_waits name o h) free

-- FIRST COME, FIRST SERVED

-- the one that an act gives the turn, and those who wait behind that
abbrev line : Act → Seen → List Taker
line act v = option_to_list (gives_turn act v) ++ (after act v).waiting

line_takes : (o : Option Taker) (t : Taker) (v : Seen) → v.holder ≡ o → (is_free v ≡ true → v.waiting ≡ []) →
    option_to_list (turn_if o t) ++ (takes_in o t v).waiting ≡ v.waiting ++ t ∷ []
line_takes None t v e all = let nobody = all (ap is_none e) in ap (λ ts. t ∷ ts) nobody ∙ sym (ap (λ ts. ts ++ t ∷ []) nobody)
line_takes (Some other) t v e all = refl

line_passes : (ts : List Taker) → option_to_list (first_of ts) ++ rest_of ts ≡ ts
line_passes [] = refl
line_passes (t ∷ ts) = refl

-- an act that brings nobody into the line
goes_on : (before g ws ws' : List Taker) (all : List Taker) → g ++ ws' ≡ ws → before ++ ws ≡ all → (before ++ g) ++ ws' ≡ all
goes_on before g ws ws' all e f = append_assoc before g ws' ∙ ap (λ ts. before ++ ts) e ∙ f

pub first_come_first_served : FirstComeFirstServed
first_come_first_served name o [] = refl
first_come_first_served name o (Takes t ∷ h) =
    let v = seen name o h in
    append_assoc (served name o h) (option_to_list (turn_if v.holder t)) (takes_in v.holder t v).waiting
    ∙ ap (λ ts. served name o h ++ ts) (line_takes v.holder t v refl (multi_nobody_waits name o h))
    ∙ sym (append_assoc (served name o h) v.waiting (t ∷ []))
    ∙ ap (λ ts. ts ++ t ∷ []) (first_come_first_served name o h)
first_come_first_served name o (Passes ∷ h) =
    let v = seen name o h in
    goes_on (served name o h) (option_to_list (first_of v.waiting)) v.waiting (rest_of v.waiting) (takers h) (line_passes v.waiting)
    (first_come_first_served name o h)
first_come_first_served name o (Hands topic m ∷ h) =
    let v = seen name o h in goes_on (served name o h) [] v.waiting v.waiting (takers h) refl (first_come_first_served name o h)
first_come_first_served name o (Joins topic p ∷ h) =
    let v = seen name o h in goes_on (served name o h) [] v.waiting v.waiting (takers h) refl (first_come_first_served name o h)
first_come_first_served name o (Removes topic ∷ h) =
    let v = seen name o h in goes_on (served name o h) [] v.waiting v.waiting (takers h) refl (first_come_first_served name o h)

-- ONE HAS IT

takes_keeps : (o : Option Taker) (u t : Taker) (v : Seen) → o ≡ Some t → v.holder ≡ Some t → (takes_in o u v).holder ≡ Some t
takes_keeps None u t v e f = absurd cc
takes_keeps (Some other) u t v e f = f

keeps_holder : (act : Act) (v : Seen) (t : Taker) → keeps act ≡ true → v.holder ≡ Some t → (after act v).holder ≡ Some t
keeps_holder (Takes u) v t k e = takes_keeps v.holder u t v e e
keeps_holder Passes v t k e = absurd cc
keeps_holder (Hands topic m) v t k e = e
keeps_holder (Joins topic p) v t k e = e
keeps_holder (Removes topic) v t k e = e

not_given : (o : Option Taker) (u t : Taker) → o ≡ Some t → turn_if o u ≡ None
not_given None u t e = absurd cc
not_given (Some other) u t e = refl

gives_none : (act : Act) (v : Seen) (t : Taker) → keeps act ≡ true → v.holder ≡ Some t → gives_turn act v ≡ None
gives_none (Takes u) v t k e = not_given v.holder u t e
gives_none Passes v t k e = absurd cc
gives_none (Hands topic m) v t k e = refl
gives_none (Joins topic p) v t k e = refl
gives_none (Removes topic) v t k e = refl

both : (a b : Bool) → (a && b) ≡ true → (a ≡ true) × (b ≡ true)
both true b e = (refl, e)
both false b e = absurd cc

holds : (name : Option (List ℕ)) (o : ProducerOptionsValues) (later h : List Act) (t : Taker) → (seen name o h).holder ≡ Some t → list_all keeps later ≡ true
    → (seen name o (later ++ h)).holder ≡ Some t
holds name o [] h t e k = e
holds name o (act ∷ later) h t e k =
    let two = both (keeps act) (list_all keeps later) k in
    keeps_holder act (seen name o (later ++ h)) t two.0 (holds name o later h t e two.1)

pub multi_one_at_a_time : MultiOneAtATime
multi_one_at_a_time name o later h t e k =
    let still = holds name o later h t e k in (still, λ act a. gives_none act (seen name o (later ++ h)) t a still)
