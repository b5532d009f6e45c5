-- Where no dead letters are asked for nothing is pending, and all items are given.
use Rattle.std.proofs.Common.{◌≡◌, ◌∙◌, ap, refl, Bool, true, false, cond, List, [], ◌∷◌, ◌++◌, Option, None}
use Rattle.std.specs.List.{AllByRecursion}
use Rattle.pulsar_incoming.specs.Content.{DeadLetterValues}
use Rattle.pulsar_consumer.specs.Frames.{Frame, failed, frame_by}
use Rattle.pulsar_consumer.specs.Topic.{Act, Lives, Hears, Loses, Fails, Ends, Polls, Asks, IsAt, TakesCopy, IsCopied, FailsCopy, Stops, Forgets, Checks, Seen, Setup, frame_for, is_ended, lives_on, seen}
use Rattle.pulsar_consumer.specs.Laws.{PlainItems, arrivals, arrives_by, behind_fate, fate, is_stopped, items_of, outcomes, pending_behind, pending_in, ready_in}
use Rattle.pulsar_consumer.proofs.Checking.{config_is}

-- none of these is a dead letter
abbrev ArePlain : List Frame → Type 0
ArePlain fs = AllByRecursion (λ f. f.letters ≡ []) fs

plain_items : (d : Bool) (os : List Bool) (fs : List Frame) → ArePlain fs → ready_in d os fs ≡ items_of fs
plain_items d os [] all = refl
plain_items d os (f ∷ fs) all =
    ap (λ ls. f.items ++ behind_fate (fate d os ls) (λ left. ready_in d left fs)) all.0 ∙ ap (λ xs. f.items ++ xs) (plain_items d os fs all.1)

plain_pending : (d : Bool) (os : List Bool) (fs : List Frame) → ArePlain fs → pending_in d os fs ≡ false
plain_pending d os [] all = refl
plain_pending d os (f ∷ fs) all =
    ap (λ ls. pending_behind (fate d os ls) (λ left. pending_in d left fs)) all.0 ∙ plain_pending d os fs all.1

plain_more : (fs gs : List Frame) → ArePlain fs → ArePlain gs → ArePlain (fs ++ gs)
plain_more [] gs all more = more
plain_more (f ∷ fs) gs all more = (all.0, plain_more fs gs all.1 more)

plain_by : (policy : Option DeadLetterValues) (f : Frame) → policy ≡ None → (frame_by policy f).letters ≡ []
plain_by policy f none = ap (λ p. (frame_by p f).letters) none

plain_arrives : (act : Act) (v : Seen) → v.config.dead_letter_policy ≡ None → ArePlain (arrives_by act v)
plain_arrives (Lives link url) v none = tt
plain_arrives (Hears link f) v none = by (lives_on link v)
  where
    by : (b : Bool) → ArePlain (cond b (frame_for v f ∷ []) [])
    by true = (plain_by v.config.dead_letter_policy f none, tt)
    by false = tt
plain_arrives (Loses link) v none = tt
plain_arrives (Fails f) v none = by (is_ended v)
  where
    by : (b : Bool) → ArePlain (cond b [] (failed f ∷ []))
    by true = tt
    by false = (refl, tt)
plain_arrives (Ends why) v none = tt
plain_arrives (Polls clock) v none = tt
plain_arrives Asks v none = tt
plain_arrives (IsAt clock) v none = tt
plain_arrives TakesCopy v none = tt
plain_arrives (IsCopied key clock) v none = tt
plain_arrives (FailsCopy key clock) v none = tt
plain_arrives Stops v none = tt
plain_arrives (Forgets id) v none = tt
plain_arrives (Checks clock) v none = tt

plain_arrivals : (s : Setup) (h : List Act) → s.config.dead_letter_policy ≡ None → ArePlain (arrivals s h)
plain_arrivals s [] none = tt
plain_arrivals s (act ∷ h) none =
    plain_more (arrivals s h) (arrives_by act (seen s h)) (plain_arrivals s h none)
    (plain_arrives act (seen s h) (ap (λ c. c.dead_letter_policy) (config_is s h) ∙ none))

pub plain_gives_all : PlainItems
plain_gives_all s h none =
    let all = plain_arrivals s h none in
    (plain_items (is_stopped h) (outcomes s h) (arrivals s h) all, plain_pending (is_stopped h) (outcomes s h) (arrivals s h) all)
