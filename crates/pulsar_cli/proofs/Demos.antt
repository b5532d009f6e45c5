-- How a demo goes on.
use Rattle.std.proofs.Common.{◌≡◌, ℕ, ◌+◌, ◌∙◌, sym, ap, subst, refl, add-one, List, [], ◌∷◌, ◌++◌, append-nil, map, ◌<◌, take, length, get_or, true, Some, None}
use Rattle.std.specs.Prelude.{◌==◌, if◌then◌else◌, reverse}
use Rattle.std.specs.Global.{Vec}
use Rattle.std.specs.List.{flat_map}
use Rattle.std.proofs.lemmas.List.{map-append, reverse-append, take_more}
use Rattle.pulsar_calls.specs.declared.event.Event.{Event}
use Rattle.pulsar_calls.specs.declared.effect.Effect.{Effect}
use Rattle.pulsar_calls.specs.Content.{Heard, Shown, Write, Hands, shown}
use Rattle.pulsar_calls.specs.Steps.{Step}
use Rattle.pulsar_broker.specs.History.{Act, Ended, Fed, Taken, Takes, bytes_for, ended_by, frames, given, settled, state, stream, turns}
use Rattle.pulsar_broker.specs.State.{State, without}
use Rattle.pulsar_broker.specs.Stands as broker
use Rattle.pulsar_broker.specs.declared.broker.Broker.{Broker}
use Rattle.pulsar_cli.specs.Demo.{Answered, Asks, Busy, Item, Exchange, Owes, Round, Rounds, Sends, fed_by, fed_in, item_of, payload, piece_of, producer_ticket, received, url}
use Rattle.pulsar_messages.specs.Message.{bare}
use Rattle.pulsar_calls.specs.Content.{Send}
use Rattle.pulsar_cli.specs.Played.{Sides, step_of, without_takes}

-- WHAT IS GIVEN does not hang on what was taken

stream-fed : (l : ℕ) (h : List Act) → stream l (without_takes h) ≡ stream l h
stream-fed l [] = refl
stream-fed l (Fed k p ∷ h) = ap (λ (s : List ℕ). if k == l then s ++ p else s) (stream-fed l h)
stream-fed l (Taken k ∷ h) = stream-fed l h
stream-fed l (Ended k ∷ h) = ap (λ (s : List ℕ). if k == l then [] else s) (stream-fed l h)

state-fed : (u : List ℕ) (h : List Act) → state u (without_takes h) ≡ state u h
unfolding state
state-fed u [] = refl
state-fed u (Fed k p ∷ h) =
    ap (λ (s : List ℕ). (turns u k (ended_by p s) (state u (without_takes h))).state) (stream-fed k h)
    ∙ ap (λ (s : State). (turns u k (ended_by p (stream k h)) s).state) (state-fed u h)
state-fed u (Taken k ∷ h) = state-fed u h
state-fed u (Ended k ∷ h) = ap (without k) (state-fed u h)

frames-fed : (u : List ℕ) (h : List Act) → frames u (without_takes h) ≡ frames u h
unfolding frames
frames-fed u [] = refl
frames-fed u (Fed k p ∷ h) =
    ap (λ fs. fs ++ (turns u k (ended_by p (stream k (without_takes h))) (state u (without_takes h))).given) (frames-fed u h)
    ∙ ap (λ (s : List ℕ). frames u h ++ (turns u k (ended_by p s) (state u (without_takes h))).given) (stream-fed k h)
    ∙ ap (λ (s : State). frames u h ++ (turns u k (ended_by p (stream k h)) s).given) (state-fed u h)
frames-fed u (Taken k ∷ h) = frames-fed u h
frames-fed u (Ended k ∷ h) = frames-fed u h

pub given-fed : (u : List ℕ) (h : List Act) (l : ℕ) → given u (without_takes h) l ≡ given u h l
unfolding given
given-fed u h l = ap (λ fs. flat_map (bytes_for l) fs) (frames-fed u h)

-- WHAT IS FED

fed_by-bare : (e : Shown) (h : List Act) → without_takes (fed_by e ++ h) ≡ fed_by e ++ without_takes h
fed_by-bare (Write l b) h = refl
fed_by-bare _ h = refl

fed_in-bare : (es : List Shown) (h : List Act) → without_takes (fed_in es h) ≡ fed_in es (without_takes h)
fed_in-bare [] h = refl
fed_in-bare (e ∷ es) h = fed_in-bare es (fed_by e ++ h) ∙ ap (fed_in es) (fed_by-bare e h)

taken-fed_by : (u : List ℕ) (e : Shown) (h : List Act) (l : ℕ) → settled u (fed_by e ++ h) l ≡ settled u h l
taken-fed_by u (Write k b) h l = refl
taken-fed_by u _ h l = refl

taken-fed_in : (u : List ℕ) (es : List Shown) (h : List Act) (l : ℕ) → settled u (fed_in es h) l ≡ settled u h l
taken-fed_in u [] h l = refl
taken-fed_in u (e ∷ es) h l = taken-fed_in u es (fed_by e ++ h) l ∙ taken-fed_by u e h l

pub fed_in-end : (es : List Shown) (e : Shown) (h : List Act) → fed_in (es ++ e ∷ []) h ≡ fed_by e ++ fed_in es h
fed_in-end [] e h = refl
fed_in-end (x ∷ es) e h = fed_in-end es e (fed_by x ++ h)

-- THE TWO SIDES

pub sides-keep : {b b' : Broker} (e : Heard) (es : List Shown) (h : List Step) → Sides (piece_of e) h b → ((acts : List Act) → broker.StandsFor url acts b → broker.StandsFor url (fed_in es acts) b') → Sides [] (record { event = e; effects = es } ∷ h) b'
sides-keep e es h a on =
    record {
      acts = fed_in es a.acts;
      stands = on a.acts a.stands;
      fed = fed_in-bare es a.acts ∙ ap (fed_in es) a.fed;
      taken = taken-fed_in url es a.acts 0 ∙ a.taken ∙ sym (append-nil (received h ++ piece_of e));
    }

took : {b : Broker} (h : List Step) (piece : List ℕ) (a : Sides [] h b) → Takes url a.acts 0 piece → given url a.acts 0 ≡ received h ++ piece
took h piece a takes = takes ∙ ap (λ (t : List ℕ). t ++ piece) (a.taken ∙ append-nil (received h))

pub sides-owe : {b : Broker} (h : List Step) (piece : List ℕ) (a : Sides [] h b) → Takes url a.acts 0 piece → Owes h piece
sides-owe h piece a takes = ap (λ (acts : List Act). given url acts 0) (sym a.fed) ∙ given-fed url a.acts 0 ∙ took h piece a takes

pub sides-take : {b b' : Broker} (h : List Step) (piece : List ℕ) (a : Sides [] h b) → Takes url a.acts 0 piece → broker.StandsFor url (Taken 0 ∷ a.acts) b' → Sides piece h b'
sides-take h piece a takes on = record { acts = Taken 0 ∷ a.acts; stands = on; fed = a.fed; taken = took h piece a takes }

-- THE HISTORY

pub history-more : (xs : List (Event × Vec Effect)) (p : Event × Vec Effect) → reverse (map step_of (xs ++ p ∷ [])) ≡ step_of p ∷ reverse (map step_of xs)
history-more xs p = ap reverse (map-append step_of xs (p ∷ [])) ∙ reverse-append (map step_of xs) (step_of p ∷ [])

-- ONE MORE

pub busy-none : (h : List Step) → Busy 0 h h
unfolding Busy
busy-none h = refl

pub busy-more : (n : ℕ) (old middle new : List Step) → Busy n old middle → Exchange true middle new → Busy (n + 1) old new
unfolding Busy
busy-more n old middle new busy next = subst (λ (k : ℕ). Busy k old new) (sym (add-one n)) (middle, busy, next)

pub sends-none : (seed : ℕ) (h : List Step) → Sends seed 0 h h
unfolding Sends
sends-none seed h = refl

pub sends-more : (seed n : ℕ) (old middle new : List Step) → Sends seed n old middle → Asks (Send producer_ticket (bare (payload seed n))) middle new → Sends seed (n + 1) old new
unfolding Sends
sends-more seed n old middle new sends next = subst (λ (k : ℕ). Sends seed k old new) (sym (add-one n)) (middle, sends, next)

pub rounds-none : (consumer : ℕ) (h : List Step) → Rounds consumer 0 h h
unfolding Rounds
rounds-none consumer h = refl

pub rounds-more : (consumer n : ℕ) (old middle new : List Step) → Rounds consumer n old middle → Round consumer middle new → Rounds consumer (n + 1) old new
unfolding Rounds
rounds-more consumer n old middle new rounds next = subst (λ (k : ℕ). Rounds consumer k old new) (sym (add-one n)) (middle, rounds, next)

-- FEEDING

map_more : {A B : Type 0} (f : A → B) (xs : List A) (i : ℕ) (x : A) → i < length xs → x ≡ get_or xs i x → map f (take (i + 1) xs) ≡ map f (take i xs) ++ f x ∷ []
map_more f xs i x within is =
    ap (map f) (take_more xs i x within) ∙ map-append f (take i xs) (get_or xs i x ∷ []) ∙ ap (λ y. map f (take i xs) ++ f y ∷ []) (sym is)

pub feed-more : (es : List Effect) (i : ℕ) (e : Effect) (acts : List Act) → i < length es → e ≡ get_or es i e → fed_in (map shown (take (i + 1) es)) acts ≡ fed_by (shown e) ++ fed_in (map shown (take i es)) acts
feed-more es i e acts lt is =
    ap (λ xs. fed_in xs acts) (map_more shown es i e lt is)
    ∙ fed_in-end (map shown (take i es)) (shown e) acts

-- ITEMS

pub item-first : (x : Shown) (xs : List Shown) → item_of (x ∷ []) ≡ None → item_of (x ∷ xs) ≡ item_of xs
item-first (Hands t topic id n m p) xs e = absurd cc
item-first _ xs e = refl

pub item-found : (x : Shown) (xs : List Shown) (i : Item) → item_of (x ∷ []) ≡ Some i → item_of (x ∷ xs) ≡ Some i
item-found (Hands t topic id n m p) xs i e = e
item-found _ xs i e = absurd cc
