-- What every run has of its links: each request is settled once, by what its connection tells, and a link has ended where an end of it stands
-- in the log.
use Rattle.std.specs.Prelude.{◌≡◌, ℕ, ◌≤◌, ◌==◌, ◌&&◌, ◌||◌, Bool, true, false, if◌then◌else◌, List, [], ◌∷◌, ◌++◌, length, map, Option, Some, None}
use Rattle.std.specs.List.{flat_map}
use Rattle.std.specs.Option.{is_some, option_to_list}
use Rattle.pulsar_run.specs.Laws.{In}
use Rattle.pulsar_session.specs.Link.{Seen, due}
use Rattle.pulsar_session.specs.Laws.{RequestOutcome as Fate, Replied, Ended, told_in}
use Rattle.pulsar_links.specs.Seats.{Seat, closing, has_ended}
use Rattle.pulsar_calls.specs.declared.act.Act.TheVariants.{Comes}
use Rattle.pulsar_calls.specs.declared.act.End.TheVariants.{Overdue}
use Rattle.pulsar_calls.specs.declared.act.LinkAct.{LinkAct}
use Rattle.pulsar_calls.specs.declared.act.LinkAct.TheVariants.{Drains, Ends, Opens, Pings, Reads}
use Rattle.pulsar_calls.specs.declared.act.Part.TheVariants.{ToLink}
use Rattle.pulsar_calls.specs.declared.effect.Settlement.{Settlement}
use Rattle.pulsar_calls.specs.declared.effect.Settlement.TheVariants.{Reply, TimedOut, Disconnected}
use Rattle.pulsar_calls.specs.Content.{Bytes, Shown, Settles, Ticked}
use Rattle.pulsar_calls.specs.Order.{effect_below}
use Rattle.pulsar_run.specs.Order.{arranged}
use Rattle.pulsar_calls.specs.Steps.{Step}
use Rattle.pulsar_acts.specs.Run.{Entry, Begins, Then, Good, IsRun, Rests, steps, view}
use Rattle.pulsar_machine.specs.Options.{Options}
use Rattle.pulsar_laws.specs.Laws.{AreActs, call_at, is_late}

-- REQUESTS ARE SETTLED ONCE

-- how an effect settles the request of a place on a link
abbrev pub settles_at : (link place : ℕ) → Shown → List Settlement
settles_at l place (Settles k p how) = if (l == k) && (p == place) then how ∷ [] else []
settles_at l place _ = []

-- how the effects of each step of a history do, newest step first
abbrev pub settled_at : (link place : ℕ) → List Step → List (List Settlement)
settled_at l place h = map (λ s. flat_map (settles_at l place) s.effects) h

-- What its connection tells of a request settles it: by a reply, or with the end of the link. It has timed out where that is by a deadline,
-- and it is late; else it is disconnected.
abbrev pub is_late_at : LinkAct → (now : ℕ) → Seen → (place : ℕ) → Bool
is_late_at (Ends end) now v place = is_late end now v place
is_late_at Opens now v place = false
is_late_at Reads now v place = false
is_late_at (Drains most) now v place = false
is_late_at Pings now v place = false

abbrev pub settled_so : LinkAct → (now : ℕ) → Seen → (place : ℕ) → Fate → Settlement
settled_so x now v place (Replied m) = Reply
settled_so x now v place (Ended cause) = if is_late_at x now v place then TimedOut else Disconnected

-- what the call of its connection tells of the request of a place, as something comes to a link that has not ended
abbrev pub told_at : LinkAct → (now place : ℕ) → Option Seat → List Settlement
told_at x now place None = []
told_at x now place (Some seat) =
    flat_map (λ act. map (settled_so x now seat.seen place) (option_to_list (told_in act seat.seen place))) (call_at x now (Some seat))

-- in each step, newest first: to the newest one this is added
abbrev pub and_then : {A : Type 0} → List A → List (List A) → List (List A)
and_then xs [] = []
and_then xs (ys ∷ yss) = (ys ++ xs) ∷ yss

abbrev pub told_of : Options → (link place : ℕ) → List Entry → List (List Settlement)
told_of o l place [] = []
told_of o l place (Begins e ∷ log) = [] ∷ told_of o l place log
told_of o l place (Then (Comes (ToLink k x)) ∷ log) =
    if l == k then and_then (told_at x (view o log).now place ((view o log).links.live l)) (told_of o l place log) else told_of o l place log
told_of o l place (Then a ∷ log) = told_of o l place log

-- For each link, also one that has ended, and each place on it: the Settled effects of each step are just what the calls of its connection
-- told there. There is no other. (Within a step they stand by their places: EffectsArranged.)
abbrev pub SettledAsTold : Type 0
SettledAsTold = (o : Options) (log : List Entry) (l place : ℕ) → settled_at l place (steps o log) ≡ told_of o l place log

-- So in a whole history each request is settled once at most.
abbrev pub SettledOnce : Type 0
SettledOnce = (o : Options) (log : List Entry) (l place : ℕ) → length (flat_map (λ xs. xs) (settled_at l place (steps o log))) ≤ 1

-- A tick that isn't before the clock ends each link that is due at it, by its deadline: so none of its requests waits beyond that.
abbrev pub DueLinksEnd : Type 0
DueLinksEnd = (o : Options) (newer older : List Entry) (now l : ℕ) (seat : Seat) →
    IsRun o (newer ++ Begins (Ticked now) ∷ older) → Rests o (newer ++ Begins (Ticked now) ∷ older) → AreActs newer →
    (view o older).now ≤ now → (view o older).links.live l ≡ Some seat → due now seat.seen ≡ true →
    In (Then (Comes (ToLink l (Ends (Overdue seat.seen.waits.queued))))) newer

-- WHERE A LINK HAS ENDED

-- what comes to a link ends it: an end comes that closes its connection
abbrev pub is_end : LinkAct → (now : ℕ) → Option Seat → Bool
is_end (Ends end) now row = is_some (closing end now row)
is_end Opens now row = false
is_end Reads now row = false
is_end (Drains most) now row = false
is_end Pings now row = false

-- an end of a link stands in the log
abbrev pub end_in : Options → (link : ℕ) → List Entry → Bool
end_in o l [] = false
end_in o l (Then (Comes (ToLink k x)) ∷ log) =
    if l == k then is_end x (view o log).now ((view o log).links.live l) || end_in o l log else end_in o l log
end_in o l (_ ∷ log) = end_in o l log

-- What a client says of a link, that it has ended, is so exactly there.
abbrev pub EndedIs : Type 0
EndedIs = (o : Options) (log : List Entry) (l : ℕ) → has_ended l (view o log).links ≡ end_in o l log

-- PIECES

-- the step of a piece that a connection gave
abbrev pub fed : (link : ℕ) (piece : List ℕ) → List Shown → Step
fed l piece effects = record { event = Bytes l piece; effects = effects }

-- A piece may come cut in two. Then the same is done, in two steps, and all other steps are the same.
abbrev pub PiecesDontMatter : Type 0
PiecesDontMatter = (o : Options) (newer older : List Step) (l : ℕ) (a b : List ℕ) (effects : List Shown) →
    Good o (newer ++ fed l (a ++ b) effects ∷ older) →
    (first second : List Shown) × (effects ≡ arranged effect_below (first ++ second))
    × Good o (newer ++ fed l b (arranged effect_below second) ∷ fed l a (arranged effect_below first) ∷ older)
