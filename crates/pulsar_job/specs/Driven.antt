-- For the code's contracts alone: what a job that goes on stands for.
use Rattle.std.specs.Prelude.{◌≡◌, ◌≤◌, ◌+◌, ◌-◌, ◌⊎◌, ◌==◌, ◌||◌, not, Bool, true, false, ℕ, List, [], ◌∷◌, ◌++◌, length, map, take, Option, Some}
use Rattle.std.specs.List.{AllByRecursion, flat_map, list_any}
use Rattle.pulsar_wire.specs.declared.error.IoKind.{IoKind}
use Rattle.pulsar_calls.specs.Content.{Asked, Build, Stop, Producer, Consumer, Heard, Called, Bytes, Lost, Drain, Shown}
use Rattle.pulsar_calls.specs.Steps.{Step}
use Rattle.pulsar_pumps.specs.Made.{Made}
use Rattle.pulsar_work.specs.Asking.{Stops, sends}
use Rattle.pulsar_work.specs.Calls.{Work, Sends, Takes, IsWhole, HasError, HasFailed, IsDone, calls, consumer_of, has_ended_well, producer_of}
use Rattle.pulsar_work.specs.Progress.{Knows, links_of, wanted_in}
use Rattle.pulsar_work.specs.Report.{effects_of}
use Rattle.pulsar_work.specs.declared.progress.Progress.{Progress}
use Rattle.pulsar_job.specs.declared.links.Link.{Link}
use Rattle.pulsar_job.specs.Links.{LinkSeen, AreLinks, DialsInTime, Fits, TicksWithin, failures_in, has_tick, link_seen, was_dialed, wants, written_on}

-- THE LINKS

-- a link at one moment: what is seen of it, and whether its output still has rounds
pub record LinkNow : Type 0 where
  pub seen : LinkSeen
  pub writes : Bool

abbrev pub link_now : {I O : Type 0} → (I → Option (List ℕ)) → (I → ℕ) → (O → Option (List ℕ)) → (O → ℕ) → Link I O → LinkNow
link_now given input_faults taken output_faults l =
    record { seen = link_seen given input_faults taken output_faults (l.number, l.input, l.output); writes = l.writes }

abbrev pub seen_of : List LinkNow → List LinkSeen
seen_of ls = map (λ l. l.seen) ls

-- while its output has rounds it has taken all that was written
abbrev pub IsUpToDate : List Step → LinkNow → Type 0
IsUpToDate h l = l.writes ≡ true → (bytes : List ℕ) → l.seen.taken ≡ Some bytes → written_on l.seen.number h ≡ bytes

-- THE CALLS

-- all calls but the last, with these acknowledgements
abbrev pub plan : Work → (acked : List Asked) → List Asked
plan (Sends topic lines) acked = Build ∷ Producer (producer_of topic) ∷ sends lines
plan (Takes topic subscription count) acked = Build ∷ Consumer (consumer_of topic subscription) ∷ acked

abbrev pub AreAcks : Work → (acked : List Asked) → (count : ℕ) → Type 0
AreAcks (Sends topic lines) acked n = acked ≡ []
AreAcks (Takes topic subscription count) acked n = length acked ≡ n - 2

-- these are the first of them, so many
pub record AreFirst (w : Work) (acked : List Asked) (count : ℕ) (cs : List Asked) : Type 0 where
  pub front : cs ≡ take count (plan w acked)
  pub size : length cs ≡ count
  pub acks : AreAcks w acked count

-- nothing is left to be called
abbrev pub IsComplete : Work → (count : ℕ) → Type 0
IsComplete (Sends topic lines) n = length lines ≤ n - 2
IsComplete (Takes topic subscription count) n = Unit {0}

-- the last call was made behind so many others, where something had failed, or where all was done
pub record HasStopped (w : Work) (h : List Step) (acked : List Asked) (count : ℕ) (failed : Bool) : Type 0 where
  pub before : List Step
  pub after : List Step
  pub last : Step
  pub apart : h ≡ after ++ last ∷ before
  pub stops : last.event ≡ Called Stop
  pub none : calls after ≡ []
  pub others : ℕ
  pub one : count ≡ others + 1
  pub first : AreFirst w acked others (calls before)
  pub built : has_ended_well 0 (effects_of before) ≡ true
  pub bad : failed ≡ true → HasError before
  pub good : failed ≡ false → IsWhole w (effects_of before) × IsComplete w others × (2 ≤ others)

-- before the last call, and behind it
abbrev pub Calling : Work → List Step → (acked : List Asked) → (count : ℕ) → (stopped failed : Bool) → Type 0
Calling w h acked n false failed = AreFirst w acked n (calls h)
Calling w h acked n true failed = HasStopped w h acked n failed

pub record Works (w : Work) (h : List Step) (p : Progress) : Type 0 where
  pub acked : List Asked
  pub knows : Knows p (effects_of h) acked
  pub calling : Calling w h acked (length p.ended.items) p.stopped p.failed_before

-- THE DIALS

-- A link that is wanted was dialed since, or is to be dialed. No tick has come since then, unless it is late.
abbrev pub Dialing : (late : Bool) → List Step → (links : List ℕ) → Type 0
Dialing late h ls =
    (before between : List Step) (wanted : Step) (l : ℕ) → h ≡ between ++ wanted ∷ before → list_any (λ k. k == l) (wants wanted) ≡ true
    → (was_dialed l between ≡ true) ⊎ ((list_any (λ k. k == l) ls ≡ true) × ((late || not (has_tick between)) ≡ true))

-- ALL

pub record Runs (late : Bool) (w : Work) (h : List Step) (p : Progress) (ls : List LinkNow) : Type 0 where
  pub works : Works w h p
  pub links : AreLinks h (seen_of ls)
  pub writing : AllByRecursion (IsUpToDate h) ls
  pub dialing : Dialing late h (links_of p.dials.items)
  pub in_time : DialsInTime h

-- a link that was just opened
abbrev pub fresh : LinkSeen → LinkNow
fresh l = record { seen = l; writes = true }

-- one moment before another: this link is still to be dialed
pub record IsBefore (link : ℕ) (p p' : Progress) : Type 0 where
  pub dials : links_of p.dials.items ≡ link ∷ links_of p'.dials.items
  pub knows : (es : List Shown) (acked : List Asked) → Knows p es acked → Knows p' es acked
  pub calls : length p'.ended.items ≡ length p.ended.items
  pub stopped : p'.stopped ≡ p.stopped
  pub before : p'.failed_before ≡ p.failed_before

-- nothing is to be dialed
abbrev pub IsDialed : Progress → Type 0
IsDialed p = links_of p.dials.items ≡ []

-- no dial has failed, and no tick has come
pub record IsQuiet (h h' : List Step) : Type 0 where
  pub failures : (k : IoKind) → failures_in k h' ≡ failures_in k h
  pub ticks : (greatest : Option ℕ) → TicksWithin greatest h → TicksWithin greatest h'

-- one moment leads to another
pub record Goes (w : Work) (h h' : List Step) (p p' : Progress) (ls ls' : List LinkNow) : Type 0 where
  pub runs : (late : Bool) → Runs late w h p ls → Runs late w h' p' ls'
  pub quiet : IsQuiet h h'
  pub stopped : p'.stopped ≡ p.stopped

-- THE EDGE

-- an edge at one moment
pub record EdgeNow : Type 0 where
  pub failed : IoKind → ℕ
  pub first : Option ℕ
  pub greatest : Option ℕ

abbrev pub edge_now : {E : Type 0} → (E → IoKind → ℕ) → (E → Option ℕ) → (E → Option ℕ) → E → EdgeNow
edge_now failures first greatest e = record { failed = failures e; first = first e; greatest = greatest e }

-- how an edge goes on with a history
pub record Knits (h h' : List Step) (e e' : EdgeNow) : Type 0 where
  pub fits : (before : IoKind → ℕ) → Fits before e.failed e.greatest h → Fits before e'.failed e'.greatest h'
  pub first : (now : ℕ) → e.first ≡ Some now → e'.first ≡ Some now

-- one moment leads to another, with what the edge does
pub record Reaches (w : Work) (h h' : List Step) (p p' : Progress) (ls ls' : List LinkNow) (e e' : EdgeNow) : Type 0 where
  pub runs : (late : Bool) → Runs late w h p ls → Runs late w h' p' ls'
  pub knits : Knits h h' e e'
  pub stopped : p'.stopped ≡ p.stopped

-- the link was the first of those that were to be dialed
abbrev pub ReachesBy : (link : ℕ) → Work → (h h' : List Step) → (p p' : Progress) → (ls ls' : List LinkNow) → (e e' : EdgeNow) → Type 0
ReachesBy l w h h' p p' ls ls' e e' =
    (q : Progress) → IsBefore l q p → Reaches w h h' q p' ls ls' e e'

-- CALLS

-- a call was made, and its effects were learned
pub record Asks (call : Asked) (h h' : List Step) (p q : Progress) : Type 0 where
  pub out : List Shown
  pub step : h' ≡ record { event = Called call; effects = out } ∷ h
  pub knows : (es : List Shown) (acked : List Asked) → Knows p es acked → Knows q (es ++ out) acked
  pub dials : links_of q.dials.items ≡ links_of p.dials.items ++ wanted_in out
  pub one : length q.ended.items ≡ length p.ended.items + 1
  pub stopped : q.stopped ≡ p.stopped
  pub before : q.failed_before ≡ p.failed_before

-- the last call was made
pub record MakesLast (w : Work) (h h' : List Step) (p q : Progress) : Type 0 where
  pub stops : Stops w p
  pub asks : Asks Stop h h' (record p { stopped = true; failed_before = p.failed }) q

-- nothing has happened
pub record IsSame (h h' : List Step) (p q : Progress) : Type 0 where
  pub history : h' ≡ h
  pub progress : q ≡ p

-- a call, or a poll, was made
pub record Makes (w : Work) (h h' : List Step) (p p' : Progress) : Type 0 where
  pub runs : (late : Bool) (ls : List LinkNow) → Runs late w h p ls → Runs late w h' p' ls
  pub quiet : IsQuiet h h'
  pub stopped : p'.stopped ≡ false

-- the calls whose moment had come were made
pub record Calls (w : Work) (h h' : List Step) (p p' : Progress) (ls ls' : List LinkNow) : Type 0 where
  pub runs : (late : Bool) → Runs late w h p ls → Runs late w h' p' ls'
  pub quiet : IsQuiet h h'

-- the front of a turn, up to its calls
pub record UpToCalls (w : Work) (h h' : List Step) (p p' : Progress) (ls ls' : List LinkNow) (e e' : EdgeNow) : Type 0 where
  pub runs : Runs true w h p ls → Runs false w h' p' ls'
  pub knits : Knits h h' e e'

-- the rest of a turn, behind its calls
pub record Rests (w : Work) (h h' : List Step) (p p' : Progress) (ls ls' : List LinkNow) (e e' : EdgeNow) : Type 0 where
  pub runs : Runs false w h p ls → Runs true w h' p' ls'
  pub knits : Knits h h' e e'
  pub stopped : p'.stopped ≡ p.stopped

-- THE END

-- how a task came out
pub record ComesOut (w : Work) (h : List Step) (all_well : Bool) : Type 0 where
  pub done : all_well ≡ true → IsDone w h
  pub failed : all_well ≡ false → HasFailed w h

-- a task came out so
pub record Ends (w : Work) (h h' : List Step) (p : Progress) (ls ls' : List LinkNow) (all_well : Bool) : Type 0 where
  pub out : Runs true w h p ls → p.stopped ≡ false → ComesOut w h' all_well
  pub links : Runs true w h p ls → p.stopped ≡ false → AreLinks h' (seen_of ls') × DialsInTime h'

-- A ROUND

-- it serves this link
abbrev pub serves : (link : ℕ) → Heard → Bool
serves l (Bytes k piece) = k == l
serves l (Lost k) = k == l
serves l (Drain k most) = k == l
serves l _ = false

abbrev pub Serves : (link : ℕ) → List Made → Type 0
Serves l ms = AllByRecursion (λ m. serves l m.event ≡ true) ms

abbrev pub step_made : Made → Step
step_made m = record { event = m.event; effects = m.effects }

-- a history with these behind it
abbrev pub grown : List Made → List Step → List Step
grown [] h = h
grown (m ∷ ms) h = grown ms (step_made m ∷ h)

abbrev pub effects_made : List Made → List Shown
effects_made ms = flat_map (λ m. m.effects) ms

-- what these effects tell was learned
pub record Learns (es : List Shown) (p q : Progress) : Type 0 where
  pub knows : (seen : List Shown) (acked : List Asked) → Knows p seen acked → Knows q (seen ++ es) acked
  pub dials : links_of q.dials.items ≡ links_of p.dials.items ++ wanted_in es
  pub calls : length q.ended.items ≡ length p.ended.items
  pub stopped : q.stopped ≡ p.stopped
  pub before : q.failed_before ≡ p.failed_before

-- an event was submitted, and its effects were learned
pub record Submits (e : Heard) (h h' : List Step) (p q : Progress) : Type 0 where
  pub out : List Shown
  pub step : h' ≡ record { event = e; effects = out } ∷ h
  pub learns : Learns out p q
