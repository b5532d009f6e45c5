-- Whatever comes to a link, its effects are of that link.
use Rattle.std.proofs.Common.{◌≡◌, ℕ, List, [], ◌∷◌, refl, map, Bool, true, false, Option, Some, None}
use Rattle.std.specs.List.{cons_option, filter_map, flat_map}
use Rattle.std.specs.Option.{option_map}
use Rattle.pulsar_laws.proofs.ActWords.{Drains, End, Ends, LinkAct, Opens, Pings, Queued, Reads, Shown}
use Rattle.pulsar_laws.proofs.RunWords.{Each, each_append}
use Rattle.pulsar_laws.proofs.LinkWords.{closed_by, Fault, Seat, Words}
use Rattle.pulsar_session.specs.Link as session
use Rattle.pulsar_session.specs.Link.{Asks, Seen, came, ends, frame_at, written}
use Rattle.pulsar_calls.specs.declared.effect.Settlement.TheVariants as settlement
use Rattle.pulsar_calls.specs.Content.{Write, Settles, Close}
use Rattle.pulsar_links.specs.LinkEffects.{asked_at, given_at}
use Rattle.pulsar_links.specs.Links.{after, close, effects, ended, is_own_end, lost, new_places, queues, queues_at, settled_in, settles, write}

abbrev pub link_of : Shown → Option ℕ
link_of (Queued k place bytes) = Some k
link_of (Write k bytes) = Some k
link_of (Settles k place outcome) = Some k
link_of (Close k) = Some k
link_of _ = None

abbrev pub IsOf : ℕ → Shown → Type 0
IsOf k x = link_of x ≡ Some k

frames_of : (k : ℕ) (s : Seen) (ps : List ℕ) → Each (IsOf k) (filter_map (queues_at k s) ps)
frames_of k s [] = tt
frames_of k s (p ∷ ps) = by (frame_at p s) (frames_of k s ps)
  where
    by : (o : Option (List ℕ)) → Each (IsOf k) (filter_map (queues_at k s) ps) →
        Each (IsOf k) (cons_option (option_map (Queued k p) o) (filter_map (queues_at k s) ps))
    by None more = more
    by (Some f) more = (refl, more)

queues_of : (k : ℕ) (v w : Seen) → Each (IsOf k) (queues k v w)
queues_of k v w = frames_of k w (new_places v w)

each_of : {A : Type 0} (k : ℕ) (f : A → Shown) (xs : List A) → ((x : A) → IsOf k (f x)) → Each (IsOf k) (map f xs)
each_of k f [] h = tt
each_of k f (x ∷ xs) h = (h x, each_of k f xs h)

write_of : (k : ℕ) (bytes : List ℕ) → Each (IsOf k) (write k bytes)
write_of k [] = tt
write_of k (b ∷ bytes) = (refl, tt)

close_of : (k : ℕ) (b : Bool) → Each (IsOf k) (close k b)
close_of k true = (refl, tt)
close_of k false = tt

pub ended_of : (k : ℕ) (end : End) (now : ℕ) (cause : Option Fault) (s : Seen) → Each (IsOf k) (ended k end now cause s)
ended_of k end now None s = tt
ended_of k end now (Some cause) s =
    each_append (IsOf k) (map (lost k end now s) (ends s)) (close k (is_own_end end)) (each_of k (lost k end now s) (ends s) (λ p. refl))
    (close_of k (is_own_end end))

effects_of : (k : ℕ) (x : LinkAct) (now : ℕ) (s : Seen) → Each (IsOf k) (effects k x now s)
effects_of k Opens now s = queues_of k s (after Opens now s)
effects_of k Reads now s =
    each_append (IsOf k) (map (settles k settlement.Reply) (settled_in (came s))) (queues k s (after Reads now s))
    (each_of k (settles k settlement.Reply) (settled_in (came s)) (λ p. refl)) (queues_of k s (after Reads now s))
effects_of k (Drains most) now s =
    each_append (IsOf k) (write k (flat_map (λ f. f) (written most s))) (queues k s (after (Drains most) now s))
    (write_of k (flat_map (λ f. f) (written most s))) (queues_of k s (after (Drains most) now s))
effects_of k Pings now s = queues_of k s (after Pings now s)
effects_of k (Ends end) now s = ended_of k end now (closed_by end now s) s

pub given_of : (k : ℕ) (x : LinkAct) (now : ℕ) (row : Option Seat) → Each (IsOf k) (given_at k x now row)
given_of k x now None = tt
given_of k x now (Some seat) = effects_of k x now seat.seen

pub asked_of : (k now : ℕ) (request : Words) (row : Option Seat) → Each (IsOf k) (asked_at k now request row)
asked_of k now request None = tt
asked_of k now request (Some seat) = queues_of k seat.seen (session.after (Asks now request) seat.seen)
