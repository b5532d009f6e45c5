-- How a reading finds its next event.
use Rattle.std.proofs.Common.{inl, inr, ◌⊎◌, ◌≡◌, ℕ, ◌≤◌, ◌∙◌, sym, ap, subst, Bool, true, false, List, [], ◌++◌, refl, arith, Option, Some, None, length, append_assoc, append-nil}
use Rattle.std.specs.Prelude.{string_bytes, Result, Ok, Err, IfErr, IfOk, IfSome, MatchOption, MatchResult}
use Rattle.pulsar_producer.specs.Routing.{Policy}
use Rattle.pulsar_streams.specs.Outside.{Rose}
use Rattle.pulsar_calls.specs.Content.{Heard, heard}
use Rattle.pulsar_calls.specs.declared.event.Event.{Event}
use Rattle.pulsar_calls.specs.Steps.{Step}
use Rattle.pulsar_machine.specs.Options.{Options}
use Rattle.pulsar_cli.specs.Script.{Adds, AddsFront, IsDone, Seen, limit}
use Rattle.pulsar_cli.specs.Shown.{Awaits, Faults, Fed, Gave, GoesTo, Going, Halts, HasConsumed, HasFound, HasRead, InTurn, IsAtEnd, IsFull, IsLast, Prints, Refuses, Running, status_of, unread}
use Rattle.pulsar_cli.specs.declared.feed.Feed.{Feed}
use Rattle.pulsar_cli.specs.declared.feed.Next.{Next}
use Rattle.pulsar_cli.specs.declared.reading.Reading.{Reading}
use Rattle.pulsar_cli.specs.declared.stop.Stop.{Stop}
use Rattle.pulsar_cli.specs.declared.stop.Stop.TheVariants as stop
use Rattle.pulsar_cli.proofs.Gives.{given-whole, read-halts}
use Rattle.pulsar_cli.proofs.Prints.{halts-piece, prints-front, prints-stopped, turn-faults, turn-status}
use Rattle.pulsar_cli.proofs.Sinks.{adds-more, rose-from}

-- an event of the piece
pub event-found : {ps : List Policy} {o : Options} {h : List Step} {r r' : Reading} {f f' : Feed} {source sink : Seen} {e : Heard} (a : Going ps o h r f source sink) → (front : List ℕ) × HasConsumed ps o h r' a.prints.put front e × Fed f' source front → GoesTo ps o h r' f' source sink e
event-found a at = record { bytes = at.0; put = a.prints.put; consumed = at.1; adds = a.prints.adds; fed = at.2; faults = a.faults }

-- one of two stops
of-two : (P : Stop → Type 0) (s : Stop) → ((s ≡ stop.Refused) ⊎ (s ≡ stop.NoMemory)) → P stop.Refused → P stop.NoMemory → P s
of-two P s (inl e) r n = subst P (sym e) r
of-two P s (inr e) r n = subst P (sym e) n

-- a line of the piece stops it
pub event-halts : {ps : List Policy} {o : Options} {h : List Step} {r r' : Reading} {f : Feed} {source sink : Seen} (s : Stop) (a : Going ps o h r f source sink) → ((s ≡ stop.Refused) ⊎ (s ≡ stop.NoMemory)) → (s ≡ stop.Refused → Refuses ps r' a.prints.put (a.bytes ++ unread f)) → HasRead ps (Err s) r' source sink
event-halts {r' = r'} {f = f} {source = source} {sink = sink} s a either refuses =
    let count = a.fed.count in
    read-halts {r = r'} s source sink (a.bytes ++ unread f) a.fed.gave
    (λ rest. rw (append_assoc a.bytes (unread f) rest) (halts-piece (unread f) rest s a.prints either refuses))
    (of-two (λ s. Faults s source.faults_before source.faults_after sink.faults_before sink.faults_after) s either tt tt) (
      λ e. absurd (of-two (λ s. status_of s ≡ 6 → ⊥) s either (λ six. absurd (omega (arith, six))) (λ six. absurd (omega (arith, six))) e),
      λ lt. absurd (omega (arith, lt, count)),
    )

-- the piece was read
pub piece-read : {ps : List Policy} {o : Options} {h : List Step} {r r' : Reading} {f : Feed} {source sink : Seen} (a : Going ps o h r f source sink) → Running ps o h r' a.prints.put (a.bytes ++ unread f) → Prints ps o h r' sink.before sink.after (a.bytes ++ unread f)
piece-read a run = record { put = a.prints.put; running = run; adds = a.prints.adds }

-- the sink failed behind it
pub flush-halts : {ps : List Policy} {o : Options} {h : List Step} {r r' r'' : Reading} {f : Feed} {source sink sink' : Seen} (a : Going ps o h r f source sink) → Running ps o h r' a.prints.put (a.bytes ++ unread f) → sink'.before ≡ sink.before → sink'.faults_before ≡ sink.faults_before → AddsFront sink.after sink'.after (string_bytes r'.out) → Rose sink.faults_after sink'.faults_after → HasRead ps (Err stop.Sink) r'' source sink'
flush-halts {r'' = r''} {f = f} {source = source} {sink' = sink'} a run same count front rose =
    let taken = a.fed.count in
    read-halts {r = r''} stop.Sink source sink' (a.bytes ++ unread f) a.fed.gave (λ rest. rw same (prints-front rest (piece-read a run) front))
    (rw count (rose-from _ _ _ a.faults rose)) (λ e. absurd (omega (arith, e)), λ lt. absurd (omega (arith, lt, taken)))

-- its text was put
pub piece-put : {ps : List Policy} {o : Options} {h : List Step} {r r'' : Reading} {f : Feed} {source sink : Seen} (r' : Reading) (sink' : Seen) (a : Going ps o h r f source sink) → Running ps o h r'' (a.prints.put ++ string_bytes r'.out) (a.bytes ++ unread f) → sink'.before ≡ sink.before → Adds sink.after sink'.after (string_bytes r'.out) → Prints ps o h r'' sink'.before sink'.after (a.bytes ++ unread f)
piece-put r' sink' a run same adds = record { put = a.prints.put ++ string_bytes r'.out; running = run; adds = rw same (adds-more a.prints.put (string_bytes r'.out) a.prints.adds adds) }

-- no further piece comes
pub refill-halts : {ps : List Policy} {o : Options} {h : List Step} {r : Reading} {source sink : Seen} (s : Stop) (bytes : List ℕ) → Prints ps o h r sink.before sink.after bytes → IsFull s source bytes → HasRead ps (Err s) r source sink
refill-halts {r = r} {source = source} {sink = sink} stop.Source bytes p full =
    let le = full.why.1 in
    read-halts {r = r} stop.Source source sink (bytes ++ full.more) full.gave (λ rest. rw (append_assoc bytes full.more rest) (prints-stopped (full.more ++ rest) p))
    full.why.0 (λ e. absurd (omega (arith, e)), λ lt. absurd (omega (arith, lt, le)))
refill-halts {r = r} {source = source} {sink = sink} stop.TooLong bytes p full =
    read-halts {r = r} stop.TooLong source sink (bytes ++ full.more) full.gave (λ rest. rw (append_assoc bytes full.more rest) (prints-stopped (full.more ++ rest) p))
    tt (λ e. full.why, λ lt. refl)
refill-halts stop.Refused bytes p full = absurd full.why
refill-halts stop.NoMemory bytes p full = absurd full.why
refill-halts stop.Sink bytes p full = absurd full.why

-- the next piece is there
pub piece-next : {ps : List Policy} {o : Options} {h : List Step} {r : Reading} {f : Feed} {source sink : Seen} {bytes : List ℕ} → Prints ps o h r sink.before sink.after bytes → Fed f source bytes → sink.faults_before ≤ sink.faults_after → Going ps o h r f source sink
piece-next {bytes = bytes} p fed le = record { bytes = bytes; prints = p; fed = fed; faults = le }

-- all was taken
whole-gave : {f : Feed} {source : Seen} {bytes : List ℕ} → Fed f source bytes → unread f ≡ [] → Gave source.before source.after bytes
whole-gave {source = source} {bytes = bytes} fed none =
    subst (λ t. Gave source.before source.after t) (ap (λ (t : List ℕ). bytes ++ t) none ∙ append-nil bytes) fed.gave

whole-size : {f : Feed} {source : Seen} {bytes : List ℕ} → Fed f source bytes → unread f ≡ [] → length bytes ≤ limit
whole-size {f = f} {bytes = bytes} fed none =
    let count = fed.count in
    let same : length (bytes ++ unread f) ≡ length bytes = ap (λ (t : List ℕ). length (bytes ++ t)) none ∙ ap (λ (t : List ℕ). length t) (append-nil bytes) in
    omega (arith, count, same)

-- the last line was read
last-is : {ps : List Policy} {o : Options} {h : List Step} {r : Reading} {source sink : Seen} {bytes : List ℕ} (f : Feed) (e : Heard) (last : Bool) → last ≡ true → IsLast ps o h r sink.before sink.after bytes e → Gave source.before source.after bytes → IsAtEnd source → length bytes ≤ limit → source.faults_before ≤ source.faults_after → sink.faults_before ≤ sink.faults_after → Awaits ps o h r f source sink e last
last-is {bytes = bytes} f e true is at gave ends le sources sinks = record { bytes = bytes; last = at; gave = gave; ends = ends; within = le; sources = sources; sinks = sinks }
last-is f e false is at gave ends le sources sinks = absurd cc

pub last-found : {f' : Feed} {source : Seen} {bytes : List ℕ} (ps : List Policy) (o : Options) (h : List Step) (r : Reading) (f : Feed) (sink : Seen) (middle : ℕ) (result : Result (Option Next) Stop) → MatchResult result (λ found. MatchOption found (IsDone ps bytes sink.before sink.after) (λ n. IsLast ps o h r sink.before sink.after bytes (heard n.event))) (λ s. Halts ps s r sink.before sink.after bytes) →
    IfOk result (λ found. IfSome found (λ n. n.last ≡ true)) → IfErr result (λ s. InTurn s middle sink.faults_after) → sink.faults_before ≤ middle → sink.faults_before ≤ sink.faults_after → Fed f' source bytes → unread f' ≡ [] → IsAtEnd source → HasFound ps o h r f source sink result
last-found {source = source} {bytes = bytes} ps o h r f sink middle (Ok None) is last in' le grows fed none ends =
    let size = whole-size fed none in
    record {
      given = given-whole source bytes (whole-gave fed none) ends;
      done = (is, refl);
      halts = tt;
      faults = tt;
      limits = (λ e. absurd (omega (arith, e)), λ lt. absurd (omega (arith, size, lt)));
    }
last-found ps o h r f sink middle (Ok (Some n)) is last in' le grows fed none ends =
    last-is f (heard n.event) n.last last is (whole-gave fed none) ends (whole-size fed none) fed.faults grows
last-found {source = source} {bytes = bytes} ps o h r f sink middle (Err s) is last in' le grows fed none ends =
    let size = whole-size fed none in
    record {
      given = given-whole source bytes (whole-gave fed none) ends;
      done = tt;
      halts = is;
      faults = turn-faults s source.faults_before source.faults_after sink.faults_before middle sink.faults_after le in';
      limits = (λ e. absurd (turn-status s middle sink.faults_after in' e), λ lt. absurd (omega (arith, size, lt)));
    }

-- no event was found in the piece, and one was
abbrev InPiece : List Policy → Options → List Step → Reading → Feed → Feed → List ℕ → List ℕ → Seen → Option Event → Type 0
InPiece ps o h r f f' put bytes source found =
    MatchOption found (Running ps o h r put (bytes ++ unread f)) (λ event. (front : List ℕ) × HasConsumed ps o h r put front (heard event) × Fed f' source front)

pub none-event : (ps : List Policy) (o : Options) (h : List Step) (r : Reading) (f f' : Feed) (put bytes : List ℕ) (source : Seen) (found : Option Event) → found ≡ None → MatchOption found (Running ps o h r put (bytes ++ unread f)) (λ event. (front : List ℕ) × HasConsumed ps o h r put front (heard event) × Fed f' source front) → Running ps o h r put (bytes ++ unread f)
none-event ps o h r f f' put bytes source found is at = subst (λ t. InPiece ps o h r f f' put bytes source t) is at

pub some-event : (ps : List Policy) (o : Options) (h : List Step) (r : Reading) (f f' : Feed) (put bytes : List ℕ) (source : Seen) (found : Option Event) (e : Event) → found ≡ Some e → MatchOption found (Running ps o h r put (bytes ++ unread f)) (λ event. (front : List ℕ) × HasConsumed ps o h r put front (heard event) × Fed f' source front) → (front : List ℕ) × HasConsumed ps o h r put front (heard e) × Fed f' source front
some-event ps o h r f f' put bytes source found e is at = subst (λ t. InPiece ps o h r f f' put bytes source t) is at

-- what was found: the end, or an event
pub found-none : (ps : List Policy) (o : Options) (h : List Step) (r : Reading) (f : Feed) (source sink : Seen) (result : Result (Option Next) Stop) → result ≡ Ok None → HasFound ps o h r f source sink result → HasRead ps (Ok tt) r source sink
found-none ps o h r f source sink result is at = subst (λ t. HasFound ps o h r f source sink t) is at

pub found-some : (ps : List Policy) (o : Options) (h : List Step) (r : Reading) (f : Feed) (source sink : Seen) (result : Result (Option Next) Stop) (n : Next) → result ≡ Ok (Some n) → HasFound ps o h r f source sink result → Awaits ps o h r f source sink (heard n.event) n.last
found-some ps o h r f source sink result n is at = subst (λ t. HasFound ps o h r f source sink t) is at
