-- For the code's contracts alone: what a reading of a script stands for.
use Rattle.std.specs.Prelude.{◌≡◌, ◌⊎◌, ◌↔◌, ◌<◌, ◌≤◌, ℕ, ◌+◌, ◌-◌, Bool, true, false, List, [], ◌∷◌, ◌++◌, Option, Some, None, length, take, drop, string_bytes, Result, Ok, Err, OnOk, IfErr}
use Rattle.pulsar_producer.specs.Routing.{Policy}
use Rattle.pulsar_cli.specs.declared.feed.Feed.{Feed}
use Rattle.pulsar_cli.specs.declared.feed.Next.{Next}
use Rattle.pulsar_cli.specs.declared.reading.Reading.{Reading}
use Rattle.pulsar_cli.specs.declared.stop.Stop.{Stop}
use Rattle.pulsar_cli.specs.declared.stop.Stop.TheVariants as stop
use Rattle.pulsar_streams.specs.Outside.{Rose}
use Rattle.pulsar_calls.specs.Content.{Heard, heard}
use Rattle.pulsar_acts.specs.Run.{Good, is_empty}
use Rattle.pulsar_calls.specs.Steps.{Step}
use Rattle.pulsar_machine.specs.Options.{Options}
use Rattle.pulsar_grammar.specs.Grammar.{Happens, line as meaning, lines}
use Rattle.pulsar_cli.specs.Choice.{choice_of}
use Rattle.pulsar_grammar.specs.Parsed.{IsWithinLine}
use Rattle.pulsar_cli.specs.Script.{Script, Adds, Given, HasFault, IsDone, IsStopped, Seen, limit, script_of, happened, text}

-- the options of a reading's client, with these policies
abbrev pub options_in : List Policy → Reading → Options
options_in policies r = record { chosen = choice_of r.choice; policies = policies }

-- what a reading with these options and this history says of its script
abbrev pub said : Options → List Step → Script
said o h = record { options = o; events = happened h }

-- A reading has read these lines, for a client of these policies. This is their history, and the front of its text was put. Once something
-- has happened the options stay what they are.
pub record Reads (policies : List Policy) (o : Options) (r : Reading) (put : List ℕ) (read : List (List ℕ)) (h : List Step) : Type 0 where
  pub script : script_of policies read ≡ Some (said (options_in policies r) h)
  pub good : Good (options_in policies r) h
  pub options : is_empty h ≡ false → options_in policies r ≡ o
  pub count : r.events ≡ length h
  pub number : r.line ≡ length read + 1
  pub text : put ++ string_bytes r.out ≡ text h

-- the same text and the same count of events
pub record KeepsText (old new : Reading) : Type 0 where
  pub out : new.out ≡ old.out
  pub events : new.events ≡ old.events

-- the same lines read
abbrev pub KeepsReading : Reading → Reading → Type 0
KeepsReading old new =
    (policies : List Policy) (o : Options) (put : List ℕ) (read : List (List ℕ)) (h : List Step) → Reads policies o old put read h → Reads policies o new put read h

-- this line was read more, and it is no event
abbrev pub ReadsMore : Reading → Reading → List ℕ → Type 0
ReadsMore old new line =
    (policies : List Policy) (o : Options) (put : List ℕ) (read : List (List ℕ)) (h : List Step) → Reads policies o old put read h
    → Reads policies o new put (read ++ line ∷ []) h

-- with this line the lines aren't in the grammar any more
abbrev pub IsNoScriptWith : Reading → List ℕ → Type 0
IsNoScriptWith r line =
    (policies : List Policy) (o : Options) (put : List ℕ) (read : List (List ℕ)) (h : List Step) → Reads policies o r put read h
    → script_of policies (read ++ line ∷ []) ≡ None

-- the lines of the bytes that were consumed, and the front of the next one
pub record Splits (consumed : List ℕ) (read : List (List ℕ)) (pending : List ℕ) : Type 0 where
  pub apart : (future : List ℕ) → lines (consumed ++ future) ≡ read ++ lines (pending ++ future)
  pub within : IsWithinLine pending

-- a reading has consumed these bytes, whose history this is
pub record Running (policies : List Policy) (o : Options) (h : List Step) (r : Reading) (put consumed : List ℕ) : Type 0 where
  pub read : List (List ℕ)
  pub reads : Reads policies o r put read h
  pub splits : Splits consumed read r.pending.items

-- a reading has come to a line with which its lines aren't in the grammar any more
pub record Refuses (policies : List Policy) (r : Reading) (put consumed : List ℕ) : Type 0 where
  pub o : Options
  pub read : List (List ℕ)
  pub history : List Step
  pub reads : Reads policies o r put read history
  pub bad : List ℕ
  pub refused : script_of policies (read ++ bad ∷ []) ≡ None
  pub apart : (future : List ℕ) → (after : List (List ℕ)) × (lines (consumed ++ future) ≡ read ++ bad ∷ after)

-- behind the lines that a reading has read comes a line that is this event
pub record Comes (policies : List Policy) (o : Options) (h : List Step) (r : Reading) (put : List ℕ) (e : Heard) : Type 0 where
  pub read : List (List ℕ)
  pub reads : Reads policies o r put read h
  pub line : List ℕ
  pub happens : meaning line ≡ Happens e

-- a reading has consumed these bytes, up to such a line
pub record HasConsumed (policies : List Policy) (o : Options) (h : List Step) (r : Reading) (put consumed : List ℕ) (e : Heard) : Type 0 where
  pub comes : Comes policies o h r put e
  pub splits : Splits consumed (comes.read ++ comes.line ∷ []) r.pending.items

-- a reading has consumed these bytes, and a sink has grown by the front of its text
pub record Prints (policies : List Policy) (o : Options) (h : List Step) (r : Reading) (old new : Option (List ℕ)) (consumed : List ℕ) : Type 0 where
  pub put : List ℕ
  pub running : Running policies o h r put consumed
  pub adds : Adds old new put

-- a reading has come to a line that isn't in the grammar, of these bytes, and a sink has grown by the front of its text
pub record Refusing (policies : List Policy) (r : Reading) (old new : Option (List ℕ)) (bytes : List ℕ) : Type 0 where
  pub o : Options
  pub put : List ℕ
  pub read : List (List ℕ)
  pub history : List Step
  pub reads : Reads policies o r put read history
  pub bad : List ℕ
  pub refused : script_of policies (read ++ bad ∷ []) ≡ None
  pub after : List (List ℕ)
  pub apart : lines bytes ≡ read ++ bad ∷ after
  pub adds : Adds old new put

-- the last line of these bytes is an event, and a sink has grown by the front of the text of the lines before
pub record IsLast (policies : List Policy) (o : Options) (h : List Step) (r : Reading) (old new : Option (List ℕ)) (bytes : List ℕ) (e : Heard) : Type 0 where
  pub put : List ℕ
  pub comes : Comes policies o h r put e
  pub whole : lines bytes ≡ comes.read ++ comes.line ∷ []
  pub adds : Adds old new put

-- what a reading that stopped has printed
abbrev pub Halts : List Policy → Stop → Reading → (old new : Option (List ℕ)) (bytes : List ℕ) → Type 0
Halts policies stop.Refused r old new bytes = Refusing policies r old new bytes
Halts policies _ r old new bytes = IsStopped policies bytes old new

-- the faults that a stop tells of
abbrev pub Faults : Stop → (source source' sink sink' : ℕ) → Type 0
Faults stop.Source source source' sink sink' = Rose source source'
Faults stop.Sink source source' sink sink' = Rose sink sink'
Faults _ source source' sink sink' = Unit {0}

-- a turn stops by a line, by want of memory or by the sink
abbrev pub InTurn : Stop → (sink sink' : ℕ) → Type 0
InTurn stop.Source sink sink' = ⊥
InTurn stop.TooLong sink sink' = ⊥
InTurn stop.Sink sink sink' = Rose sink sink'
InTurn _ sink sink' = Unit {0}

-- the status of a stop
abbrev pub status_of : Stop → ℕ
status_of stop.Refused = 1
status_of stop.NoMemory = 3
status_of stop.Source = 4
status_of stop.Sink = 5
status_of stop.TooLong = 6

-- the status of a reading
abbrev pub read_status : Result (Unit {0}) Stop → ℕ
read_status (Ok done) = 0
read_status (Err s) = status_of s

-- a status tells of its stop
abbrev pub Told : ℕ → Stop → Type 0
Told status s = (status ≡ status_of s) ⊎ ((s ≡ stop.Refused) × (status ≡ 3))

-- how the reading of a source ended
pub record HasRead (policies : List Policy) (result : Result (Unit {0}) Stop) (r : Reading) (source sink : Seen) : Type 0 where
  pub given : Given source
  pub done : OnOk result (IsDone policies given.bytes sink.before sink.after × (given.count ≡ length given.bytes))
  pub halts : IfErr result (λ s. Halts policies s r sink.before sink.after given.bytes)
  pub faults : IfErr result (λ s. Faults s source.faults_before source.faults_after sink.faults_before sink.faults_after)
  pub limits : (read_status result ≡ 6) ↔ (limit < given.count)

-- WHERE THE BYTES COME FROM

-- these bytes were taken of a source's content
abbrev pub Gave : Option (List ℕ) → Option (List ℕ) → List ℕ → Type 0
Gave old new bytes = (all : List ℕ) → old ≡ Some all → (rest : List ℕ) × (all ≡ bytes ++ rest) × (new ≡ Some rest)

-- the bytes of a feed that were taken and not read
abbrev pub unread : Feed → List ℕ
unread f = take (f.to - f.from) (drop f.from f.piece.items)

-- a feed has taken these bytes from a source, and what is unread behind them
pub record Fed (f : Feed) (source : Seen) (bytes : List ℕ) : Type 0 where
  pub size : length f.piece.items ≡ 65536
  pub order : f.from ≤ f.to
  pub inside : f.to ≤ 65536
  pub left : f.left ≤ limit
  pub gave : Gave source.before source.after (bytes ++ unread f)
  pub count : length (bytes ++ unread f) ≡ limit - f.left
  pub faults : source.faults_before ≤ source.faults_after

-- a source has come to its end
abbrev pub IsAtEnd : Seen → Type 0
IsAtEnd source = (all : List ℕ) → source.before ≡ Some all → source.after ≡ Some []

-- these bytes, whose count this is, stop a feed
abbrev pub StopsBy : Stop → Seen → (count : ℕ) → Type 0
StopsBy stop.Source source n = HasFault source × (n ≤ limit)
StopsBy stop.TooLong source n = limit < n
StopsBy _ source n = ⊥

-- a feed has stopped behind these bytes, with more that were taken
pub record IsFull (s : Stop) (source : Seen) (bytes : List ℕ) : Type 0 where
  pub more : List ℕ
  pub gave : Gave source.before source.after (bytes ++ more)
  pub why : StopsBy s source (length (bytes ++ more))

-- how many bytes a feed can still give, and how many steps can still come of them
abbrev pub remaining : Feed → ℕ
remaining f = f.left + (f.to - f.from)

abbrev pub steps_left : Feed → (last : Bool) → ℕ
steps_left f true = 0
steps_left f false = remaining f + 1

-- A READING, ITS SOURCE AND ITS SINK

-- a reading goes on
pub record Going (policies : List Policy) (o : Options) (h : List Step) (r : Reading) (f : Feed) (source sink : Seen) : Type 0 where
  pub bytes : List ℕ
  pub prints : Prints policies o h r sink.before sink.after bytes
  pub fed : Fed f source bytes
  pub faults : sink.faults_before ≤ sink.faults_after

-- a reading has come to an event, and lines follow
pub record GoesTo (policies : List Policy) (o : Options) (h : List Step) (r : Reading) (f : Feed) (source sink : Seen) (e : Heard) : Type 0 where
  pub bytes : List ℕ
  pub put : List ℕ
  pub consumed : HasConsumed policies o h r put bytes e
  pub adds : Adds sink.before sink.after put
  pub fed : Fed f source bytes
  pub faults : sink.faults_before ≤ sink.faults_after

-- a reading has come to an event in its last line
pub record GoesToLast (policies : List Policy) (o : Options) (h : List Step) (r : Reading) (source sink : Seen) (e : Heard) : Type 0 where
  pub bytes : List ℕ
  pub last : IsLast policies o h r sink.before sink.after bytes e
  pub gave : Gave source.before source.after bytes
  pub ends : IsAtEnd source
  pub within : length bytes ≤ limit
  pub sources : source.faults_before ≤ source.faults_after
  pub sinks : sink.faults_before ≤ sink.faults_after

-- all lines of a source were read and told, and the sink has grown by the front of the text
pub record HasTold (policies : List Policy) (o : Options) (h : List Step) (r : Reading) (source sink : Seen) : Type 0 where
  pub bytes : List ℕ
  pub put : List ℕ
  pub reads : Reads policies o r put (lines bytes) h
  pub adds : Adds sink.before sink.after put
  pub gave : Gave source.before source.after bytes
  pub ends : IsAtEnd source
  pub within : length bytes ≤ limit
  pub sources : source.faults_before ≤ source.faults_after
  pub sinks : sink.faults_before ≤ sink.faults_after

abbrev pub Awaits : List Policy → Options → List Step → Reading → Feed → Seen → Seen → Heard → (last : Bool) → Type 0
Awaits policies o h r f source sink e false = GoesTo policies o h r f source sink e
Awaits policies o h r f source sink e true = GoesToLast policies o h r source sink e

-- what a reading has found
abbrev pub HasFound : List Policy → Options → List Step → Reading → Feed → Seen → Seen → Result (Option Next) Stop → Type 0
HasFound policies o h r f source sink (Ok None) = HasRead policies (Ok tt) r source sink
HasFound policies o h r f source sink (Ok (Some n)) = Awaits policies o h r f source sink (heard n.event) n.last
HasFound policies o h r f source sink (Err s) = HasRead policies (Err s) r source sink
