-- Where a reading comes to an event, and where it is told.
use Rattle.std.proofs.Common.{◌≡◌, ℕ, ◌+◌, ◌≤◌, ◌<◌, ◌∙◌, sym, ap, Bool, true, false, List, [], ◌∷◌, ◌++◌, refl, arith, append_assoc, append-nil}
use Rattle.std.specs.Prelude.{string_bytes}
use Rattle.pulsar_producer.specs.Routing.{Policy}
use Rattle.std.specs.declared.alloc.Global.{Global}
use Rattle.std.specs.declared.dyn_box.DynBox.{DynBox}
use Rattle.pulsar_client.specs.Client.{StandsFor}
use Rattle.pulsar_client.specs.declared.pulsar.Pulsar.{Pulsar}
use Rattle.pulsar_streams.specs.Outside.{Rose}
use Rattle.pulsar_calls.specs.Content.{Heard, Shown}
use Rattle.pulsar_acts.specs.Run.{Good}
use Rattle.pulsar_calls.specs.Steps.{Step}
use Rattle.pulsar_machine.specs.Options.{Options}
use Rattle.pulsar_grammar.specs.Grammar.{lines}
use Rattle.pulsar_cli.specs.Script.{Adds, AddsFront, Given, IsStopped, Ran, Seen, limit}
use Rattle.pulsar_cli.specs.Shown.{Awaits, GoesTo, GoesToLast, Going, HasTold, options_in, remaining, steps_left, unread}
use Rattle.pulsar_printing.specs.Text.{step}
use Rattle.pulsar_cli.specs.declared.feed.Feed.{Feed}
use Rattle.pulsar_cli.specs.declared.reading.Reading.{Reading}
use Rattle.pulsar_cli.proofs.Gives.{given, given-whole, left-behind, ran-done}
use Rattle.pulsar_cli.proofs.Prints.{printed-stopped, run-of, stopped, stopped-front}
use Rattle.pulsar_cli.proofs.Readings.{reads-step}
use Rattle.pulsar_cli.proofs.Sinks.{adds-more, rose-from}

-- what a reading tells of an event
pub record Tells (r r' : Reading) (effects : List Shown) : Type 0 where
  pub out : string_bytes r'.out ≡ string_bytes r.out ++ step r.events effects
  pub events : r'.events ≡ r.events + 1
  pub line : r'.line ≡ r.line + 1
  pub choice : r'.choice ≡ r.choice
  pub pending : r'.pending ≡ r.pending

-- an event was told, and lines follow
pub goes-on-behind : {ps : List Policy} {o : Options} {h : List Step} {r r' : Reading} {f : Feed} {source sink : Seen} {e : Heard} {effects : List Shown} → GoesTo ps o h r f source sink e → Tells r r' effects → options_in ps r ≡ o → Good o (record { event = e; effects = effects } ∷ h) → Going ps o (record { event = e; effects = effects } ∷ h) r' f source sink
goes-on-behind a t chosen good =
    let c = a.consumed.comes in
    record {
      bytes = a.bytes;
      prints = record {
        put = a.put;
        running = record {
          read = c.read ++ c.line ∷ [];
          reads = reads-step c.line c.reads c.happens chosen good t.choice t.out t.events t.line;
          splits = rw t.pending a.consumed.splits;
        };
        adds = a.adds;
      };
      fed = a.fed;
      faults = a.faults;
    }

-- the last event was told
pub told-last : {ps : List Policy} {o : Options} {h : List Step} {r r' : Reading} {source sink : Seen} {e : Heard} {effects : List Shown} → GoesToLast ps o h r source sink e → Tells r r' effects → options_in ps r ≡ o → Good o (record { event = e; effects = effects } ∷ h) → HasTold ps o (record { event = e; effects = effects } ∷ h) r' source sink
told-last a t chosen good =
    let c = a.last.comes in
    record {
      bytes = a.bytes;
      put = a.last.put;
      reads = rw a.last.whole (reads-step c.line c.reads c.happens chosen good t.choice t.out t.events t.line);
      adds = a.last.adds;
      gave = a.gave;
      ends = a.ends;
      within = a.within;
      sources = a.sources;
      sinks = a.sinks;
    }

-- memory runs out where these bytes were read and these lines told
ran-short : {ps : List Policy} {source sink : Seen} (g : Given source) → g.count ≤ limit → IsStopped ps g.bytes sink.before sink.after → Ran ps 3 source sink
ran-short g le printed =
    record {
      known = (omega arith, λ e. absurd (omega (arith, e)));
      given = g;
      printed = printed-stopped 3 (omega arith) printed;
      whole = λ e. absurd (omega (arith, e));
      source_failed = λ e. absurd (omega (arith, e));
      sink_failed = λ e. absurd (omega (arith, e));
      limits = (λ e. absurd (omega (arith, e)), λ lt. absurd (omega (arith, lt, le)));
    }

goes-short : {ps : List Policy} {o : Options} {h : List Step} {r : Reading} {f : Feed} {source sink : Seen} {e : Heard} → GoesTo ps o h r f source sink e → Ran ps 3 source sink
goes-short {r = r} {f = f} {source = source} a =
    let c = a.consumed.comes in
    let g = given source (a.bytes ++ unread f) a.fed.gave in
    let rest : List ℕ = (left-behind source.before source.after (a.bytes ++ unread f) a.fed.gave).0 in
    let apart : lines ((a.bytes ++ unread f) ++ rest) ≡ c.read ++ c.line ∷ lines (r.pending.items ++ (unread f ++ rest)) =
    ap lines (append_assoc a.bytes (unread f) rest) ∙ a.consumed.splits.apart (unread f ++ rest) ∙ append_assoc c.read (c.line ∷ []) (lines (r.pending.items ++ (unread f ++ rest))) in
    let count = a.fed.count in
    ran-short g (omega (arith, count)) (stopped (c.line ∷ lines (r.pending.items ++ (unread f ++ rest))) c.reads a.adds apart)

goes-short-last : {ps : List Policy} {o : Options} {h : List Step} {r : Reading} {source sink : Seen} {e : Heard} → GoesToLast ps o h r source sink e → Ran ps 3 source sink
goes-short-last {source = source} a =
    let c = a.last.comes in
    ran-short (given-whole source a.bytes a.gave a.ends) a.within (stopped (c.line ∷ []) c.reads a.last.adds a.last.whole)

pub ran-awaits : {ps : List Policy} {source sink : Seen} (o : Options) (h : List Step) (r : Reading) (f : Feed) (e : Heard) (last : Bool) → Awaits ps o h r f source sink e last → Ran ps 3 source sink
ran-awaits o h r f e false a = goes-short a
ran-awaits o h r f e true a = goes-short-last a

-- all was put
pub ran-finished : {ps : List Policy} {o : Options} {h : List Step} {r : Reading} {source sink sink' : Seen} → HasTold ps o h r source sink → sink'.before ≡ sink.before → Adds sink.after sink'.after (string_bytes r.out) → Ran ps 0 source sink'
ran-finished {ps = ps} {h = h} {r = r} {source = source} {sink' = sink'} t same adds =
    ran-done {r = r} (record {
      given = given-whole source t.bytes t.gave t.ends;
      done = (record { history = h; run = run-of t.reads; prints = rw (sym t.reads.text, same) (adds-more t.put (string_bytes r.out) t.adds adds) }, refl);
      halts = tt;
      faults = tt;
      limits = (λ e. absurd (omega (arith, e)), λ lt. absurd (let le = t.within in omega (arith, lt, le)));
    })

-- the sink failed at the end
pub ran-unfinished : {ps : List Policy} {o : Options} {h : List Step} {r : Reading} {source sink sink' : Seen} → HasTold ps o h r source sink → sink'.before ≡ sink.before → sink'.faults_before ≡ sink.faults_before → AddsFront sink.after sink'.after (string_bytes r.out) → Rose sink.faults_after sink'.faults_after → Ran ps 5 source sink'
ran-unfinished {source = source} t same count front rose =
    record {
      known = (omega arith, λ e. absurd (omega (arith, e)));
      given = given-whole source t.bytes t.gave t.ends;
      printed = printed-stopped 5 (omega arith) (rw same (stopped-front [] t.reads t.adds front (sym (append-nil (lines t.bytes)))));
      whole = λ e. absurd (omega (arith, e));
      source_failed = λ e. absurd (omega (arith, e));
      sink_failed = λ e. rw count (rose-from _ _ _ t.sinks rose);
      limits = (λ e. absurd (omega (arith, e)), λ lt. absurd (let le = t.within in omega (arith, lt, le)));
    }

-- an event that is not the last was told, and one that is
pub told-on : {ps : List Policy} {o : Options} {h : List Step} {r r' : Reading} {f : Feed} {source sink : Seen} {e : Heard} {effects : List Shown} (last : Bool) → last ≡ false → Awaits ps o h r f source sink e last → Tells r r' effects → options_in ps r ≡ o → Good o (record { event = e; effects = effects } ∷ h) → Going ps o (record { event = e; effects = effects } ∷ h) r' f source sink
told-on false is a t chosen good = goes-on-behind a t chosen good
told-on true is a t chosen good = absurd cc

pub told-end : {ps : List Policy} {o : Options} {h : List Step} {r r' : Reading} (f : Feed) {source sink : Seen} {e : Heard} {effects : List Shown} (last : Bool) → last ≡ true → Awaits ps o h r f source sink e last → Tells r r' effects → options_in ps r ≡ o → Good o (record { event = e; effects = effects } ∷ h) → HasTold ps o (record { event = e; effects = effects } ∷ h) r' source sink
told-end f true is a t chosen good = told-last a t chosen good
told-end f false is a t chosen good = absurd cc

-- behind a step the options stay
pub awaits-options : {ps : List Policy} {o : Options} (source sink : Seen) (s : Step) (h : List Step) (r : Reading) (f : Feed) (e : Heard) (last : Bool) → Awaits ps o (s ∷ h) r f source sink e last → options_in ps r ≡ o
awaits-options source sink s h r f e false a = a.consumed.comes.reads.options refl
awaits-options source sink s h r f e true a = a.last.comes.reads.options refl

-- and fewer steps can still come
pub fewer-left : (f f' : Feed) (last last' : Bool) → last ≡ false → (last' ≡ false → remaining f' < remaining f) → steps_left f' last' < steps_left f last
fewer-left f f' false false is less = let lt = less refl in omega (arith, lt)
fewer-left f f' false true is less = omega arith
fewer-left f f' true last' is less = absurd cc

-- a history that a client stands for is good
pub good-of : {X : Type 0} {d : X → Type 0} {routes : DynBox X Global d → Policy} {o : Options} {c : Pulsar X d} {h : List Step} {taken : List ℕ} → StandsFor routes o c h taken → Good o h
good-of stands = let s = stands.stands in record { log = s.log; run = s.run; rests = s.rests; same = s.same }
