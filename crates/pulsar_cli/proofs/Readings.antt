-- What a reading knows of its script.
use Rattle.std.proofs.Common.{◌≡◌, ℕ, ◌+◌, ◌-◌, ◌∙◌, sym, ap, subst, List, [], ◌∷◌, ◌++◌, refl, arith, false, Option, Some, None, length, take, append_assoc, length-append}
use Rattle.std.specs.Prelude.{string_bytes, MatchOption}
use Rattle.std.proofs.Math.Seq.{take-append_seam}
use Rattle.std.proofs.lemmas.Option.{none-some}
use Rattle.pulsar_wire.specs.Field.{◌>>=◌}
use Rattle.pulsar_producer.specs.Routing.{Policy}
use Rattle.pulsar_calls.specs.Content.{Heard, Shown, heard}
use Rattle.pulsar_calls.specs.declared.event.Event.{Event}
use Rattle.pulsar_acts.specs.Run.{Good, is_empty}
use Rattle.pulsar_calls.specs.Steps.{Step}
use Rattle.pulsar_machine.specs.Options.{Options}
use Rattle.pulsar_grammar.specs.Grammar.{Setting, Line, Nothing, Sets, Happens, line, lines}
use Rattle.pulsar_cli.specs.Script.{Script, blank, chooses, default_choice, with_line, script_from, script_of, happened, text}
use Rattle.pulsar_printing.specs.Text.{step}
use Rattle.pulsar_cli.specs.Choice.{choice_of}
use Rattle.pulsar_grammar.specs.Parsed.{IsWithinLine}
use Rattle.pulsar_cli.specs.Shown.{HasConsumed, KeepsReading, KeepsText, Reads, ReadsMore, Refuses, Running, options_in, said}
use Rattle.pulsar_cli.proofs.Splitting.{ends-line, feed, goes-on}
use Rattle.pulsar_cli.specs.declared.reading.Reading.{Reading}

-- the script of lines, and of those behind them
joined : (o : Option Script) (xs ys : List (List ℕ)) → ((s : Script) → script_from s (xs ++ ys) ≡ (script_from s xs >>= λ t. script_from t ys)) →
    (o >>= λ s. script_from s (xs ++ ys)) ≡ ((o >>= λ s. script_from s xs) >>= λ t. script_from t ys)
joined None xs ys h = refl
joined (Some s) xs ys h = h s

pub script-more : (xs ys : List (List ℕ)) (s : Script) → script_from s (xs ++ ys) ≡ (script_from s xs >>= λ t. script_from t ys)
script-more [] ys s = refl
script-more (x ∷ xs) ys s = joined (with_line (line x) s) xs ys (script-more xs ys)

itself : (o : Option Script) → (o >>= λ s. Some s) ≡ o
itself None = refl
itself (Some s) = refl

-- one more line
script-next : (ps : List Policy) (read : List (List ℕ)) (l : List ℕ) {s : Script} → script_of ps read ≡ Some s → script_of ps (read ++ l ∷ []) ≡ with_line (line l) s
script-next ps read l {s} h = script-more read (l ∷ []) (blank ps) ∙ ap (λ (o : Option Script). o >>= λ t. script_from t (l ∷ [])) h ∙ itself (with_line (line l) s)

-- one more line of this meaning
pub script-line : {ps : List Policy} {o : Options} {r : Reading} {put : List ℕ} {read : List (List ℕ)} {h : List Step} (bytes : List ℕ) (k : Line) → Reads ps o r put read h → line bytes ≡ k → script_of ps (read ++ bytes ∷ []) ≡ with_line k (said (options_in ps r) h)
script-line {ps = ps} {r = r} {read = read} {h = h} bytes k a is = script-next ps read bytes a.script ∙ ap (λ l. with_line l (said (options_in ps r) h)) is

-- where something has happened there is an event
some-event : (es : List Heard) (e : Heard) → is_empty (es ++ e ∷ []) ≡ false
some-event [] e = refl
some-event (x ∷ xs) e = refl

happened-some : (h : List Step) (n : ℕ) → n ≡ length h → (n ≡ 0 → ⊥) → is_empty (happened h) ≡ false
happened-some [] n count some = absurd (some count)
happened-some (s ∷ h) n count some = some-event (happened h) s.event

-- where nothing has happened there is none
pub none-yet : (h : List Step) (n : ℕ) → n ≡ length h → n ≡ 0 → h ≡ []
none-yet [] n count none = refl
none-yet (s ∷ h) n count none = absurd (omega (arith, count, none))

late : (setting : Setting) (s : Script) → is_empty s.events ≡ false → with_line (Sets setting) s ≡ None
late setting s h = rw h refl

-- a setting behind an event is refused
pub refuses-set : {ps : List Policy} {o : Options} {r : Reading} {put : List ℕ} {read : List (List ℕ)} {h : List Step} (bytes : List ℕ) (setting : Setting) → Reads ps o r put read h → line bytes ≡ Sets setting → (r.events ≡ 0 → ⊥) → script_of ps (read ++ bytes ∷ []) ≡ None
refuses-set {ps = ps} {r = r} {h = h} bytes setting a is some =
    script-line bytes (Sets setting) a is ∙ late setting (said (options_in ps r) h) (happened-some h r.events a.count some)

-- the number of the next line
next-number : {n m : ℕ} (read : List (List ℕ)) (bytes : List ℕ) → m ≡ n + 1 → n ≡ length read + 1 → m ≡ length (read ++ bytes ∷ []) + 1
next-number read bytes next is = next ∙ ap (λ n. n + 1) is ∙ ap (λ n. n + 1) (sym (length-append read (bytes ∷ [])))

-- a line is nothing
pub reads-nothing : {ps : List Policy} {o : Options} {r r' : Reading} {put : List ℕ} {read : List (List ℕ)} {h : List Step} (bytes : List ℕ) → Reads ps o r put read h → line bytes ≡ Nothing → r'.choice ≡ r.choice → KeepsText r r' → r'.line ≡ r.line + 1 → Reads ps o r' put (read ++ bytes ∷ []) h
reads-nothing {read = read} bytes a is same kept number =
    record {
      script = rw same (script-line bytes Nothing a is);
      good = rw same a.good;
      options = λ some. rw same (a.options some);
      count = kept.events ∙ a.count;
      number = next-number read bytes number a.number;
      text = rw kept.out a.text;
    }

-- nothing has happened: every choice is good
good-nothing : (o : Options) → Good o []
good-nothing o = record { log = []; run = tt; rests = refl; same = refl }

-- a line is a setting, before anything has happened
pub reads-set : {ps : List Policy} {o : Options} {r r' : Reading} {put : List ℕ} {read : List (List ℕ)} (bytes : List ℕ) (setting : Setting) → Reads ps o r put read [] → line bytes ≡ Sets setting → choice_of r'.choice ≡ chooses setting (choice_of r.choice) → KeepsText r r' → r'.line ≡ r.line + 1 → Reads ps o r' put (read ++ bytes ∷ []) []
reads-set {ps = ps} {r' = r'} {read = read} bytes setting a is chosen kept number =
    record {
      script = script-line bytes (Sets setting) a is ∙ ap (λ c. Some (record { options = record { chosen = c; policies = ps }; events = [] })) (sym chosen);
      good = good-nothing (options_in ps r');
      options = λ some. absurd cc;
      count = kept.events ∙ a.count;
      number = next-number read bytes number a.number;
      text = rw kept.out a.text;
    }

-- the event of a line was told
pub reads-step : {ps : List Policy} {o : Options} {r r' : Reading} {put : List ℕ} {read : List (List ℕ)} {h : List Step} {e : Heard} {effects : List Shown} (bytes : List ℕ) → Reads ps o r put read h → line bytes ≡ Happens e → options_in ps r ≡ o → Good o (record { event = e; effects = effects } ∷ h) → r'.choice ≡ r.choice → string_bytes r'.out ≡ string_bytes r.out ++ step r.events effects → r'.events ≡ r.events + 1 → r'.line ≡ r.line + 1 → Reads ps o r' put (read ++ bytes ∷ []) (record { event = e; effects = effects } ∷ h)
reads-step {ps = ps} {o = o} {r = r} {r' = r'} {put = put} {read = read} {h = h} {e = e} {effects = effects} bytes a is chosen good same out events number =
    let now : options_in ps r' ≡ o = rw same chosen in
    record {
      script = rw same (script-line bytes (Happens e) a is);
      good = subst (λ x. Good x (record { event = e; effects = effects } ∷ h)) (sym now) good;
      options = λ some. now;
      count = events ∙ ap (λ n. n + 1) a.count ∙ omega arith;
      number = next-number read bytes number a.number;
      text = ap (λ (t : List ℕ). put ++ t) out ∙ sym (append_assoc put (string_bytes r.out) (step r.events effects)) ∙ ap (λ (t : List ℕ). t ++ step r.events effects) a.text ∙ ap (λ n. text h ++ step n effects) a.count;
    }

-- nothing is read yet
pub new-running : (ps : List Policy) (o : Options) (r : Reading) → choice_of r.choice ≡ default_choice → r.events ≡ 0 → r.line ≡ 1 → string_bytes r.out ≡ [] → r.pending.items ≡ [] → Running ps o [] r [] []
new-running ps o r same events number out pending =
    record {
      read = [];
      reads = record {
        script = ap (λ c. Some (record { options = record { chosen = c; policies = ps }; events = [] })) (sym same);
        good = good-nothing (options_in ps r);
        options = λ some. absurd cc;
        count = events;
        number = number;
        text = out;
      };
      splits = rw pending (record { apart = λ future. refl; within = λ k d lt. absurd (omega arith) });
    }

-- the bytes of its line aside
pub reads-same : {ps : List Policy} {o : Options} {r r' : Reading} {put : List ℕ} {read : List (List ℕ)} {h : List Step} → Reads ps o r put read h → r'.choice ≡ r.choice → KeepsText r r' → r'.line ≡ r.line → Reads ps o r' put read h
reads-same a same kept number =
    record { script = rw same a.script; good = rw same a.good; options = λ some. rw same (a.options some); count = kept.events ∙ a.count; number = number ∙ a.number; text = rw kept.out a.text }

-- a line has ended
pub line-read : {ps : List Policy} {o : Options} {h : List Step} {r r' : Reading} {put x : List ℕ} (e bytes : List ℕ) (run : Running ps o h r put x) → IsWithinLine e → bytes ≡ r.pending.items ++ e → Reads ps o r' put (run.read ++ bytes ∷ []) h → r'.pending.items ≡ [] → Running ps o h r' put (x ++ (e ++ 10 ∷ []))
line-read e bytes run w is reads pending =
    record { read = run.read ++ bytes ∷ []; reads = reads; splits = rw (pending, is) (feed e run.splits w) }

-- a line that has ended is an event
pub line-happens : {ps : List Policy} {o : Options} {h : List Step} {r r' : Reading} {put x : List ℕ} {what : Heard} (e bytes total : List ℕ) (run : Running ps o h r put x) → IsWithinLine e → bytes ≡ r.pending.items ++ e → Reads ps o r' put run.read h → line bytes ≡ Happens what → r'.pending.items ≡ [] → x ++ (e ++ 10 ∷ []) ≡ total → HasConsumed ps o h r' put total what
line-happens {what = what} e bytes total run w is reads happens pending whole =
    record {
      comes = record { read = run.read; reads = reads; line = bytes; happens = happens };
      splits = rw (sym whole, pending, is) (feed e run.splits w);
    }

-- a line goes on
pub runs-on : {ps : List Policy} {o : Options} {h : List Step} {r r' : Reading} {put x : List ℕ} (e total : List ℕ) (run : Running ps o h r put x) → IsWithinLine e → Reads ps o r' put run.read h → r'.pending.items ≡ r.pending.items ++ e → x ++ e ≡ total → Running ps o h r' put total
runs-on e total run w reads pending whole =
    record { read = run.read; reads = reads; splits = rw (pending, sym whole) (goes-on e run.splits w) }

-- a line that has ended isn't in the grammar
pub refuses-here : {ps : List Policy} {o : Options} {h : List Step} {r r' : Reading} {put x : List ℕ} (e bytes after total : List ℕ) (run : Running ps o h r put x) → IsWithinLine e → bytes ≡ r.pending.items ++ e → Reads ps o r' put run.read h → script_of ps (run.read ++ bytes ∷ []) ≡ None → (x ++ (e ++ 10 ∷ [])) ++ after ≡ total → Refuses ps r' put total
refuses-here {o = o} {h = h} {x = x} e bytes after total run w is reads bad whole =
    record {
      o = o;
      read = run.read;
      history = h;
      reads = reads;
      bad = bytes;
      refused = bad;
      apart = λ future.
          (lines (after ++ future), ap (λ (t : List ℕ). lines (t ++ future)) (sym whole) ∙ ap lines (append_assoc (x ++ (e ++ 10 ∷ [])) after future) ∙ ends-line e run.splits w (after ++ future) ∙ ap (λ (b : List ℕ). run.read ++ b ∷ lines (after ++ future)) (sym is));
    }

-- what stands behind a line's end
pub behind-line : (x e rest after total : List ℕ) → rest ≡ e ++ 10 ∷ after → x ++ rest ≡ total → (x ++ (e ++ 10 ∷ [])) ++ after ≡ total
behind-line x e rest after total is whole =
    append_assoc x (e ++ 10 ∷ []) after ∙ ap (λ (t : List ℕ). x ++ t) (append_assoc e (10 ∷ []) after ∙ sym is) ∙ whole

-- what stands in front of the bytes that are left
pub front-of : (front rest : List ℕ) (n : ℕ) → n ≡ length rest → take (length (front ++ rest) - n) (front ++ rest) ≡ front
front-of front rest n is =
    let size = length-append front rest in
    let at : length (front ++ rest) - n ≡ length front = omega (arith, size, is) in
    ap (λ k. take k (front ++ rest)) at ∙ take-append_seam front rest

-- a line was taken, and its bytes are gone
pub line-found : (r r' r'' : Reading) (bytes : List ℕ) (found : Option Event) → MatchOption found (ReadsMore r r' bytes) (λ e. (line bytes ≡ Happens (heard e)) × (r' ≡ r)) → r''.choice ≡ r'.choice → KeepsText r' r'' → r''.line ≡ r'.line →
    MatchOption found (ReadsMore r r'' bytes) (λ e. (line bytes ≡ Happens (heard e)) × KeepsReading r r'')
line-found r r' r'' bytes None more same kept number = λ ps o put read h a. reads-same {r = r'} (more ps o put read h a) same kept number
line-found r r' r'' bytes (Some e) more same kept number = (more.0, λ ps o put read h a. reads-same {r = r'} (rw more.1 a) same kept number)

-- what was read up to the bytes that are left
pub same-front : (x consumed p after piece : List ℕ) (n : ℕ) → n ≡ length after → x ++ after ≡ consumed ++ piece → p ++ after ≡ piece → x ≡ consumed ++ take (length piece - n) piece
same-front x consumed p after piece n count whole parts =
    let same : x ++ after ≡ (consumed ++ p) ++ after = whole ∙ ap (λ (t : List ℕ). consumed ++ t) (sym parts) ∙ sym (append_assoc consumed p after) in
    sym (front-of x after n count) ∙ ap (λ (t : List ℕ). take (length t - n) t) same ∙ front-of (consumed ++ p) after n count
    ∙ ap (λ (t : List ℕ). consumed ++ t) (sym (front-of p after n count) ∙ ap (λ (t : List ℕ). take (length t - n) t) parts)

-- a line was read that is no event, and one that is
pub nothing-read : (r r' : Reading) (bytes : List ℕ) (found : Option Event) → found ≡ None → MatchOption found (ReadsMore r r' bytes) (λ e. (line bytes ≡ Happens (heard e)) × KeepsReading r r') → ReadsMore r r' bytes
nothing-read r r' bytes None is more = more
nothing-read r r' bytes (Some e) is more = absurd (none-some e (sym is))

pub event-read : (r r' : Reading) (bytes : List ℕ) (found : Option Event) (e : Event) → found ≡ Some e → MatchOption found (ReadsMore r r' bytes) (λ e. (line bytes ≡ Happens (heard e)) × KeepsReading r r') → (line bytes ≡ Happens (heard e)) × KeepsReading r r'
event-read r r' bytes found e is more = subst (λ t. MatchOption t (ReadsMore r r' bytes) (λ e. (line bytes ≡ Happens (heard e)) × KeepsReading r r')) is more
