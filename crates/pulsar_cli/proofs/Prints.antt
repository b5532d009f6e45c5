-- What a reading has printed, where it goes on and where it stops.
use Rattle.std.proofs.Common.{◌⊎◌, ◌≡◌, ℕ, ◌+◌, ◌≤◌, ◌∙◌, sym, ap, List, [], ◌∷◌, ◌++◌, refl, arith, Option, length, take, drop, append_assoc, append-nil, length-append}
use Rattle.std.specs.Prelude.{string_bytes, Result, Ok, Err, OnOk, OnErr, IfErr}
use Rattle.std.proofs.lemmas.List.{length-drop, length-take-le}
use Rattle.std.proofs.Math.Seq.{take-length}
use Rattle.std.proofs.Math.ListN.{drop_of_length-le}
use Rattle.pulsar_producer.specs.Routing.{Policy}
use Rattle.pulsar_calls.specs.Content.{Heard}
use Rattle.pulsar_calls.specs.Steps.{Step}
use Rattle.pulsar_machine.specs.Options.{Options}
use Rattle.pulsar_grammar.specs.Grammar.{Happens, line as meaning, lines}
use Rattle.pulsar_printing.specs.Text.{refusal}
use Rattle.pulsar_cli.specs.Script.{Adds, AddsFront, IsDone, IsRunOf, IsStopped, IsRefused, Printed, blank, text}
use Rattle.pulsar_cli.specs.Shown.{Faults, Halts, InTurn, IsLast, IsNoScriptWith, Prints, Reads, Refuses, Refusing, Running, options_in, read_status, said, status_of}
use Rattle.pulsar_cli.specs.declared.reading.Reading.{Reading}
use Rattle.pulsar_cli.specs.declared.stop.Stop.{Stop}
use Rattle.pulsar_cli.specs.declared.stop.Stop.TheVariants as stop
use Rattle.pulsar_cli.proofs.Splitting.{last-line}
use Rattle.pulsar_cli.proofs.Sinks.{adds-more, adds-nil, rose-from}

-- the run of the lines that were read
pub run-of : {ps : List Policy} {o : Options} {r : Reading} {put : List ℕ} {read : List (List ℕ)} {h : List Step} → Reads ps o r put read h → IsRunOf ps read h
run-of {ps = ps} {r = r} {h = h} reads = record { script = said (options_in ps r) h; is = reads.script; events = refl; good = reads.good }

-- text that waits is the back of the run's text
pub stopped : {ps : List Policy} {o : Options} {r : Reading} {put bytes : List ℕ} {read : List (List ℕ)} {h : List Step} {old now : Option (List ℕ)} (after : List (List ℕ)) → Reads ps o r put read h → Adds old now put → lines bytes ≡ read ++ after → IsStopped ps bytes old now
stopped {r = r} {put = put} {read = read} {h = h} after reads adds apart =
    record {
      before = read;
      after = after;
      apart = apart;
      history = h;
      run = run-of reads;
      begins = record { front = put; back = string_bytes r.out; whole = sym reads.text; adds = adds };
    }

-- a part of the text that waited was put
pub stopped-front : {ps : List Policy} {o : Options} {r : Reading} {put bytes : List ℕ} {read : List (List ℕ)} {h : List Step} {old now new : Option (List ℕ)} (after : List (List ℕ)) → Reads ps o r put read h → Adds old now put → AddsFront now new (string_bytes r.out) → lines bytes ≡ read ++ after → IsStopped ps bytes old new
stopped-front {r = r} {put = put} {read = read} {h = h} after reads adds more apart =
    record {
      before = read;
      after = after;
      apart = apart;
      history = h;
      run = run-of reads;
      begins = record {
        front = put ++ more.front;
        back = more.back;
        whole = sym reads.text ∙ ap (λ (t : List ℕ). put ++ t) more.whole ∙ sym (append_assoc put more.front more.back);
        adds = adds-more put more.front adds more.adds;
      };
    }

-- a reading stops within the bytes
pub prints-stopped : {ps : List Policy} {o : Options} {h : List Step} {r : Reading} {old now : Option (List ℕ)} {consumed : List ℕ} (future : List ℕ) → Prints ps o h r old now consumed → IsStopped ps (consumed ++ future) old now
prints-stopped {r = r} future p = stopped (lines (r.pending.items ++ future)) p.running.reads p.adds (p.running.splits.apart future)

pub prints-front : {ps : List Policy} {o : Options} {h : List Step} {r : Reading} {old now new : Option (List ℕ)} {consumed : List ℕ} (future : List ℕ) → Prints ps o h r old now consumed → AddsFront now new (string_bytes r.out) → IsStopped ps (consumed ++ future) old new
prints-front {r = r} future p more = stopped-front (lines (r.pending.items ++ future)) p.running.reads p.adds more (p.running.splits.apart future)

-- a turn stops by a line or by want of memory
pub halts-piece : {ps : List Policy} {o : Options} {h : List Step} {r r' : Reading} {old now : Option (List ℕ)} {consumed : List ℕ} (piece future : List ℕ) (s : Stop) (p : Prints ps o h r old now consumed) → ((s ≡ stop.Refused) ⊎ (s ≡ stop.NoMemory)) → (s ≡ stop.Refused → Refuses ps r' p.put (consumed ++ piece)) → Halts ps s r' old now (consumed ++ (piece ++ future))
halts-piece {consumed = consumed} piece future stop.Refused p either refuses =
    let bad = refuses refl in
    let rest = bad.apart future in
    record {
      o = bad.o;
      put = p.put;
      read = bad.read;
      history = bad.history;
      reads = bad.reads;
      bad = bad.bad;
      refused = bad.refused;
      after = rest.0;
      apart = ap lines (sym (append_assoc consumed piece future)) ∙ rest.1;
      adds = p.adds;
    }
halts-piece piece future stop.NoMemory p either refuses = prints-stopped (piece ++ future) p
halts-piece piece future stop.Source p either refuses = prints-stopped (piece ++ future) p
halts-piece piece future stop.Sink p either refuses = prints-stopped (piece ++ future) p
halts-piece piece future stop.TooLong p either refuses = prints-stopped (piece ++ future) p

-- the last line stops it
pub halts-line : {ps : List Policy} {o : Options} {h : List Step} {r r' : Reading} {old now : Option (List ℕ)} {consumed : List ℕ} (s : Stop) → Prints ps o h r old now consumed → (s ≡ stop.Refused → (r' ≡ r) × IsNoScriptWith r r.pending.items) → Halts ps s r' old now consumed
halts-line {ps = ps} {o = o} {h = h} {r = r} stop.Refused p refuses =
    let bad = refuses refl in
    record {
      o = o;
      put = p.put;
      read = p.running.read;
      history = h;
      reads = rw bad.0 p.running.reads;
      bad = r.pending.items;
      refused = bad.1 ps o p.put p.running.read h p.running.reads;
      after = [];
      apart = last-line p.running.splits;
      adds = p.adds;
    }
halts-line {r = r} stop.NoMemory p refuses = stopped (r.pending.items ∷ []) p.running.reads p.adds (last-line p.running.splits)
halts-line {r = r} stop.Source p refuses = stopped (r.pending.items ∷ []) p.running.reads p.adds (last-line p.running.splits)
halts-line {r = r} stop.Sink p refuses = stopped (r.pending.items ∷ []) p.running.reads p.adds (last-line p.running.splits)
halts-line {r = r} stop.TooLong p refuses = stopped (r.pending.items ∷ []) p.running.reads p.adds (last-line p.running.splits)

-- the last line was read, and the sink failed
pub halts-end : {ps : List Policy} {o : Options} {h : List Step} {r r' : Reading} {old now new : Option (List ℕ)} {consumed : List ℕ} (p : Prints ps o h r old now consumed) → Reads ps o r' p.put (p.running.read ++ r.pending.items ∷ []) h → AddsFront now new (string_bytes r'.out) → IsStopped ps consumed old new
halts-end {r = r} p reads more = stopped-front [] reads p.adds more (last-line p.running.splits ∙ sym (append-nil (p.running.read ++ r.pending.items ∷ [])))

-- the last line was read
pub ends-here : {ps : List Policy} {o : Options} {h : List Step} {r r' : Reading} {old now new : Option (List ℕ)} {consumed : List ℕ} (p : Prints ps o h r old now consumed) → Reads ps o r' p.put (p.running.read ++ r.pending.items ∷ []) h → Adds now new (string_bytes r'.out) → IsDone ps consumed old new
ends-here {h = h} p reads more =
    record {
      history = h;
      run = rw (last-line p.running.splits) (run-of reads);
      prints = rw (sym reads.text) (adds-more p.put _ p.adds more);
    }

-- the last line is an event
pub last-happens : {ps : List Policy} {o : Options} {h : List Step} {r r' : Reading} {old now : Option (List ℕ)} {consumed : List ℕ} {e : Heard} (p : Prints ps o h r old now consumed) → Reads ps o r' p.put p.running.read h → meaning r.pending.items ≡ Happens e → IsLast ps o h r' old now consumed e
last-happens {r = r} p reads happens =
    record {
      put = p.put;
      comes = record { read = p.running.read; reads = reads; line = r.pending.items; happens = happens };
      whole = last-line p.running.splits;
      adds = p.adds;
    }

pub printed-done : {ps : List Policy} {bytes : List ℕ} {old new : Option (List ℕ)} {faultless : Type 0} → IsDone ps bytes old new → Printed ps 0 bytes old new faultless
printed-done d = record { done = λ e. d; refused = λ e. absurd (omega (arith, e)); stopped = λ le. absurd (omega (arith, le)) }

pub printed-refused : {ps : List Policy} {bytes : List ℕ} {old new : Option (List ℕ)} {faultless : Type 0} → IsRefused ps bytes old new faultless → Printed ps 1 bytes old new faultless
printed-refused d = record { done = λ e. absurd (omega (arith, e)); refused = λ e. d; stopped = λ le. absurd (omega (arith, le)) }

pub printed-stopped : {ps : List Policy} {bytes : List ℕ} {old new : Option (List ℕ)} {faultless : Type 0} (status : ℕ) → 3 ≤ status → IsStopped ps bytes old new → Printed ps status bytes old new faultless
printed-stopped status ge d = record { done = λ e. absurd (omega (arith, e, ge)); refused = λ e. absurd (omega (arith, e, ge)); stopped = λ le. d }

-- a line isn't in the grammar, and memory runs out before its refusal
pub refusing-stopped : {ps : List Policy} {r : Reading} {old now : Option (List ℕ)} {bytes : List ℕ} → Refusing ps r old now bytes → IsStopped ps bytes old now
refusing-stopped p = stopped (p.bad ∷ p.after) p.reads p.adds p.apart

-- the text of the lines before, and the refusal
refused-text : {ps : List Policy} {r : Reading} {old now : Option (List ℕ)} {bytes : List ℕ} (held : List ℕ) (p : Refusing ps r old now bytes) → held ≡ string_bytes r.out ++ refusal r.line → text p.history ++ refusal (length p.read + 1) ≡ p.put ++ held
refused-text {r = r} held p out =
    ap (λ (t : List ℕ). t ++ refusal (length p.read + 1)) (sym p.reads.text)
    ∙ append_assoc p.put (string_bytes r.out) (refusal (length p.read + 1))
    ∙ ap (λ n. p.put ++ (string_bytes r.out ++ refusal n)) (sym p.reads.number)
    ∙ ap (λ (t : List ℕ). p.put ++ t) (sym out)

refused-here : {ps : List Policy} {r : Reading} {old now new : Option (List ℕ)} {bytes : List ℕ} {faultless : Type 0} (p : Refusing ps r old now bytes) → (faultless → Adds old new (text p.history ++ refusal (length p.read + 1))) → AddsFront old new (text p.history ++ refusal (length p.read + 1)) → IsRefused ps bytes old new faultless
refused-here p prints begins =
    record { before = p.read; bad = p.bad; after = p.after; apart = p.apart; refused = p.refused; history = p.history; run = run-of p.reads; prints = prints; begins = begins }

-- the refusal was put, or the sink failed
pub refused-put : {ps : List Policy} {r : Reading} {old now new : Option (List ℕ)} {bytes : List ℕ} {rose : Type 0} (held : List ℕ) (result : Result (Unit {0}) Stop) (p : Refusing ps r old now bytes) → held ≡ string_bytes r.out ++ refusal r.line → OnOk result (Adds now new held) → OnErr result (AddsFront now new held) → OnErr result rose → IsRefused ps bytes old new (rose → ⊥)
refused-put held (Ok done) p out put more rises =
    let e = refused-text held p out in
    let adds = adds-more p.put held p.adds put in
    refused-here p (λ faultless. rw e adds) (rw e (record { front = p.put ++ held; back = []; whole = sym (append-nil (p.put ++ held)); adds = adds }))
refused-put held (Err s) p out put more rises =
    let e = refused-text held p out in
    refused-here p (λ faultless. absurd (faultless rises)) (rw e (record { front = p.put ++ more.front; back = more.back; whole = ap (λ (t : List ℕ). p.put ++ t) more.whole ∙ sym (append_assoc p.put more.front more.back); adds = adds-more p.put more.front p.adds more.adds }))

pub prints-new : {ps : List Policy} {o : Options} {h : List Step} {r : Reading} (now : Option (List ℕ)) → Running ps o h r [] [] → Prints ps o h r now now []
prints-new now run = record { put = []; running = run; adds = adds-nil now }

-- a turn's faults are those of the sink
pub turn-faults : (s : Stop) (x y a b d : ℕ) → a ≤ b → InTurn s b d → Faults s x y a d
turn-faults stop.Refused x y a b d le in' = tt
turn-faults stop.NoMemory x y a b d le in' = tt
turn-faults stop.Source x y a b d le in' = absurd in'
turn-faults stop.Sink x y a b d le in' = rose-from a b d le in'
turn-faults stop.TooLong x y a b d le in' = absurd in'

pub ends-faults : (result : Result (Unit {0}) Stop) (x y a b d : ℕ) → a ≤ b → IfErr result (λ s. InTurn s b d) → IfErr result (λ s. Faults s x y a d)
ends-faults (Ok done) x y a b d le in' = tt
ends-faults (Err s) x y a b d le in' = turn-faults s x y a b d le in'

-- a turn isn't too long
pub turn-status : (s : Stop) (b d : ℕ) → InTurn s b d → status_of s ≡ 6 → ⊥
turn-status stop.Refused b d in' e = absurd (omega (arith, e))
turn-status stop.NoMemory b d in' e = absurd (omega (arith, e))
turn-status stop.Source b d in' e = in'
turn-status stop.Sink b d in' e = absurd (omega (arith, e))
turn-status stop.TooLong b d in' e = in'

pub ends-status : (result : Result (Unit {0}) Stop) (b d : ℕ) → IfErr result (λ s. InTurn s b d) → read_status result ≡ 6 → ⊥
ends-status (Ok done) b d in' e = absurd (omega (arith, e))
ends-status (Err s) b d in' e = turn-status s b d in' e

-- a buffer that is written back keeps its size
pub size-kept : (n : ℕ) (xs ys : List ℕ) → length ys ≡ n → length (take n (xs ++ drop (length xs) ys)) ≡ n
size-kept n xs ys e =
    let a = length-append xs (drop (length xs) ys) in
    let b = length-drop (length xs) ys in
    length-take-le n (xs ++ drop (length xs) ys) (omega arith)

-- a buffer of its size is written whole
pub written : (n : ℕ) (xs ys : List ℕ) → length xs ≡ n → length ys ≡ n → take n (xs ++ drop (length xs) ys) ≡ xs
written n xs ys x y =
    let none : drop (length xs) ys ≡ [] = drop_of_length-le ys (omega arith) in
    ap (λ (t : List ℕ). take n (xs ++ t)) none ∙ ap (take n) (append-nil xs) ∙ ap (λ k. take k xs) (sym x) ∙ take-length xs

-- nothing was read
pub stopped-new : (ps : List Policy) (bytes : List ℕ) (now : Option (List ℕ)) → IsStopped ps bytes now now
stopped-new ps bytes now =
    record {
      before = [];
      after = lines bytes;
      apart = refl;
      history = [];
      run = record { script = blank ps; is = refl; events = refl; good = record { log = []; run = tt; rests = refl; same = refl } };
      begins = record { front = []; back = []; whole = refl; adds = adds-nil now };
    }

-- a sink that had no fault had none at the end
pub printed-faultless : {ps : List Policy} {status : ℕ} {bytes : List ℕ} {old new : Option (List ℕ)} {f g : Type 0} → (g → f) → Printed ps status bytes old new f → Printed ps status bytes old new g
printed-faultless weaker r =
    record {
      done = r.done;
      refused = λ e. let i = r.refused e in record { before = i.before; bad = i.bad; after = i.after; apart = i.apart; refused = i.refused; history = i.history; run = i.run; prints = λ h. i.prints (weaker h); begins = i.begins };
      stopped = r.stopped;
    }
