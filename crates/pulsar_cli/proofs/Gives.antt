-- What a source gives, what is read of it, and how a script's run ends.
use Rattle.std.proofs.Common.{inl, inr, ◌≡◌, ℕ, ◌≤◌, ◌<◌, ◌∙◌, sym, ap, List, [], ◌++◌, refl, arith, Option, Some, None, length, take, drop, subst, append_assoc, append-nil, length-append}
use Rattle.std.specs.Prelude.{◌↔◌, Result, Ok, Err, IfErr, MatchResult}
use Rattle.std.proofs.lemmas.List.{take-append-drop}
use Rattle.std.proofs.lemmas.Option.{none-some}
use Rattle.std.proofs.Math.Seq.{drop-append_seam, drop-length}
use Rattle.pulsar_producer.specs.Routing.{Policy}
use Rattle.pulsar_streams.specs.Outside.{Rose, Takes}
use Rattle.pulsar_cli.specs.Script.{Given, HasFault, IsDone, Printed, Ran, Seen, limit}
use Rattle.pulsar_cli.specs.Shown.{Faults, Gave, Halts, HasRead, Told, read_status, status_of}
use Rattle.pulsar_cli.specs.declared.reading.Reading.{Reading}
use Rattle.pulsar_cli.specs.declared.stop.Stop.{Stop}
use Rattle.pulsar_cli.specs.declared.stop.Stop.TheVariants as stop
use Rattle.pulsar_cli.proofs.Prints.{printed-done, printed-stopped, stopped-new}

pub gave-none : (now : Option (List ℕ)) → Gave now now []
gave-none now all h = (all, refl, h)

pub gave-same : {a b c : Option (List ℕ)} (bytes : List ℕ) → Gave a b bytes → c ≡ b → Gave a c bytes
gave-same bytes g e all h = let at = g all h in (at.0, at.1, e ∙ at.2)

-- and then n bytes more
pub gave-more : {a b c : Option (List ℕ)} (bytes buf : List ℕ) (n : ℕ) → Gave a b bytes → ((left : List ℕ) → b ≡ Some left → Takes left n buf) → ((left : List ℕ) → b ≡ Some left → c ≡ Some (drop n left)) → Gave a c (bytes ++ take n buf)
gave-more bytes buf n g takes rest all h =
    let at = g all h in
    let parts : at.0 ≡ take n buf ++ drop n at.0 = sym (take-append-drop n at.0) ∙ ap (λ (t : List ℕ). t ++ drop n at.0) (sym (takes at.0 at.2).bytes) in
    (drop n at.0, at.1 ∙ ap (λ (t : List ℕ). bytes ++ t) parts ∙ sym (append_assoc bytes (take n buf) (drop n at.0)), rest at.0 at.2)

abbrev content_or : List ℕ → Option (List ℕ) → List ℕ
content_or bytes None = bytes
content_or bytes (Some content) = content

pub some-same : (a b : List ℕ) → Some a ≡ Some b → a ≡ b
some-same a b h = ap (content_or a) h

-- what is left behind the bytes that were taken
pub left-behind : (old new : Option (List ℕ)) (bytes : List ℕ) → Gave old new bytes → (rest : List ℕ) × ((all : List ℕ) → old ≡ Some all → (all ≡ bytes ++ rest) × (new ≡ Some rest))
left-behind None new bytes g = ([], λ all h. absurd (none-some all h))
left-behind (Some x) new bytes g =
    let at = g x refl in (at.0, λ all h. (sym (some-same x all h) ∙ at.1, at.2))

-- the source is left within what it has
abbrev pub given : (source : Seen) (bytes : List ℕ) → Gave source.before source.after bytes → Given source
given source bytes g =
    let behind = left-behind source.before source.after bytes g in
    let size = length-append bytes behind.0 in
    record {
      bytes = bytes ++ behind.0;
      count = length bytes;
      within = omega arith;
      had = λ all h. (behind.1 all h).0;
      has = λ all h. (behind.1 all h).1 ∙ ap (λ (t : List ℕ). Some t) (sym (drop-append_seam bytes behind.0));
    }

-- the source was read to its end
abbrev pub given-whole : (source : Seen) (bytes : List ℕ) → Gave source.before source.after bytes → ((all : List ℕ) → source.before ≡ Some all → source.after ≡ Some []) → Given source
given-whole source bytes g end =
    record {
      bytes = bytes;
      count = length bytes;
      within = omega arith;
      had = λ all h. let at = g all h in at.1 ∙ ap (λ (t : List ℕ). bytes ++ t) (some-same at.0 [] (sym at.2 ∙ end all h)) ∙ append-nil bytes;
      has = λ all h. end all h ∙ ap (λ (t : List ℕ). Some t) (sym (drop-length bytes));
    }

-- the reading stopped behind these bytes
pub read-halts : {ps : List Policy} {r : Reading} (s : Stop) (source sink : Seen) (bytes : List ℕ) → Gave source.before source.after bytes → ((rest : List ℕ) → Halts ps s r sink.before sink.after (bytes ++ rest)) → Faults s source.faults_before source.faults_after sink.faults_before sink.faults_after → ((status_of s ≡ 6) ↔ (limit < length bytes)) → HasRead ps (Err s) r source sink
read-halts s source sink bytes g halts faults limits =
    record {
      given = given source bytes g;
      done = tt;
      halts = halts (left-behind source.before source.after bytes g).0;
      faults = faults;
      limits = limits;
    }

-- the reading came to the end of the source
pub read-ends : {ps : List Policy} {r : Reading} (result : Result (Unit {0}) Stop) (source sink : Seen) (bytes : List ℕ) → Gave source.before source.after bytes → ((all : List ℕ) → source.before ≡ Some all → source.after ≡ Some []) → length bytes ≤ limit → MatchResult result (λ done. IsDone ps bytes sink.before sink.after) (λ s. Halts ps s r sink.before sink.after bytes) → IfErr result (λ s. Faults s source.faults_before source.faults_after sink.faults_before sink.faults_after) → (read_status result ≡ 6 → ⊥) → HasRead ps result r source sink
read-ends (Ok done) source sink bytes g end le ends faults within =
    record {
      given = given-whole source bytes g end;
      done = (ends, refl);
      halts = tt;
      faults = tt;
      limits = (λ e. absurd (within e), λ lt. absurd (omega (arith, le, lt)));
    }
read-ends (Err s) source sink bytes g end le ends faults within =
    record {
      given = given-whole source bytes g end;
      done = tt;
      halts = ends;
      faults = faults;
      limits = (λ e. absurd (within e), λ lt. absurd (omega (arith, le, lt)));
    }

-- nothing was read
pub ran-new : (ps : List Policy) (source sink : Seen) → source.after ≡ source.before → sink.after ≡ sink.before → Ran ps 3 source sink
ran-new ps source sink same kept =
    let g : Gave source.before source.after [] = gave-same [] (gave-none source.before) same in
    record {
      known = (omega arith, λ e. absurd (omega (arith, e)));
      given = given source [] g;
      printed = printed-stopped 3 (omega arith) (rw kept (stopped-new ps (given source [] g).bytes sink.before));
      whole = λ e. absurd (omega (arith, e));
      source_failed = λ e. absurd (omega (arith, e));
      sink_failed = λ e. absurd (omega (arith, e));
      limits = (λ e. absurd (omega (arith, e)), λ lt. absurd (omega (arith, lt)));
    }

-- all was read
pub ran-done : {ps : List Policy} {r : Reading} {source sink : Seen} → HasRead ps (Ok tt) r source sink → Ran ps 0 source sink
ran-done h =
    record {
      known = (omega arith, λ e. absurd (omega (arith, e)));
      given = h.given;
      printed = printed-done h.done.0;
      whole = λ e. h.done.1;
      source_failed = λ e. absurd (omega (arith, e));
      sink_failed = λ e. absurd (omega (arith, e));
      limits = h.limits;
    }

-- a status tells of its stop, and of no form
told-known : (result : ℕ) (s : Stop) → Told result s → (result ≤ 6) × (result ≡ 2 → ⊥)
told-known result stop.Refused (inl e) = (omega (arith, e), λ h. absurd (omega (arith, e, h)))
told-known result stop.NoMemory (inl e) = (omega (arith, e), λ h. absurd (omega (arith, e, h)))
told-known result stop.Source (inl e) = (omega (arith, e), λ h. absurd (omega (arith, e, h)))
told-known result stop.Sink (inl e) = (omega (arith, e), λ h. absurd (omega (arith, e, h)))
told-known result stop.TooLong (inl e) = (omega (arith, e), λ h. absurd (omega (arith, e, h)))
told-known result s (inr t) = (omega (arith, t.1), λ h. absurd (omega (arith, t.1, h)))

told-nonzero : (result : ℕ) (s : Stop) → Told result s → result ≡ 0 → ⊥
told-nonzero result stop.Refused (inl e) h = absurd (omega (arith, e, h))
told-nonzero result stop.NoMemory (inl e) h = absurd (omega (arith, e, h))
told-nonzero result stop.Source (inl e) h = absurd (omega (arith, e, h))
told-nonzero result stop.Sink (inl e) h = absurd (omega (arith, e, h))
told-nonzero result stop.TooLong (inl e) h = absurd (omega (arith, e, h))
told-nonzero result s (inr t) h = absurd (omega (arith, t.1, h))

told-source : (result : ℕ) (s : Stop) (x y a b : ℕ) → Told result s → Faults s x y a b → result ≡ 4 → Rose x y
told-source result stop.Refused x y a b (inl e) f h = absurd (omega (arith, e, h))
told-source result stop.NoMemory x y a b (inl e) f h = absurd (omega (arith, e, h))
told-source result stop.Source x y a b (inl e) f h = f
told-source result stop.Sink x y a b (inl e) f h = absurd (omega (arith, e, h))
told-source result stop.TooLong x y a b (inl e) f h = absurd (omega (arith, e, h))
told-source result s x y a b (inr t) f h = absurd (omega (arith, t.1, h))

-- the stops are apart
abbrev IsRefusal : Stop → Type 0
IsRefusal stop.Refused = Unit {0}
IsRefusal _ = ⊥

sink-is-not-refused : stop.Sink ≡ stop.Refused → ⊥
sink-is-not-refused e = subst IsRefusal (sym e) tt

-- nothing is put behind a fault of the sink
told-sink : (result : ℕ) (s : Stop) (x y a b d : ℕ) → Told result s → Faults s x y a b → ((s ≡ stop.Refused → ⊥) → d ≡ b) → result ≡ 5 → Rose a d
told-sink result stop.Refused x y a b d (inl e) f kept h = absurd (omega (arith, e, h))
told-sink result stop.NoMemory x y a b d (inl e) f kept h = absurd (omega (arith, e, h))
told-sink result stop.Source x y a b d (inl e) f kept h = absurd (omega (arith, e, h))
told-sink result stop.Sink x y a b d (inl e) f kept h = rw (kept (λ is. sink-is-not-refused is)) f
told-sink result stop.TooLong x y a b d (inl e) f kept h = absurd (omega (arith, e, h))
told-sink result s x y a b d (inr t) f kept h = absurd (omega (arith, t.1, h))

told-limits : {P : Type 0} (result : ℕ) (s : Stop) → Told result s → ((status_of s ≡ 6) ↔ P) → (result ≡ 6) ↔ P
told-limits result s (inl e) l = rw e l
told-limits result s (inr t) l = (λ e. absurd (omega (arith, t.1, e)), λ p. absurd (omega (arith, ap status_of t.0, l.1 p)))

-- the reading stopped
pub ran-halted : {ps : List Policy} {r : Reading} (result : ℕ) (s : Stop) (source mid sink : Seen) (h : HasRead ps (Err s) r source mid) → Told result s → mid.faults_before ≡ sink.faults_before → ((s ≡ stop.Refused → ⊥) → sink.faults_after ≡ mid.faults_after) → Printed ps result h.given.bytes sink.before sink.after (HasFault sink → ⊥) → Ran ps result source sink
ran-halted result s source mid sink h told same kept printed =
    record {
      known = told-known result s told;
      given = h.given;
      printed = printed;
      whole = λ e. absurd (told-nonzero result s told e);
      source_failed = told-source result s _ _ _ _ told h.faults;
      sink_failed = rw (sym same) (told-sink result s _ _ _ _ _ told h.faults kept);
      limits = told-limits result s told h.limits;
    }
