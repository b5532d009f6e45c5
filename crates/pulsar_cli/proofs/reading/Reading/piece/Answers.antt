use Rattle.std.proofs.Common.{rules, ◌≡◌, ◌∷◌, ◌++◌, ◌∙◌, sym, [], Err, None}
use Rattle.pulsar_grammar.specs.Parsed.{IsWithinLine}
use Rattle.pulsar_cli.specs.declared.stop.Stop.TheVariants as stop
use Rattle.pulsar_cli.proofs.Readings.{behind-line, event-read, line-happens, line-read, nothing-read, refuses-here, runs-on, same-front}
use Rattle.pulsar_cli.proofs.reading.Reading.piece.Goals as goal

pub returns-in_err-event-clause-refused : goal.returns-in_err-event-clause-refused
returns-in_err-event-clause-refused c = λ is ps o h put consumed run.
    let inv = c.loop-end.invariant.runs ps o h put consumed run in
    let e = c.in-Some.end.now in
    let after = c.in-Some.after.now in
    let same : c.line.result ≡ Err stop.Refused = search rules in
    let bad = c.in_err-event.ensures.refused (sym c.in_err-event.was ∙ same) in
    let reads = c.in_ok-more.ensures.kept ps o put inv.2.read h inv.2.reads in
    refuses-here e c.more.new.self.pending.items after (consumed ++ c.args.piece.now) inv.2 c.in-Some.ensures.0 c.in_ok-more.ensures.ok (rw bad.0 reads) (bad.1 ps o put inv.2.read h reads) (behind-line inv.0 e c.loop-end.rest.now after (consumed ++ c.args.piece.now) c.in-Some.ensures.1 inv.1)

pub returns-in-Some-2-clause-ok : goal.returns-in-Some-2-clause-ok
returns-in-Some-2-clause-ok c = λ ps o h put consumed run.
    let inv = c.loop-end.invariant.runs ps o h put consumed run in
    let behind = c.loop-end.invariant.behind in
    let e = c.in-Some.end.now in
    let after = c.in-Some.after.now in
    let found = event-read c.more.new.self c.line.new.self c.more.new.self.pending.items c.in_ok-event.field-0 c.in-Some-2.event c.in-Some-2.is c.in_ok-event.ensures.reads in
    let reads = found.1 ps o put inv.2.read h (c.in_ok-more.ensures.kept ps o put inv.2.read h inv.2.reads) in
    let whole = behind-line inv.0 e c.loop-end.rest.now after (consumed ++ c.args.piece.now) c.in-Some.ensures.1 inv.1 in
    let parts : (behind.0 ++ (e ++ 10 ∷ [])) ++ after ≡ c.args.piece.now = behind-line behind.0 e c.loop-end.rest.now after c.args.piece.now c.in-Some.ensures.1 behind.1 in
    line-happens e c.more.new.self.pending.items _ inv.2 c.in-Some.ensures.0 c.in_ok-more.ensures.ok reads found.0 c.in_ok-event.ensures.ok
    (same-front (inv.0 ++ (e ++ 10 ∷ [])) consumed (behind.0 ++ (e ++ 10 ∷ [])) after c.args.piece.now _ (search rules) whole parts)

pub loop-end-preserved : goal.loop-end-preserved
loop-end-preserved c =
    let none : c.in_ok-event.field-0 ≡ None = search rules in
    let more = nothing-read c.more.new.self c.line.new.self c.more.new.self.pending.items c.in_ok-event.field-0 none c.in_ok-event.ensures.reads in
    let e = c.in-Some.end.now in
    let after = c.in-Some.after.now in
    let behind = c.loop-end.invariant.behind in
    record {
      runs = λ ps o h put consumed run.
          let inv = c.loop-end.invariant.runs ps o h put consumed run in
          let reads = c.in_ok-more.ensures.kept ps o put inv.2.read h inv.2.reads in
          (inv.0 ++ (e ++ 10 ∷ []), behind-line inv.0 e c.loop-end.rest.now after (consumed ++ c.args.piece.now) c.in-Some.ensures.1 inv.1, line-read e c.more.new.self.pending.items inv.2 c.in-Some.ensures.0 c.in_ok-more.ensures.ok (more ps o put inv.2.read h reads) c.in_ok-event.ensures.ok);
      behind = (behind.0 ++ (e ++ 10 ∷ []), behind-line behind.0 e c.loop-end.rest.now after c.args.piece.now c.in-Some.ensures.1 behind.1);
    }

pub returns-clause-ok : goal.returns-clause-ok
returns-clause-ok c = λ ps o h put consumed run.
    let inv = c.loop-end.invariant.runs ps o h put consumed run in
    let w : IsWithinLine c.loop-end.rest.now = search rules in
    runs-on c.loop-end.rest.now (consumed ++ c.args.piece.now) inv.2 w (c.in_ok-more-2.ensures.kept ps o put inv.2.read h inv.2.reads) c.in_ok-more-2.ensures.ok inv.1
