use Rattle.std.proofs.Common.{rules, arith, ◌≡◌, ◌+◌, ◌≤◌, ◌<◌, sym, length, take, drop}
use Rattle.std.proofs.Math.Seq.{take-add}
use Rattle.std.proofs.lemmas.List.{length-drop}
use Rattle.pulsar_job.specs.Outside.{Adds}
use Rattle.pulsar_grammar.proofs.Lines.{behind-at}
use Rattle.pulsar_job.proofs.Sinks.{adds-front, adds-more, adds-same, rose-from}
use Rattle.pulsar_job.proofs.putting.put_all.Goals as goal

pub returns-in_default-clause-front : goal.returns-in_default-clause-front
returns-in_default-clause-front g c = adds-front c.loop-done.done c.args.bytes.now (adds-same (take c.loop-done.done c.args.bytes.now) c.loop-done.invariant.adds c.in_default.ensures.kept)

pub returns-in_default-clause-rises : goal.returns-in_default-clause-rises
returns-in_default-clause-rises g c = rose-from _ _ _ c.loop-done.invariant.grows c.in_default.ensures.rises

pub returns-then-n-eq0-clause-front : goal.returns-then-n-eq0-clause-front
returns-then-n-eq0-clause-front g c =
    let rest = behind-at c.loop-done.done c.args.bytes.now in
    let more : Adds (g.K.Sink.holds c.loop-done.sink) (g.K.Sink.holds c.put.new.self) (take c.in-Ok.n (drop c.loop-done.done c.args.bytes.now)) = rw (sym rest) c.in-Ok.ensures.held in
    adds-front (c.loop-done.done + c.in-Ok.n) c.args.bytes.now (rw (take-add c.loop-done.done c.in-Ok.n c.args.bytes.now) (adds-more _ _ c.loop-done.invariant.adds more))

pub returns-then-n-eq0-clause-rises : goal.returns-then-n-eq0-clause-rises
returns-then-n-eq0-clause-rises g c =
    let n : c.in-Ok.n ≡ 0 = search rules in
    let rest = behind-at c.loop-done.done c.args.bytes.now in
    let size = length-drop c.loop-done.done c.args.bytes.now in
    let some : 0 < length (drop c.loop-done.done c.args.bytes.now) = omega (arith, c.loop-done-test.true) in
    rose-from _ _ _ c.loop-done.invariant.grows (c.in-Ok.ensures.full n (rw rest some))

pub loop-done-preserved : goal.loop-done-preserved
loop-done-preserved g c =
    let rest = behind-at c.loop-done.done c.args.bytes.now in
    let size = length-drop c.loop-done.done c.args.bytes.now in
    let more : Adds (g.K.Sink.holds c.loop-done.sink) (g.K.Sink.holds c.put.new.self) (take c.in-Ok.n (drop c.loop-done.done c.args.bytes.now)) = rw (sym rest) c.in-Ok.ensures.held in
    let within : c.in-Ok.n ≤ length (drop c.loop-done.done c.args.bytes.now) = rw (sym rest) c.in-Ok.ensures.within in
    record {
      within = omega (arith, c.loop-done-test.true);
      adds = rw (take-add c.loop-done.done c.in-Ok.n c.args.bytes.now) (adds-more _ _ c.loop-done.invariant.adds more);
      grows = omega (arith, c.loop-done.invariant.grows, c.in-Ok.ensures.grows);
    }
