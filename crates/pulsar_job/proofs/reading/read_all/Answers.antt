use Rattle.std.proofs.Common.{arith, ◌≡◌, ◌<◌, ◌∙◌, ◌++◌, ap, sym, subst, ℕ, List, length, length-append, take}
use Rattle.std.proofs.lemmas.List.{length-take-le}
use Rattle.pulsar_job.specs.Outside.{Gave}
use Rattle.pulsar_job.proofs.Gives.{gave-end, gave-more, gave-no-more}
use Rattle.pulsar_job.proofs.Goings.{lent-back}
use Rattle.pulsar_job.proofs.reading.read_all.Goals as goal

pub returns-then-n-eq0-clause-gave : goal.returns-then-n-eq0-clause-gave
returns-then-n-eq0-clause-gave g c = gave-no-more c.loop.bytes.items c.in-Ok-take.n c.if-n-eq0.true c.loop.invariant.gave c.in-Ok-take.ensures.rest

pub returns-then-n-eq0-clause-end : goal.returns-then-n-eq0-clause-end
returns-then-n-eq0-clause-end g c =
    let same : length c.take.new.buf ≡ length c.deref_mut.result.now = c.take.auto.buf in
    let items : length c.deref_mut.result.now ≡ length c.loop.piece.items = ap (λ (t : List ℕ). length t) c.deref_mut.ensures.value in
    let size = c.loop.invariant.size in
    let some : 0 < length c.take.new.buf = omega (arith, same, items, size) in
    gave-end c.loop.bytes.items c.take.new.buf c.in-Ok-take.n c.if-n-eq0.true some c.loop.invariant.gave c.in-Ok-take.ensures.taken c.in-Ok-take.ensures.rest

pub returns-in_default-checked_sub-clause-stopped : goal.returns-in_default-checked_sub-clause-stopped
returns-in_default-checked_sub-clause-stopped g c =
    let same : length c.take.new.buf ≡ length c.deref_mut.result.now = c.take.auto.buf in
    let within = c.in-Ok-take.ensures.within in
    let size = length-append c.loop.bytes.items (take c.in-Ok-take.n c.take.new.buf) in
    let more = length-take-le c.in-Ok-take.n c.take.new.buf (omega (arith, same, within)) in
    let count = c.loop.invariant.count in
    record {
      bytes = c.loop.bytes.items ++ take c.in-Ok-take.n c.take.new.buf;
      gave = gave-more c.loop.bytes.items c.take.new.buf c.in-Ok-take.n c.loop.invariant.gave c.in-Ok-take.ensures.taken c.in-Ok-take.ensures.rest;
      why = omega (arith, size, more, count, c.in_default-checked_sub.ensures);
    }

pub returns-in_default-extend_from_slice-clause-stopped : goal.returns-in_default-extend_from_slice-clause-stopped
returns-in_default-extend_from_slice-clause-stopped g c =
    let same : length c.take.new.buf ≡ length c.deref_mut.result.now = c.take.auto.buf in
    let within = c.in-Ok-take.ensures.within in
    let size = length-append c.loop.bytes.items (take c.in-Ok-take.n c.take.new.buf) in
    let more = length-take-le c.in-Ok-take.n c.take.new.buf (omega (arith, same, within)) in
    let count = c.loop.invariant.count in
    record {
      bytes = c.loop.bytes.items ++ take c.in-Ok-take.n c.take.new.buf;
      gave = gave-more c.loop.bytes.items c.take.new.buf c.in-Ok-take.n c.loop.invariant.gave c.in-Ok-take.ensures.taken c.in-Ok-take.ensures.rest;
      why = omega (arith, size, more, count, c.in-Some.ensures);
    }

pub loop-preserved : goal.loop-preserved
loop-preserved g c =
    let same : length c.take.new.buf ≡ length c.deref_mut.result.now = c.take.auto.buf in
    let items : length c.deref_mut.result.now ≡ length c.loop.piece.items = ap (λ (t : List ℕ). length t) c.deref_mut.ensures.value in
    let within = c.in-Ok-take.ensures.within in
    let whole = c.loop.invariant.size in
    let piece = lent-back c.take.new.buf c.loop.piece.items c.loop.piece.len (same ∙ items) c.loop.piece.ok.0 in
    let size = length-append c.loop.bytes.items (take c.in-Ok-take.n c.take.new.buf) in
    let more = length-take-le c.in-Ok-take.n c.take.new.buf (omega (arith, same, within)) in
    let count = c.loop.invariant.count in
    let bytes : c.extend_from_slice.new.self.items ≡ c.loop.bytes.items ++ take c.in-Ok-take.n c.take.new.buf =
    c.in-Ok-extend_from_slice.ensures.items ∙ ap (λ (t : List ℕ). c.loop.bytes.items ++ take c.in-Ok-take.n t) (c.deref.ensures.value ∙ piece) in
    let grown = ap (λ (t : List ℕ). length t) bytes in
    record {
      gave = subst (λ (z : List ℕ). Gave (g.S.Source.left c.args.source.now) (g.S.Source.left c.take.new.self) z) (sym bytes)
          (gave-more c.loop.bytes.items c.take.new.buf c.in-Ok-take.n c.loop.invariant.gave c.in-Ok-take.ensures.taken c.in-Ok-take.ensures.rest);
      count = omega (arith, grown, size, more, count, c.in-Some.ensures);
      size = subst (λ (t : List ℕ). 0 < length t) (sym piece) (omega (arith, same, items, whole));
      faults = omega (arith, c.loop.invariant.faults, c.in-Ok-take.ensures.grows);
    }
