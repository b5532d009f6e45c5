use Rattle.std.proofs.Common.{List, ◌≡◌, ℕ, ◌-◌, ◌+◌, ◌∷◌, arith}
use Rattle.std.proofs.lemmas.List.{nil_from_length}
use Rattle.pulsar_wire.proofs.Varints.{Reads, Reads-scale, digit-fits, Reads-more, Reads-end, Reads-tenth, Reads-too_far, Reads-short, Reads-byte}
use Rattle.pulsar_wire.proofs.encoding.field.read_long_varint.Goals as goal

pub returns-in_err-b : goal.returns-in_err-b
returns-in_err-b c =
    rw c.from_residual.ensures (let r = rw (nil_from_length c.loop.rest.now c.in_err-b.ensures.cases) at c.loop.invariant in Reads-short c.args.bytes.now _ _ _ r)

pub returns-in_err-last : goal.returns-in_err-last
returns-in_err-last c =
    rw c.from_residual-in_err-last.ensures (let r = rw (nil_from_length c.loop.rest.now c.in_err-last.ensures.cases) at c.loop.invariant in Reads-short c.args.bytes.now _ _ _ r)

pub overflow_mul-result : goal.overflow_mul-result
overflow_mul-result c =
    let r = Reads-byte c.args.bytes.now c.loop.rest.now c.in_ok-b.after.now (9 - c.loop.counter) (8 - c.loop.counter) c.in_ok-b.b.now c.from-b.result c.loop.value c.loop.scale (omega arith) c.in_ok-b.ensures.cases.0 c.from-b.ensures c.loop.invariant in
    omega (arith, Reads-scale _ _ _ _ _ r, digit-fits c.loop.value c.loop.scale c.from-b.result 128 r.below c.if-b-lt128.true)

pub overflow_add-result : goal.overflow_add-result
overflow_add-result c =
    let r = Reads-byte c.args.bytes.now c.loop.rest.now c.in_ok-b.after.now (9 - c.loop.counter) (8 - c.loop.counter) c.in_ok-b.b.now c.from-b.result c.loop.value c.loop.scale (omega arith) c.in_ok-b.ensures.cases.0 c.from-b.ensures c.loop.invariant in
    omega (arith, Reads-scale _ _ _ _ _ r, digit-fits c.loop.value c.loop.scale c.from-b.result 128 r.below c.if-b-lt128.true)

pub returns-then-b-lt128 : goal.returns-then-b-lt128
returns-then-b-lt128 c =
    let r = Reads-byte c.args.bytes.now c.loop.rest.now c.in_ok-b.after.now (9 - c.loop.counter) (8 - c.loop.counter) c.in_ok-b.b.now c.from-b.result c.loop.value c.loop.scale (omega arith) c.in_ok-b.ensures.cases.0 c.from-b.ensures c.loop.invariant in
    Reads-end c.args.bytes.now _ _ _ _ _ c.if-b-lt128.true r

pub overflow_mul-value : goal.overflow_mul-value
overflow_mul-value c =
    let r = Reads-byte c.args.bytes.now c.loop.rest.now c.in_ok-b.after.now (9 - c.loop.counter) (8 - c.loop.counter) c.in_ok-b.b.now c.from-b.result c.loop.value c.loop.scale (omega arith) c.in_ok-b.ensures.cases.0 c.from-b.ensures c.loop.invariant in
    omega (arith, Reads-scale _ _ _ _ _ r, digit-fits c.loop.value c.loop.scale (c.from-b.result - 128) 128 r.below (omega arith))

pub overflow_add-value : goal.overflow_add-value
overflow_add-value c =
    let r = Reads-byte c.args.bytes.now c.loop.rest.now c.in_ok-b.after.now (9 - c.loop.counter) (8 - c.loop.counter) c.in_ok-b.b.now c.from-b.result c.loop.value c.loop.scale (omega arith) c.in_ok-b.ensures.cases.0 c.from-b.ensures c.loop.invariant in
    omega (arith, Reads-scale _ _ _ _ _ r, digit-fits c.loop.value c.loop.scale (c.from-b.result - 128) 128 r.below (omega arith))

pub overflow_mul-scale : goal.overflow_mul-scale
overflow_mul-scale c =
    let r = Reads-byte c.args.bytes.now c.loop.rest.now c.in_ok-b.after.now (9 - c.loop.counter) (8 - c.loop.counter) c.in_ok-b.b.now c.from-b.result c.loop.value c.loop.scale (omega arith) c.in_ok-b.ensures.cases.0 c.from-b.ensures c.loop.invariant in
    omega (arith, Reads-scale _ _ _ _ _ r)

pub loop-preserved : goal.loop-preserved
loop-preserved c =
    let r = Reads-byte c.args.bytes.now c.loop.rest.now c.in_ok-b.after.now (9 - c.loop.counter) (9 - (c.loop.counter + 1)) c.in_ok-b.b.now c.from-b.result c.loop.value c.loop.scale (omega arith) c.in_ok-b.ensures.cases.0 c.from-b.ensures c.loop.invariant in
    Reads-more c.args.bytes.now _ _ _ _ _ c.if-b-lt128.false (omega arith) r

tenth : (bytes rest after : List ℕ) (n first b v s : ℕ) → n ≡ 0 → rest ≡ first ∷ after → b ≡ first → Reads bytes n rest v s → Reads bytes 0 (b ∷ after) v s
tenth bytes rest after n first b v s e1 e2 e3 r = rw (e3, ← e2, ← e1) r

pub returns-then-last-lt2 : goal.returns-then-last-lt2
returns-then-last-lt2 c =
    let r = tenth c.args.bytes.now c.loop.rest.now c.in_ok-last.after.now (9 - c.loop.counter) c.in_ok-last.last.now c.from-last.result c.loop.value c.loop.scale (omega arith) c.in_ok-last.ensures.cases.0 c.from-last.ensures c.loop.invariant in
    Reads-tenth c.args.bytes.now _ _ _ _ c.if-last-lt2.true r

pub returns-else-last-lt2 : goal.returns-else-last-lt2
returns-else-last-lt2 c =
    let r = tenth c.args.bytes.now c.loop.rest.now c.in_ok-last.after.now (9 - c.loop.counter) c.in_ok-last.last.now c.from-last.result c.loop.value c.loop.scale (omega arith) c.in_ok-last.ensures.cases.0 c.from-last.ensures c.loop.invariant in
    Reads-too_far c.args.bytes.now _ _ _ _ c.if-last-lt2.false r
