use Rattle.std.proofs.Common.{◌≡◌, ℕ, suc, ◌-◌, ◌+◌, arith, subst}
use Rattle.std.proofs.lemmas.Result.{on_ok_weaker}
use Rattle.pulsar_wire.proofs.Numbers.{Writes, Writes-last, Writes-end, Writes-more}
use Rattle.pulsar_wire.proofs.encoding.sink.push_varint.Goals as goal

pub returns-then-rest-lt128-clause-ok : goal.returns-then-rest-lt128-clause-ok
returns-then-rest-lt128-clause-ok g c =
    let k : 9 - c.loop.counter ≡ suc (8 - c.loop.counter) = omega arith in
    let w = subst (λ (m : ℕ). Writes g.S.Sink.Holds c.args.out.now c.loop.out c.args.n m c.loop.rest) k c.loop.invariant in
    on_ok_weaker c.push_byte.result (λ d. Writes-last g.S.Sink.Holds c.args.out.now c.loop.out c.push_byte.new.self c.args.n (8 - c.loop.counter) c.loop.rest c.if-rest-lt128.true w d) c.push_byte.ensures.ok

pub loop-preserved : goal.loop-preserved
loop-preserved g c =
    let k : 9 - c.loop.counter ≡ suc (9 - (c.loop.counter + 1)) = omega arith in
    let w = subst (λ (m : ℕ). Writes g.S.Sink.Holds c.args.out.now c.loop.out c.args.n m c.loop.rest) k c.loop.invariant in
    Writes-more g.S.Sink.Holds c.args.out.now c.loop.out c.push_byte-in-loop.new.self c.args.n (9 - (c.loop.counter + 1)) c.loop.rest c.if-rest-lt128.false w c.in_ok-push_byte.ensures.ok

pub returns-clause-ok : goal.returns-clause-ok
returns-clause-ok g c =
    let k : 9 - c.loop.counter ≡ 0 = omega arith in
    let w = subst (λ (m : ℕ). Writes g.S.Sink.Holds c.args.out.now c.loop.out c.args.n m c.loop.rest) k c.loop.invariant in
    on_ok_weaker c.push_byte-2.result (λ d. Writes-end g.S.Sink.Holds c.args.out.now c.loop.out c.push_byte-2.new.self c.args.n c.loop.rest w d) c.push_byte-2.ensures.ok
