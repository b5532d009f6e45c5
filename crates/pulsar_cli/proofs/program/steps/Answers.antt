use Rattle.std.proofs.Common.{rules, arith, ◌≡◌, ◌∙◌, ◌∷◌, [], sym, ap, refl, map, Ok, Some, None}
use Rattle.pulsar_calls.specs.Content.{heard, shown}
use Rattle.pulsar_client.specs.History.{step}
use Rattle.pulsar_cli.proofs.Events.{Tells, awaits-options, good-of, ran-awaits, told-end, told-on}
use Rattle.pulsar_cli.specs.Script.{since}
use Rattle.pulsar_cli.proofs.Gives.{ran-done, ran-halted}
use Rattle.pulsar_cli.proofs.Turns.{found-none, found-some}
use Rattle.pulsar_cli.proofs.program.steps.Goals as goal

pub returns-in_default : goal.returns-in_default
returns-in_default g c = λ ps o h content held faults count awaits same stands.
    let inv = c.loop-effects.invariant ps o h content held faults count awaits same stands in
    ran-awaits o inv.0 c.loop-effects.reading c.loop-effects.feed (heard c.loop-effects.found.event) c.loop-effects.found.last inv.1

pub returns-in_default-tells : goal.returns-in_default-tells
returns-in_default-tells g c = λ ps o h content held faults count awaits same stands.
    let inv = c.loop-effects.invariant ps o h content held faults count awaits same stands in
    ran-awaits o inv.0 c.loop-effects.reading c.loop-effects.feed (heard c.loop-effects.found.event) c.loop-effects.found.last inv.1

pub returns-then-last : goal.returns-then-last
returns-then-last g c = λ ps o h content held faults count awaits same stands.
    let inv = c.loop-effects.invariant ps o h content held faults count awaits same stands in
    let value = c.deref.ensures.value in
    let told = c.in-Ok-tells.ensures in
    let tells : Tells c.loop-effects.reading c.tells.new.self (map shown c.in-Ok.effects.items) =
    record { out = rw (sym value) told.out; events = told.events; line = told.line; choice = told.choice; pending = told.pending } in
    let next = c.in-Ok.ensures.ok o inv.0 [] (rw c.deref_mut.ensures.value inv.3) in
    let good = good-of next in
    c.finish.ensures.runs ps o _ _ held count (told-end c.loop-effects.feed c.loop-effects.found.last c.if-last.true inv.1 tells (sym inv.2) good)

pub returns-in-Ok-None : goal.returns-in-Ok-None
returns-in-Ok-None g c = λ ps o h content held faults count awaits same stands.
    let inv = c.loop-effects.invariant ps o h content held faults count awaits same stands in
    let value = c.deref.ensures.value in
    let told = c.in-Ok-tells.ensures in
    let tells : Tells c.loop-effects.reading c.tells.new.self (map shown c.in-Ok.effects.items) =
    record { out = rw (sym value) told.out; events = told.events; line = told.line; choice = told.choice; pending = told.pending } in
    let next = c.in-Ok.ensures.ok o inv.0 [] (rw c.deref_mut.ensures.value inv.3) in
    let good = good-of next in
    let going = told-on c.loop-effects.found.last c.if-last.false inv.1 tells (sym inv.2) good in
    let inner : c.in-Ok-None.field-0 ≡ None = search rules in
    ran-done (found-none ps o (step c.loop-effects.found.event c.in-Ok.effects.items ∷ inv.0) c.next.new.reading c.next.new.feed (since content faults g.S.Source.left g.S.Source.faults c.next.new.source) (since held count g.K.Sink.holds g.K.Sink.faults c.next.new.sink) c.next.result (c.in-Ok-None.is ∙ ap Ok inner) (c.next.ensures.found ps o (step c.loop-effects.found.event c.in-Ok.effects.items ∷ inv.0) content held faults count going))

pub returns-in-Err : goal.returns-in-Err
returns-in-Err g c = λ ps o h content held faults count awaits same stands.
    let inv = c.loop-effects.invariant ps o h content held faults count awaits same stands in
    let value = c.deref.ensures.value in
    let told = c.in-Ok-tells.ensures in
    let tells : Tells c.loop-effects.reading c.tells.new.self (map shown c.in-Ok.effects.items) =
    record { out = rw (sym value) told.out; events = told.events; line = told.line; choice = told.choice; pending = told.pending } in
    let next = c.in-Ok.ensures.ok o inv.0 [] (rw c.deref_mut.ensures.value inv.3) in
    let good = good-of next in
    let going = told-on c.loop-effects.found.last c.if-last.false inv.1 tells (sym inv.2) good in
    let read = c.in-Err.ensures.found ps o _ content held faults count going in
    let before = going.faults in
    ran-halted c.halt.result c.in-Err.stop _ _ _ read c.halt.ensures.told refl (λ other. ap g.K.Sink.faults (c.halt.ensures.kept other))
    (c.halt.ensures.runs ps _ _ _ (omega (arith, before, c.in-Err.ensures.grows)) read.halts)

pub loop-effects-preserved : goal.loop-effects-preserved
loop-effects-preserved g c = λ ps o h content held faults count awaits same stands.
    let inv = c.loop-effects.invariant ps o h content held faults count awaits same stands in
    let value = c.deref.ensures.value in
    let told = c.in-Ok-tells.ensures in
    let tells : Tells c.loop-effects.reading c.tells.new.self (map shown c.in-Ok.effects.items) =
    record { out = rw (sym value) told.out; events = told.events; line = told.line; choice = told.choice; pending = told.pending } in
    let next = c.in-Ok.ensures.ok o inv.0 [] (rw c.deref_mut.ensures.value inv.3) in
    let good = good-of next in
    let going = told-on c.loop-effects.found.last c.if-last.false inv.1 tells (sym inv.2) good in
    let inner : c.in-Ok-Some.field-0 ≡ Some c.in-Ok-Some.found = search rules in
    let found = found-some ps o (step c.loop-effects.found.event c.in-Ok.effects.items ∷ inv.0) c.next.new.reading c.next.new.feed (since content faults g.S.Source.left g.S.Source.faults c.next.new.source) (since held count g.K.Sink.holds g.K.Sink.faults c.next.new.sink) c.next.result c.in-Ok-Some.found (c.in-Ok-Some.is ∙ ap Ok inner) (c.next.ensures.found ps o (step c.loop-effects.found.event c.in-Ok.effects.items ∷ inv.0) content held faults count going) in (
      step c.loop-effects.found.event c.in-Ok.effects.items ∷ inv.0,
      found,
      sym (awaits-options (since content faults g.S.Source.left g.S.Source.faults c.next.new.source) (since held count g.K.Sink.holds g.K.Sink.faults c.next.new.sink) (step c.loop-effects.found.event c.in-Ok.effects.items) inv.0 c.next.new.reading c.next.new.feed (heard c.in-Ok-Some.found.event) c.in-Ok-Some.found.last found),
      next,
    )
