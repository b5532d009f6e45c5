use Rattle.std.proofs.Common.{rules, ◌≡◌, ◌∙◌, [], refl, ap, map, subst, Ok, Some, None}
use Rattle.pulsar_client.specs.Client.{StandsFor}
use Rattle.pulsar_calls.specs.Content.{heard}
use Rattle.pulsar_cli.specs.Shown.{options_in}
use Rattle.pulsar_cli.proofs.Events.{ran-awaits}
use Rattle.pulsar_cli.specs.Script.{since}
use Rattle.pulsar_cli.proofs.Gives.{ran-done, ran-halted, ran-new}
use Rattle.pulsar_cli.proofs.Turns.{found-none, found-some}
use Rattle.pulsar_cli.proofs.program.script.Goals as goal

pub returns-in_default : goal.returns-in_default
returns-in_default g c = ran-new _ _ _ refl refl

pub returns-in-Ok-None : goal.returns-in-Ok-None
returns-in-Ok-None g c =
    let o = (options_in (map (λ p. (goal.CustomRoutingPolicy-dyn g (p.vtable, p.value)).routes p.value) c.args.policies.items) c.next.new.reading) in
    let going = c.in-Ok.ensures (map (λ p. (goal.CustomRoutingPolicy-dyn g (p.vtable, p.value)).routes p.value) c.args.policies.items) o (g.S.Source.left c.args.source.now) (g.K.Sink.holds c.args.sink.now) (g.S.Source.faults c.args.source.now) (g.K.Sink.faults c.args.sink.now) in
    let inner : c.in-Ok-None.field-0 ≡ None = search rules in
    ran-done (found-none (map (λ p. (goal.CustomRoutingPolicy-dyn g (p.vtable, p.value)).routes p.value) c.args.policies.items) o [] c.next.new.reading c.next.new.feed (since (g.S.Source.left c.args.source.now) (g.S.Source.faults c.args.source.now) g.S.Source.left g.S.Source.faults c.next.new.source) (since (g.K.Sink.holds c.args.sink.now) (g.K.Sink.faults c.args.sink.now) g.K.Sink.holds g.K.Sink.faults c.next.new.sink) c.next.result (c.in-Ok-None.is ∙ ap Ok inner) (c.next.ensures.found (map (λ p. (goal.CustomRoutingPolicy-dyn g (p.vtable, p.value)).routes p.value) c.args.policies.items) o [] (g.S.Source.left c.args.source.now) (g.K.Sink.holds c.args.sink.now) (g.S.Source.faults c.args.source.now) (g.K.Sink.faults c.args.sink.now) going))

pub returns-in-Err : goal.returns-in-Err
returns-in-Err g c =
    let o = (options_in (map (λ p. (goal.CustomRoutingPolicy-dyn g (p.vtable, p.value)).routes p.value) c.args.policies.items) c.next.new.reading) in
    let going = c.in-Ok.ensures (map (λ p. (goal.CustomRoutingPolicy-dyn g (p.vtable, p.value)).routes p.value) c.args.policies.items) o (g.S.Source.left c.args.source.now) (g.K.Sink.holds c.args.sink.now) (g.S.Source.faults c.args.source.now) (g.K.Sink.faults c.args.sink.now) in
    let read = c.in-Err.ensures.found (map (λ p. (goal.CustomRoutingPolicy-dyn g (p.vtable, p.value)).routes p.value) c.args.policies.items) o [] (g.S.Source.left c.args.source.now) (g.K.Sink.holds c.args.sink.now) (g.S.Source.faults c.args.source.now) (g.K.Sink.faults c.args.sink.now) going in
    ran-halted c.halt.result c.in-Err.stop _ _ _ read c.halt.ensures.told refl (λ other. ap g.K.Sink.faults (c.halt.ensures.kept other)) (c.halt.ensures.runs _ _ _ _ c.in-Err.ensures.grows read.halts)

pub returns-in_default-options : goal.returns-in_default-options
returns-in_default-options g c =
    let o = (options_in (map (λ p. (goal.CustomRoutingPolicy-dyn g (p.vtable, p.value)).routes p.value) c.args.policies.items) c.next.new.reading) in
    let going = c.in-Ok.ensures (map (λ p. (goal.CustomRoutingPolicy-dyn g (p.vtable, p.value)).routes p.value) c.args.policies.items) o (g.S.Source.left c.args.source.now) (g.K.Sink.holds c.args.sink.now) (g.S.Source.faults c.args.source.now) (g.K.Sink.faults c.args.sink.now) in
    let inner : c.in-Ok-Some.field-0 ≡ Some c.in-Ok-Some.found = search rules in
    ran-awaits o [] c.next.new.reading c.next.new.feed (heard c.in-Ok-Some.found.event) c.in-Ok-Some.found.last (found-some (map (λ p. (goal.CustomRoutingPolicy-dyn g (p.vtable, p.value)).routes p.value) c.args.policies.items) o [] c.next.new.reading c.next.new.feed (since (g.S.Source.left c.args.source.now) (g.S.Source.faults c.args.source.now) g.S.Source.left g.S.Source.faults c.next.new.source) (since (g.K.Sink.holds c.args.sink.now) (g.K.Sink.faults c.args.sink.now) g.K.Sink.holds g.K.Sink.faults c.next.new.sink) c.next.result c.in-Ok-Some.found (c.in-Ok-Some.is ∙ ap Ok inner) (c.next.ensures.found (map (λ p. (goal.CustomRoutingPolicy-dyn g (p.vtable, p.value)).routes p.value) c.args.policies.items) o [] (g.S.Source.left c.args.source.now) (g.K.Sink.holds c.args.sink.now) (g.S.Source.faults c.args.source.now) (g.K.Sink.faults c.args.sink.now) going))

pub returns-in_default-new : goal.returns-in_default-new
returns-in_default-new g c =
    let o = (options_in (map (λ p. (goal.CustomRoutingPolicy-dyn g (p.vtable, p.value)).routes p.value) c.args.policies.items) c.next.new.reading) in
    let going = c.in-Ok.ensures (map (λ p. (goal.CustomRoutingPolicy-dyn g (p.vtable, p.value)).routes p.value) c.args.policies.items) o (g.S.Source.left c.args.source.now) (g.K.Sink.holds c.args.sink.now) (g.S.Source.faults c.args.source.now) (g.K.Sink.faults c.args.sink.now) in
    let inner : c.in-Ok-Some.field-0 ≡ Some c.in-Ok-Some.found = search rules in
    ran-awaits o [] c.next.new.reading c.next.new.feed (heard c.in-Ok-Some.found.event) c.in-Ok-Some.found.last (found-some (map (λ p. (goal.CustomRoutingPolicy-dyn g (p.vtable, p.value)).routes p.value) c.args.policies.items) o [] c.next.new.reading c.next.new.feed (since (g.S.Source.left c.args.source.now) (g.S.Source.faults c.args.source.now) g.S.Source.left g.S.Source.faults c.next.new.source) (since (g.K.Sink.holds c.args.sink.now) (g.K.Sink.faults c.args.sink.now) g.K.Sink.holds g.K.Sink.faults c.next.new.sink) c.next.result c.in-Ok-Some.found (c.in-Ok-Some.is ∙ ap Ok inner) (c.next.ensures.found (map (λ p. (goal.CustomRoutingPolicy-dyn g (p.vtable, p.value)).routes p.value) c.args.policies.items) o [] (g.S.Source.left c.args.source.now) (g.K.Sink.holds c.args.sink.now) (g.S.Source.faults c.args.source.now) (g.K.Sink.faults c.args.sink.now) going))

pub returns : goal.returns
returns g c =
    let o = (options_in (map (λ p. (goal.CustomRoutingPolicy-dyn g (p.vtable, p.value)).routes p.value) c.args.policies.items) c.next.new.reading) in
    let going = c.in-Ok.ensures (map (λ p. (goal.CustomRoutingPolicy-dyn g (p.vtable, p.value)).routes p.value) c.args.policies.items) o (g.S.Source.left c.args.source.now) (g.K.Sink.holds c.args.sink.now) (g.S.Source.faults c.args.source.now) (g.K.Sink.faults c.args.sink.now) in
    let inner : c.in-Ok-Some.field-0 ≡ Some c.in-Ok-Some.found = search rules in
    let awaits = found-some (map (λ p. (goal.CustomRoutingPolicy-dyn g (p.vtable, p.value)).routes p.value) c.args.policies.items) o [] c.next.new.reading c.next.new.feed (since (g.S.Source.left c.args.source.now) (g.S.Source.faults c.args.source.now) g.S.Source.left g.S.Source.faults c.next.new.source) (since (g.K.Sink.holds c.args.sink.now) (g.K.Sink.faults c.args.sink.now) g.K.Sink.holds g.K.Sink.faults c.next.new.sink) c.next.result c.in-Ok-Some.found (c.in-Ok-Some.is ∙ ap Ok inner) (c.next.ensures.found (map (λ p. (goal.CustomRoutingPolicy-dyn g (p.vtable, p.value)).routes p.value) c.args.policies.items) o [] (g.S.Source.left c.args.source.now) (g.K.Sink.holds c.args.sink.now) (g.S.Source.faults c.args.source.now) (g.K.Sink.faults c.args.sink.now) going) in
    let stands = subst (λ x. StandsFor (λ p. (goal.CustomRoutingPolicy-dyn g (p.vtable, p.value)).routes p.value) x c.in-Ok-new.client [] []) c.in-Ok-options.ensures c.in-Ok-new.ensures.stands in
    c.drive.ensures (map (λ p. (goal.CustomRoutingPolicy-dyn g (p.vtable, p.value)).routes p.value) c.args.policies.items) o [] (g.S.Source.left c.args.source.now) (g.K.Sink.holds c.args.sink.now) (g.S.Source.faults c.args.source.now) (g.K.Sink.faults c.args.sink.now) awaits refl stands
