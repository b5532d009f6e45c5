use Rattle.std.proofs.Common.{rules, ◌≡◌, ap, Err}
use Rattle.pulsar_cli.specs.declared.stop.Stop.TheVariants as stop
use Rattle.pulsar_cli.proofs.Prints.{ends-here, halts-end, halts-line, last-happens}
use Rattle.pulsar_cli.proofs.Readings.{event-read, nothing-read}
use Rattle.pulsar_cli.proofs.program.last.Goals as goal

pub returns-in_err-event-clause-runs : goal.returns-in_err-event-clause-runs
returns-in_err-event-clause-runs g c = λ ps o h old bytes p.
    let same : c.from_residual.result ≡ Err c.in_err-event.field-0.0 = search rules in
    rw same (halts-line c.in_err-event.field-0.0 p (λ is. c.in_err-event.ensures.refused (ap Err is)))

pub returns-in_err-flush-in-None-clause-runs : goal.returns-in_err-flush-in-None-clause-runs
returns-in_err-flush-in-None-clause-runs g c = λ ps o h old bytes p.
    let more = nothing-read c.args.reading.now c.line.new.self c.args.reading.now.pending.items c.in_ok-event.field-0 c.in-None.is c.in_ok-event.ensures.reads in
    let same : c.from_residual-in_err-flush-in-None.result ≡ Err stop.Sink = search rules in
    rw same (halts-end p (more ps o p.put p.running.read h p.running.reads) c.in_err-flush-in-None.ensures.front)

pub returns-in-Some-clause-runs : goal.returns-in-Some-clause-runs
returns-in-Some-clause-runs g c = λ ps o h old bytes p.
    let found = event-read c.args.reading.now c.line.new.self c.args.reading.now.pending.items c.in_ok-event.field-0 c.in-Some.event c.in-Some.is c.in_ok-event.ensures.reads in
    last-happens p (found.1 ps o p.put p.running.read h p.running.reads) found.0

pub returns-in_ok-flush-in-None-clause-runs : goal.returns-in_ok-flush-in-None-clause-runs
returns-in_ok-flush-in-None-clause-runs g c = λ ps o h old bytes p.
    let more = nothing-read c.args.reading.now c.line.new.self c.args.reading.now.pending.items c.in_ok-event.field-0 c.in-None.is c.in_ok-event.ensures.reads in
    ends-here p (more ps o p.put p.running.read h p.running.reads) c.in_ok-flush-in-None.ensures.ok
