use Rattle.std.proofs.Common.{rules, ◌<◌, length, ◌∙◌, ap}
use Rattle.pulsar_calls.specs.Content.{shown}
use Rattle.std.proofs.Common.{map}
use Rattle.pulsar_work.specs.Report.{errors_of, first}
use Rattle.pulsar_work.proofs.Told.{first-error}
use Rattle.pulsar_work.proofs.printing.first_error.Goals as goal

pub returns-in-Some : goal.returns-in-Some
returns-in-Some c =
    let within : c.loop-entry.entry-index < length c.args.trace.now = search rules in
    first-error c.args.trace.now c.loop-entry.entry-index c.entry-item.result _ within c.entry-item.is c.loop-entry.invariant
    (c.in-Some.ensures ∙ ap (λ es. first (errors_of (map shown es))) c.deref.ensures.value)
