use Rattle.std.proofs.Common.{◌+◌, ◌∙◌, ap, refl, subst, []}
use Rattle.pulsar_grammar.specs.Grammar.{Refused}
use Rattle.pulsar_grammar.specs.Parsed.{line_of, setting_of}
use Rattle.pulsar_cli.specs.Shown.{Reads}
use Rattle.pulsar_cli.proofs.Readings.{none-yet, reads-nothing, reads-set, refuses-set, script-line}
use Rattle.pulsar_cli.proofs.reading.Reading.take.Goals as goal

pub returns-in_err-set-in-Sets-clause-refused : goal.returns-in_err-set-in-Sets-clause-refused
returns-in_err-set-in-Sets-clause-refused c = λ e.
    let refused = c.in_err-set-in-Sets.ensures.refused in
    (refused.1, λ bytes is ps o put read h a. refuses-set bytes (setting_of c.in-Sets.setting) a (is ∙ ap line_of c.in-Sets.is) refused.2)

pub returns-in_ok-counts-in-Nothing-clause-reads : goal.returns-in_ok-counts-in-Nothing-clause-reads
returns-in_ok-counts-in-Nothing-clause-reads c = λ bytes is ps o put read h a.
    let next = c.in_ok-counts-in-Nothing.ensures in
    reads-nothing bytes a (is ∙ ap line_of c.in-Nothing.is) next.choice next.text next.ok

pub returns-in_ok-counts-in-Sets-clause-reads : goal.returns-in_ok-counts-in-Sets-clause-reads
returns-in_ok-counts-in-Sets-clause-reads c = λ bytes is ps o put read h a.
    let set = c.in_ok-set-in-Sets.ensures in
    let next = c.in_ok-counts-in-Sets.ensures in
    let none = none-yet h _ a.count set.first in
    let at : Reads ps o c.args.self.now put read [] = subst (λ t. Reads ps o c.args.self.now put read t) none a in
    rw none
    (reads-set bytes (setting_of c.in-Sets.setting) at (is ∙ ap line_of c.in-Sets.is) (rw next.choice set.ok)
    (record { out = next.text.out ∙ set.text.out; events = next.text.events ∙ set.text.events }) (next.ok ∙ ap (λ n. n + 1) set.line))

pub returns-in-Happens-clause-reads : goal.returns-in-Happens-clause-reads
returns-in-Happens-clause-reads c = λ bytes is. (is ∙ ap line_of c.in-Happens.is, refl)

pub returns-in-Refused-clause-refused : goal.returns-in-Refused-clause-refused
returns-in-Refused-clause-refused c = λ e. (refl, λ bytes is ps o put read h a. script-line bytes Refused a (is ∙ ap line_of c.in-Refused.is))
