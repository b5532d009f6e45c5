use Rattle.std.proofs.Common.{rules, refl, ◌≡◌, ◌∙◌, sym, ap, Err}
use Rattle.pulsar_grammar.specs.Grammar.{line}
use Rattle.pulsar_cli.specs.declared.stop.Stop.TheVariants as stop
use Rattle.pulsar_cli.proofs.Readings.{line-found}
use Rattle.pulsar_cli.proofs.reading.Reading.line.Goals as goal

pub returns-clause-reads : goal.returns-clause-reads
returns-clause-reads c =
    let is = c.in-Ok.ensures ∙ ap line c.deref.ensures.value in
    line-found _ _ _ c.args.self.now.pending.items _ (c.in_ok-found.ensures.reads c.args.self.now.pending.items (sym is)) refl (record { out = refl; events = refl }) refl

pub returns-in_err-found-clause-refused : goal.returns-in_err-found-clause-refused
returns-in_err-found-clause-refused c = λ e.
    let is = c.in-Ok.ensures ∙ ap line c.deref.ensures.value in
    let same : c.take.result ≡ Err stop.Refused = search rules in
    let bad = c.in_err-found.ensures.refused (sym c.in_err-found.was ∙ same) in
    (bad.0, bad.1 c.args.self.now.pending.items (sym is))
