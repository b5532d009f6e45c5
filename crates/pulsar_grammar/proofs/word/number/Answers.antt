use Rattle.std.proofs.Common.{rules, ◌≡◌, ◌∙◌, sym, ap, [], List, ℕ}
use Rattle.std.proofs.lemmas.List.{nil_from_length}
use Rattle.pulsar_grammar.specs.Words.{digits_from, in_range}
use Rattle.pulsar_grammar.proofs.Numbers.{all-read}
use Rattle.pulsar_grammar.proofs.word.number.Goals as goal

pub returns : goal.returns
returns c =
    let e : c.loop-digit.rest.now ≡ [] = nil_from_length c.loop-digit.rest.now c.in_default.ensures.cases in
    all-read c.args.word.now c.loop-digit.value c.loop-digit.invariant.1 (search rules) (sym (ap (λ (ds : List ℕ). in_range (digits_from c.loop-digit.value ds)) e) ∙ c.loop-digit.invariant.0)
