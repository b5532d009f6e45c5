use Rattle.std.proofs.Common.{rules, ◌∙◌, ◌<◌, [], sym, ap, length}
use Rattle.pulsar_grammar.specs.Parsed.{consumer_draft_of, taken_in}
use Rattle.pulsar_grammar.proofs.Consumers.{next_refused, next_taken}
use Rattle.pulsar_grammar.proofs.consumer.all.Goals as goal

pub loop-word-preserved : goal.loop-word-preserved
loop-word-preserved c =
    let within : c.loop-word.word-index < length c.args.words.now = search rules in
    next_taken (λ w. w.now) c.args.words.now c.loop-word.word-index (record { ref_ptr = (0, 0); now = [] }) _ (consumer_draft_of c.one.new.draft) within c.loop-word.invariant
    (sym (ap (λ t. taken_in t (consumer_draft_of c.one.new.draft)) c.if-not-taken.false) ∙ c.in_ok-taken.ensures)

pub returns-then-not-taken : goal.returns-then-not-taken
returns-then-not-taken c =
    let within : c.loop-word.word-index < length c.args.words.now = search rules in
    next_refused (λ w. w.now) c.args.words.now c.loop-word.word-index (record { ref_ptr = (0, 0); now = [] }) _ within c.loop-word.invariant
    (sym (ap (λ t. taken_in t (consumer_draft_of c.one.new.draft)) c.if-not-taken.true) ∙ c.in_ok-taken.ensures)
