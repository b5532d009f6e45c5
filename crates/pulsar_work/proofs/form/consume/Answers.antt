use Rattle.std.proofs.Common.{rules, ◌≡◌, codes, string_bytes, true, Some}
use Rattle.std.specs.Str.{bytes_eq}
use Rattle.pulsar_grammar.specs.Words.{number}
use Rattle.pulsar_work.specs.Form.{Consume}
use Rattle.pulsar_work.proofs.Forms.{consumed, on-err}
use Rattle.pulsar_work.proofs.form.consume.Goals as goal

pub returns-in_err-clone-clause-some : goal.returns-in_err-clone-clause-some
returns-in_err-clone-clause-some c =
    let is : bytes_eq (string_bytes c.args.word.now) (codes "consume") ≡ true = search rules in
    let counted : number (string_bytes c.args.count.now) ≡ Some c.in-Some.count = search rules in
    on-err c.from_residual.result (consumed _ _ c.in-Some.count (Consume (string_bytes c.args.url.now) (string_bytes c.args.topic.now) (string_bytes c.args.subscription.now)) is counted)

pub returns-in_err-clone-2-clause-some : goal.returns-in_err-clone-2-clause-some
returns-in_err-clone-2-clause-some c =
    let is : bytes_eq (string_bytes c.args.word.now) (codes "consume") ≡ true = search rules in
    let counted : number (string_bytes c.args.count.now) ≡ Some c.in-Some.count = search rules in
    on-err c.from_residual-in_err-clone-2.result
    (consumed _ _ c.in-Some.count (Consume (string_bytes c.args.url.now) (string_bytes c.args.topic.now) (string_bytes c.args.subscription.now)) is counted)

pub returns-in_err-clone-3-clause-some : goal.returns-in_err-clone-3-clause-some
returns-in_err-clone-3-clause-some c =
    let is : bytes_eq (string_bytes c.args.word.now) (codes "consume") ≡ true = search rules in
    let counted : number (string_bytes c.args.count.now) ≡ Some c.in-Some.count = search rules in
    on-err c.from_residual-in_err-clone-3.result
    (consumed _ _ c.in-Some.count (Consume (string_bytes c.args.url.now) (string_bytes c.args.topic.now) (string_bytes c.args.subscription.now)) is counted)
