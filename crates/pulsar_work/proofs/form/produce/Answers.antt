use Rattle.std.proofs.Common.{rules, ◌≡◌, codes, string_bytes, true}
use Rattle.std.specs.Str.{bytes_eq}
use Rattle.pulsar_work.specs.Form.{Produce}
use Rattle.pulsar_work.proofs.Forms.{on-err, produced}
use Rattle.pulsar_work.proofs.form.produce.Goals as goal

pub returns-in_err-clone-clause-some : goal.returns-in_err-clone-clause-some
returns-in_err-clone-clause-some c =
    let is : bytes_eq (string_bytes c.args.word.now) (codes "produce") ≡ true = search rules in
    on-err c.from_residual.result (produced _ (Produce (string_bytes c.args.url.now) (string_bytes c.args.topic.now)) is)

pub returns-in_err-clone-2-clause-some : goal.returns-in_err-clone-2-clause-some
returns-in_err-clone-2-clause-some c =
    let is : bytes_eq (string_bytes c.args.word.now) (codes "produce") ≡ true = search rules in
    on-err c.from_residual-in_err-clone-2.result (produced _ (Produce (string_bytes c.args.url.now) (string_bytes c.args.topic.now)) is)
