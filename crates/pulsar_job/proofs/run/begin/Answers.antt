use Rattle.std.proofs.Common.{rules, ◌≡◌, ◌∙◌, Err, Some, ap, refl, string_bytes, sym}
use Rattle.std.specs.Option.{option_map}
use Rattle.std.proofs.lemmas.Result.{err_from_is_err_and}
use Rattle.pulsar_work.specs.Form.{Consume, Produce, asking, lines_of}
use Rattle.pulsar_work.specs.declared.form.Form.TheVariants as form
use Rattle.pulsar_job.proofs.Begun.{begins-consume, begins-produce, halted-none, halted-reading, halted-whole}
use Rattle.pulsar_job.proofs.run.begin.Goals as goal

pub returns-in_err-url-clause-stopped : goal.returns-in_err-url-clause-stopped
returns-in_err-url-clause-stopped g c =
    let some = c.in_err-url.ensures.some in
    let why = err_from_is_err_and c.from_residual.result c.from_residual.ensures.1 in
    rw why.1 (some.0, some.1, halted-none why.0 _ why.2 refl)

pub returns-in_err-bytes-in-Some-Produce-clause-stopped : goal.returns-in_err-bytes-in-Some-Produce-clause-stopped
returns-in_err-bytes-in-Some-Produce-clause-stopped g c =
    let one = c.in-Some-Produce.is in
    let two = c.in-Some-Produce.field-0-is in
    let is : c.in_ok-url.field-0 ≡ Some (form.Produce c.in-Some-Produce.url c.in-Some-Produce.topic) = cc in
    let same : c.from_residual-in_err-bytes-in-Some-Produce.result ≡ Err c.in_err-bytes-in-Some-Produce.field-0.0 = search rules in
    rw same
    (Produce (string_bytes c.in-Some-Produce.url) (string_bytes c.in-Some-Produce.topic), sym c.in_ok-url.ensures.form ∙ ap (option_map asking) is, halted-reading c.in_err-bytes-in-Some-Produce.field-0.0 _ c.in_err-bytes-in-Some-Produce.ensures.stopped)

pub returns-in_err-lines-in-Some-Produce-clause-stopped : goal.returns-in_err-lines-in-Some-Produce-clause-stopped
returns-in_err-lines-in-Some-Produce-clause-stopped g c =
    let one = c.in-Some-Produce.is in
    let two = c.in-Some-Produce.field-0-is in
    let is : c.in_ok-url.field-0 ≡ Some (form.Produce c.in-Some-Produce.url c.in-Some-Produce.topic) = cc in
    let read = c.in_ok-bytes-in-Some-Produce.ensures in
    let why = err_from_is_err_and c.from_residual-in_err-lines-in-Some-Produce.result c.from_residual-in_err-lines-in-Some-Produce.ensures.1 in
    rw why.1
    (Produce (string_bytes c.in-Some-Produce.url) (string_bytes c.in-Some-Produce.topic), sym c.in_ok-url.ensures.form ∙ ap (option_map asking) is, halted-whole why.0 _ c.in_ok-bytes-in-Some-Produce.bytes.items why.2 read.gave read.end read.within)

pub returns-in_ok-lines-in-Some-Produce-clause-some : goal.returns-in_ok-lines-in-Some-Produce-clause-some
returns-in_ok-lines-in-Some-Produce-clause-some g c =
    let one = c.in-Some-Produce.is in
    let two = c.in-Some-Produce.field-0-is in
    let is : c.in_ok-url.field-0 ≡ Some (form.Produce c.in-Some-Produce.url c.in-Some-Produce.topic) = cc in
    let read = c.in_ok-bytes-in-Some-Produce.ensures in (
      Produce (string_bytes c.in-Some-Produce.url) (string_bytes c.in-Some-Produce.topic),
      sym c.in_ok-url.ensures.form ∙ ap (option_map asking) is,
      begins-produce (string_bytes c.in-Some-Produce.url) (string_bytes c.in-Some-Produce.topic) c.in_ok-bytes-in-Some-Produce.bytes.items _ _ (c.in_ok-lines-in-Some-Produce.ensures ∙ ap lines_of c.deref.ensures.value) read.gave read.end read.within,
    )

pub returns-in-Some-Consume-clause-some : goal.returns-in-Some-Consume-clause-some
returns-in-Some-Consume-clause-some g c =
    let one = c.in-Some-Consume.is in
    let two = c.in-Some-Consume.field-0-is in
    let is : c.in_ok-url.field-0 ≡ Some (form.Consume c.in-Some-Consume.url c.in-Some-Consume.topic c.in-Some-Consume.subscription c.in-Some-Consume.count) = cc in (
      Consume (string_bytes c.in-Some-Consume.url) (string_bytes c.in-Some-Consume.topic) (string_bytes c.in-Some-Consume.subscription) c.in-Some-Consume.count,
      sym c.in_ok-url.ensures.form ∙ ap (option_map asking) is,
      begins-consume (string_bytes c.in-Some-Consume.url) (string_bytes c.in-Some-Consume.topic) (string_bytes c.in-Some-Consume.subscription) c.in-Some-Consume.count _ refl,
    )
