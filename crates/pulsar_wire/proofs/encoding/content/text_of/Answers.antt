use Rattle.std.proofs.Common.{ap, ◌∙◌}
use Rattle.pulsar_wire.specs.Shown.{shown}
use Rattle.pulsar_wire.proofs.Texts.{text_some, text_none}
use Rattle.pulsar_wire.proofs.encoding.content.text_of.Goals as goal

pub returns-in_ok-from_str-in-Ok : goal.returns-in_ok-from_str-in-Ok
returns-in_ok-from_str-in-Ok c =
    text_some (shown c.args.value) c.in-Delimited.bytes.now _ (ap shown c.in-Delimited.is) (c.in_ok-from_str-in-Ok.ensures.ok ∙ c.in-Ok.ensures.cases.0) c.in-Ok.ensures.cases.1

pub returns-in-Err : goal.returns-in-Err
returns-in-Err c = text_none (shown c.args.value) c.in-Delimited.bytes.now (ap shown c.in-Delimited.is) c.in-Err.ensures.cases.0
