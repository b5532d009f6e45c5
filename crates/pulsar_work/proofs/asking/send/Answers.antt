use Rattle.std.proofs.Common.{rules, ◌<◌, length}
use Rattle.pulsar_work.proofs.Asked.{next-send}
use Rattle.pulsar_work.proofs.asking.send.Goals as goal

pub returns-then-sent-lines : goal.returns-then-sent-lines
returns-then-sent-lines c =
    let within : c.saturating_sub-sent.result < length c.args.lines.now = search rules in
    next-send c.args.lines.now c.saturating_sub-sent.result _ c.index-lines-sent.result c.deref.result.now _ c.saturating_sub-sent.ensures within c.index-lines-sent.is c.deref.ensures.value
    c.in_ok-message.ensures
