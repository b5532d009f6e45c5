use Rattle.std.proofs.Common.{[]}
use Rattle.pulsar_cli.proofs.Begins.{in-words, none-set}
use Rattle.pulsar_cli.proofs.demonstration.play.Goals as goal

pub returns : goal.returns
returns c =
    let options = none-set _ _ _ c.in_ok-options.ensures c.in_ok-defaults.ensures c.new.ensures.items in
    let stands = in-words _ _ options c.in_ok-client.ensures.stands in
    c.in_ok-played.ensures c.args.keeps (λ h good. good) ([], stands) c.in_ok-play.ensures
