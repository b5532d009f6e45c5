use Rattle.std.proofs.Common.{rules, ◌≡◌, refl, length}
use Rattle.pulsar_cli.proofs.Feeds.{fed-new}
use Rattle.pulsar_cli.proofs.feed.Feed.new.Goals as goal

pub returns-clause-fed : goal.returns-clause-fed
returns-clause-fed c =
    let size : length c.in-Ok.piece.items ≡ 65536 = search rules in
    λ content faults. fed-new _ content faults size refl refl refl
