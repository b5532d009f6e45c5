-- What is seen of a connection that was lent is known of it then.
use Rattle.std.specs.Prelude.{ℕ, Option, Some}
use Rattle.std.specs.Option.{OnSome}
use Rattle.std.specs.Borrow.{Fml, LendsSo, MutBor}
use Rattle.pulsar_session.specs.Link as session
use Rattle.pulsar_session.specs.contracts.connection.Connection.{the_row as connection_row}
use Rattle.pulsar_discovery.specs.Manager.{Is, Known, known}
use Rattle.pulsar_discovery.specs.Series.{put_at}
use Rattle.pulsar_discovery.specs.declared.manager.ConnectionManager.{ConnectionManager}
use Rattle.pulsar_discovery.specs.contracts.manager.ConnectionManager.{the_row}

abbrev pub seen_as : ℕ → session.Seen → Known → Known
seen_as l c k = record k { connection = put_at l (Some c) k.connection }

-- the manager ends with what the borrower leaves, and where no such connection is there as it was
abbrev pub LendsLink : MutBor ConnectionManager → ℕ → Option (MutBor session.Seen) → Fml
LendsLink m l r =
    LendsSo the_row connection_row m r (λ n w. OnSome r (Is (known n) (seen_as l w (known m.now)))) (λ n. Is (known n) (known m.now))
