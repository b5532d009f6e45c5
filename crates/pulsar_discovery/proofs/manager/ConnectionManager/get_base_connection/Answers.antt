use Rattle.std.proofs.Common.{subst}
use Rattle.pulsar_discovery.specs.Manager.{Is, OnGot, after_get, known}
use Rattle.pulsar_discovery.proofs.manager.ConnectionManager.get_base_connection.Goals as goal

pub returns-in-Ok-clause-known : goal.returns-in-Ok-clause-known
returns-in-Ok-clause-known c =
    subst (λ a. OnGot c.get_or_want.result (Is (known c.get_or_want.new.self) (after_get a c.args.now (known c.args.self.now))))
    c.in-Ok.ensures c.get_or_want.ensures.known
