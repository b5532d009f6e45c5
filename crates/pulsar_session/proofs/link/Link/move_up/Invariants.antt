use Rattle.std.proofs.Common.{◌≡◌, length, map}
use Rattle.pulsar_session.specs.Link.{moved_up}
use Rattle.pulsar_session.specs.Kept.{standing, table}
use Rattle.pulsar_session.proofs.link.Link.move_up.Given as goal

abbrev pub invariant-up : goal.invariant-up
invariant-up l = moved_up (map standing l.self.line.items) (table l.self) ≡ moved_up (map standing l.fn.self.line.items) (table l.fn.self)

abbrev pub decreases-up : goal.decreases-up
decreases-up l = length l.self.line.items
