use Rattle.std.proofs.Common.{◌≡◌, length, string_bytes}
use Rattle.pulsar_frame.specs.Frame.{bad, cut, left}
use Rattle.pulsar_broker.specs.History.{turns}
use Rattle.pulsar_broker.specs.Kept.{IsKept, owed_on, state_in}
use Rattle.pulsar_broker.specs.Stands.{IsSameBut}
use Rattle.pulsar_broker.proofs.Hearing.{IsHearing}
use Rattle.pulsar_broker.proofs.broker.Broker.hear.Given as goal

abbrev pub invariant-loop-message : goal.invariant-loop-message
invariant-loop-message l = record {
  failed : l.self.failed ≡ l.fn.self.failed;
  heard : IsKept l.fn.self.tables → record {
    same : IsSameBut l.fn.self l.self;
    kept : IsKept l.self.tables;
    hears : IsHearing (string_bytes l.fn.self.url) l.link l.reader (state_in l.self.tables) (owed_on l.self.outbox)
        (turns (string_bytes l.fn.self.url) l.link (cut l.fn.reader) (state_in l.fn.self.tables)) (owed_on l.fn.self.outbox) (left l.fn.reader) (bad l.fn.reader);
  };
}

abbrev pub decreases-loop-message : goal.decreases-loop-message
decreases-loop-message l = length l.reader
