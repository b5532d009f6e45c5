use Rattle.std.proofs.Common.{◌≡◌, drop, map}
use Rattle.pulsar_frame.specs.Payload.{payload_values}
use Rattle.pulsar_broker.specs.Kept.{consumer_in, owed_on}
use Rattle.pulsar_broker.specs.State.{serving_from}
use Rattle.pulsar_broker.proofs.Serving.{IsServing}
use Rattle.pulsar_broker.proofs.consumer.Consumer.serve.Given as goal

abbrev pub invariant-loop-message : goal.invariant-loop-message
invariant-loop-message l = record {
  same : consumer_in l.self ≡ record (consumer_in l.fn.self) { spent = l.self.spent };
  serves : IsServing l.fn.self.link l.fn.self.number l.fn.self.granted l.self.spent l.place (map payload_values (drop l.message-index l.message-items)) (owed_on l.out)
      (serving_from l.fn.cursor (consumer_in l.fn.self) (map payload_values l.fn.messages)) (owed_on l.fn.out);
}
