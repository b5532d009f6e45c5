use Rattle.std.proofs.Common.{string_bytes}
use Rattle.pulsar_consumer.proofs.Copying.{put_one}
use Rattle.pulsar_consumer.proofs.dead_letter.put.Goals as goal

pub returns : goal.returns
returns c =
    put_one c.in_ok-key.key c.in_ok-value.value (string_bytes c.args.pair.now.key) (string_bytes c.args.pair.now.value)
    c.args.properties.now.entries c.insert.new.self.entries c.in_ok-insert.ensures.entries c.in_ok-key.ensures.cases c.in_ok-value.ensures.cases
