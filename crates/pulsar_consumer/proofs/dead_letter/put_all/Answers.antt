use Rattle.pulsar_consumer.proofs.Copying.{put_next}
use Rattle.pulsar_consumer.proofs.dead_letter.put_all.Goals as goal

pub loop-pair-preserved : goal.loop-pair-preserved
loop-pair-preserved c =
    put_next c.loop-pair.yielded c.in-Some.pair c.put.new.properties.entries c.loop-pair.properties.entries _ c.loop-pair.invariant c.in_ok-put.ensures
