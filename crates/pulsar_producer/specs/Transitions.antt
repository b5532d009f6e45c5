-- What a producer's plan does at what it is told.
use Rattle.pulsar_searches.specs.declared.transition.Transition.{Transition}
use Rattle.pulsar_producer.specs.declared.deed.Deed.{Deed}
use Rattle.pulsar_producer.specs.declared.multi_topic.deed.MultiDeed.{MultiDeed}

abbrev pub ProducerTransition : Type 0 → Type 0 → Type 0
ProducerTransition S A = Transition S Deed A

-- and the plan of one that uses a producer of many topics
abbrev pub MultiTransition : Type 0 → Type 0 → Type 0
MultiTransition S A = Transition S MultiDeed A
